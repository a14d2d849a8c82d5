-- The gate as plain data, and what each of its steps does.
use Rattle.std.specs.Prelude.{ℕ, ◌+◌, ◌%◌, ◌==◌, ◌&&◌, not, Bool, List, [], slice_index_or, slice_set, if◌then◌else◌}
use Rattle.std.specs.List.{list_any}
use Rattle.ids_types.specs.declared.mode.Mode.{Mode}
use Rattle.ids_types.specs.declared.mode.Mode.TheVariants.{Detailed}
use Rattle.ids_config.specs.Parts.{Event}
use Rattle.chain_spec.specs.declared.fate.Fate.TheVariants.{AtMode, AtBlock, AtNth}
use Rattle.chain_spec.specs.Gate.{is_filtered, is_bypassing, is_detailed}
use Rattle.filter_gate.specs.declared.verdict.Verdict.{Verdict}
use Rattle.filter_gate.specs.declared.verdict.Verdict.TheVariants.{Held, Bypass, Pass}

-- what is kept of an event: its reporting mode, its n, how many items arrived since the last nth one, and the
-- states that block it
pub record Row : Type 0 where
  pub mode : Mode
  pub nth : ℕ
  pub since : ℕ
  pub block : List ℕ

-- the state, and a row for each event
pub record Gate : Type 0 where
  pub state : ℕ
  pub rows : List Row

-- ---- one event

-- the row of an event that has this mode, where so many items arrived since the last nth one
abbrev pub row_with : Event → Mode → ℕ → Row
row_with event mode since = record { mode = mode; nth = event.nth; since = since; block = event.block }

-- the row of an event of which nothing came yet
abbrev pub fresh_row : Event → Row
fresh_row event = row_with event event.mode 0

-- the state is one of those that block the event
abbrev pub is_blocking : ℕ → Row → Bool
is_blocking state row = list_any (λ blocked. blocked == state) row.block

-- an item passes reporting mode and block state under this state
abbrev pub lets_in : ℕ → Row → Bool
lets_in state row = is_filtered row.mode && not (is_blocking state row)

-- how many arrived since the last nth one, with one more: 0 where that one is an nth one
abbrev pub since_with_one : Row → ℕ
since_with_one row = (row.since + 1) % row.nth

-- the row with one more item that arrived
abbrev pub with_arrival : Row → Row
with_arrival row = record { mode = row.mode; nth = row.nth; since = since_with_one row; block = row.block }

-- the row with this mode
abbrev pub with_mode : Mode → Row → Row
with_mode mode row = record { mode = mode; nth = row.nth; since = row.since; block = row.block }

-- the verdict on an item under this state
abbrev pub verdict_on : ℕ → Row → Verdict
verdict_on state row =
    if is_bypassing row.mode then Bypass (is_detailed row.mode)
    else if not (is_filtered row.mode) then Held AtMode
    else if is_blocking state row then Held AtBlock
    else if since_with_one row == 0 then Pass (is_detailed row.mode)
    else Held AtNth

-- the row after an item under this state
abbrev pub after_asking : ℕ → Row → Row
after_asking state row = if lets_in state row then with_arrival row else row

-- ---- all events

-- row k
abbrev pub row_at : Gate → ℕ → Row
row_at gate k = slice_index_or gate.rows k (record { mode = Detailed; nth = 1; since = 0; block = [] })

-- the gate with this row as row k
abbrev pub with_row : ℕ → Row → Gate → Gate
with_row k row gate = record { state = gate.state; rows = slice_set gate.rows k row }

-- the gate after an item of event k
abbrev pub gate_asked : ℕ → Gate → Gate
gate_asked k gate = with_row k (after_asking gate.state (row_at gate k)) gate

-- the gate with this mode for event k
abbrev pub gate_with_mode : ℕ → Mode → Gate → Gate
gate_with_mode k mode gate = with_row k (with_mode mode (row_at gate k)) gate
