-- What the lines of callers ask for, and their text.
use Rattle.std.specs.Prelude.{ℕ, ◌≤◌, List, [], ◌∷◌, ◌++◌, length, map, decimal, slice_index_or, slice_range, Vec, ⊤}
use Rattle.std.specs.List.{AllByRecursion}
use Rattle.std.specs.declared.alloc.Global.{Global}
use Rattle.text_spec.specs.TraceText.{Asked, reports, changes, sets, TraceLine, calls, trace_line_for}
use Rattle.text_spec.specs.Words.{space, text_of}
use Rattle.trace_text.specs.declared.rows.Line.{Line}
use Rattle.trace_text.specs.declared.rows.TraceAct.{TraceAct}
use Rattle.trace_text.specs.declared.rows.TraceAct.TheVariants as acts
use Rattle.trace_text.specs.declared.rows.Row.{Row}
use Rattle.trace_text.specs.declared.rows.Row.TheVariants as rows
use Rattle.trace_text.specs.declared.rows.CallerRows.TheInside.{Inside}

-- what an act asks for, with its context as bytes
abbrev pub act_asked : TraceAct → Asked
act_asked (acts.Report event count stamp context) = reports event count stamp context.now
act_asked (acts.State state) = changes state
act_asked (acts.SetMode event mode) = sets event mode

-- what a line asks for
abbrev pub line_asked : Line → Asked
line_asked line = act_asked line.act

-- the context of what is asked for
abbrev pub bytes_asked : Asked → List ℕ
bytes_asked (reports event count stamp bytes) = bytes
bytes_asked (changes state) = []
bytes_asked (sets event mode) = []

-- what a row asks for, over the bytes of all lines
abbrev pub row_asked : List ℕ → Row → Asked
row_asked bytes (rows.Report event count stamp start end) = reports event count stamp (slice_range bytes start end)
row_asked bytes (rows.State state) = changes state
row_asked bytes (rows.SetMode event mode) = sets event mode

-- what the rows of each caller ask for
abbrev pub callers_asked : List ℕ → List (Vec Row Global) → List (List Asked)
callers_asked bytes callers = map (λ (rows : Vec Row Global). map (row_asked bytes) rows.items) callers

-- the row's context lies among so many bytes
abbrev pub IsRowWithin : ℕ → Row → Type 0
IsRowWithin n (rows.Report event count stamp start end) = (start ≤ end) × (end ≤ n)
IsRowWithin n (rows.State state) = ⊤
IsRowWithin n (rows.SetMode event mode) = ⊤

-- the contexts of all rows do
abbrev pub AreWithin : ℕ → List (Vec Row Global) → Type 0
AreWithin n callers = AllByRecursion (λ (rows : Vec Row Global). AllByRecursion (IsRowWithin n) rows.items) callers

-- line i of some, from 0
abbrev pub line_at : List Asked → ℕ → Asked
line_at lines i = slice_index_or lines i (changes 0)

-- what each caller asks for
abbrev pub asked_of : Inside → List (List Asked)
asked_of r = callers_asked r.bytes.items r.callers.items

-- the contexts of all lines are there
abbrev pub AreSound : Inside → Type 0
AreSound r = AreWithin (length r.bytes.items) r.callers.items

-- the text of lines
abbrev pub lines_text : List TraceLine → List ℕ
lines_text lines = text_of (map trace_line_for lines)

-- the text of a caller's lines
abbrev pub caller_text : ℕ → List Asked → List ℕ
caller_text caller lines = lines_text (map (calls caller) lines)

-- ticks, each after a space
abbrev pub ticks_text : List ℕ → List ℕ
ticks_text [] = []
ticks_text (tick ∷ ticks) = (space ∷ decimal tick) ++ ticks_text ticks
