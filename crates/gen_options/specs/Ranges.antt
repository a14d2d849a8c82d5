-- The ranges of the options.
-- Source: docs/COMMANDS.md.
use Rattle.std.specs.Prelude.{◌*◌, ◌≤◌, ◌&&◌, Bool, nat_le}
use Rattle.gen_options.specs.declared.options.Options.{Options}

-- 1 to 32 callers, at most 16,000 rounds, 1 to 200 events, and at most 16,000 rounds of all callers together
abbrev pub is_in_range : Options → Bool
is_in_range o =
    nat_le 1 o.callers && nat_le o.callers 32 && nat_le o.rounds 16000 && nat_le 1 o.events && nat_le o.events 200
    && nat_le (o.callers * o.rounds) 16000

-- the same as facts
pub record IsInRange (o : Options) : Type 0 where
  pub a_caller : 1 ≤ o.callers
  pub callers : o.callers ≤ 32
  pub rounds : o.rounds ≤ 16000
  pub an_event : 1 ≤ o.events
  pub events : o.events ≤ 200
  pub all_rounds : o.callers * o.rounds ≤ 16000
