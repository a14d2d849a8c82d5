-- The threshold filter: an item passes once the counts of its window reach a number.
-- Public standard: AUTOSAR SWS Intrusion Detection System Manager, threshold filter.
use Rattle.std.specs.Prelude.{ℕ, nat_le, Bool, true, List, [], ◌∷◌, Option, Some, None}
use Rattle.ids_config.specs.declared.parts.Window.{Window as Setting}
use Rattle.chain_spec.specs.Counting.{Occurrence, among}
use Rattle.chain_spec.specs.Windows.{Window, windows_of, sum_of}

-- the sum of the counts in the newest window
abbrev pub newest_sum : {A : Type 0} → (A → ℕ) → List (Window A) → ℕ
newest_sum count_of [] = 0
newest_sum count_of (w ∷ older) = sum_of count_of w

-- the sum of the counts in an item's own window, up to and with itself
abbrev pub sum_with : ℕ → Occurrence → List Occurrence → ℕ
sum_with interval item before =
    newest_sum (λ one. one.count) (windows_of (λ one. one.tick) interval (item ∷ among item.event before))

-- whether an item passes, if these came before it: without a threshold it does
abbrev pub verdict : Option Setting → Occurrence → List Occurrence → Bool
verdict None item before = true
verdict (Some setting) item before = nat_le setting.number (sum_with setting.interval item before)
