-- Aggregation: what the one item of a window has of those that came into it.
-- Public standard: AUTOSAR SWS Intrusion Detection System Manager, aggregation filter.
use Rattle.std.specs.Prelude.{ℕ, min, Bool, List, [], ◌∷◌, Option, if◌then◌else◌}
use Rattle.std.specs.Option.{option_or}
use Rattle.chain_spec.specs.Windows.{Window, sum_of}

-- the context data of the first item that has some: the opener, and then the others
abbrev pub first_kept : {A C : Type 0} → (A → Option C) → A → List A → Option C
first_kept context_of opener [] = context_of opener
first_kept context_of opener (x ∷ before) = option_or (first_kept context_of opener before) (context_of x)

-- the context data of the last item that has some
abbrev pub last_kept : {A C : Type 0} → (A → Option C) → A → List A → Option C
last_kept context_of opener [] = context_of opener
last_kept context_of opener (x ∷ before) = option_or (context_of x) (last_kept context_of opener before)

-- the context data that a window keeps: the last, or else the first
abbrev pub kept_of : {A C : Type 0} → Bool → (A → Option C) → Window A → Option C
kept_of last context_of w =
    if last then last_kept context_of w.opener w.more else first_kept context_of w.opener w.more

-- the count of a window: the sum of the counts, at most 65,535
abbrev pub count_of : {A : Type 0} → (A → ℕ) → Window A → ℕ
count_of counts w = min (sum_of counts w) 65535
