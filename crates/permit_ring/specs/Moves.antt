-- Moves: steps of the ring machine, each with the number that it found in its word.
use Rattle.std.specs.Prelude.{◌≡◌, ◌%◌, ◌==◌, ◌∷◌}
use Rattle.permit_ring.specs.Names.{ℕ, Bool, true, false, List, [], filter, Step, Look, Claim, Finish, See, Read, Offer, Mark, Sweep, Move, Machine, possible, after, mark_at, loss_at, packed}

-- the number that a step finds; a finish only writes, and splits and joins look at nothing that they find
abbrev pub found_at : Machine → Step → ℕ
found_at m (Look i) = packed m.limit m.word
found_at m (Claim i) = packed m.limit m.word
found_at m See = mark_at m.marks (m.reaped % m.positions)
found_at m Read = packed m.limit m.word
found_at m (Offer k) = packed m.limit m.word
found_at m (Mark i kind) = (loss_at m kind).value
found_at m (Sweep kind) = (loss_at m kind).value
found_at m _ = 0

-- a step with what it found
abbrev pub move : Step → ℕ → Move
move step found = record { step = step; found = found }

-- the moves lead from one state to another: each step is possible in turn, and finds what the state shows
abbrev pub Leads : Machine → List Move → Machine → Type 0
Leads m [] now = now ≡ m
Leads m (v ∷ vs) now = (possible m v.step ≡ true) × (v.found ≡ found_at m v.step) × Leads (after m v.step) vs now

-- the step is one of seat i
abbrev pub is_of_seat : ℕ → Step → Bool
is_of_seat i (Look j) = i == j
is_of_seat i (Claim j) = i == j
is_of_seat i (Finish j) = i == j
is_of_seat i (Mark j kind) = i == j
is_of_seat i _ = false

-- the step is one of the keeper, who makes the seats and takes them back
abbrev pub is_of_keeper : Step → Bool
is_of_keeper (Look j) = false
is_of_keeper (Claim j) = false
is_of_keeper (Finish j) = false
is_of_keeper (Mark j kind) = false
is_of_keeper _ = true

-- the moves of seat i among all
abbrev pub by_seat : ℕ → List Move → List Move
by_seat i moves = filter (λ (v : Move). is_of_seat i v.step) moves

-- the keeper's moves among all
abbrev pub by_keeper : List Move → List Move
by_keeper moves = filter (λ (v : Move). is_of_keeper v.step) moves
