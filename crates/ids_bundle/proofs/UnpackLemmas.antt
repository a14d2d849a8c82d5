-- Unpacking and counting: units are taken from the front. A stream of units has one reading, however it comes.
use Rattle.ids_bundle.proofs.Names.{◌≡◌, ℕ, ◌-◌, ◌^◌, ◌<◌, ◌≤◌, List, [], ◌∷◌, ◌++◌, length, take, drop, Err, arith, AllByRecursion, Result, joined, AreMessages, MessageParts, IsRun, Run, all_of, unit, units, FitsUnit, IsUnit, rules, common_steps, ◌+◌, ◌*◌, Ok, IsJoined, refl, ap, append_assoc, AreBytes, FitsIn, ArePacked, All-drop, IsByte, messages_of}
use Rattle.ids_bundle.specs.declared.fault.UnpackFault.{UnpackFault}
use Rattle.ids_bundle.specs.Unpacking.{StopsAt, Unpacks}
use Rattle.ids_bundle.proofs.UnitLemmas.{all_parts, one_answer, free_units, part_is_stuck, few_messages, cases_list, one_way}
use Rattle.ids_bundle.specs.declared.unit.Count.{Count}
use Rattle.ids_frame.proofs.MessagesLemmas.{read_is_held}
use Rattle.ids_bundle.specs.declared.unpacker.Fed.{Fed}
use Rattle.ids_bundle.specs.Stream.{Place, within, pending, given, Takes, Call, AreCalls, end_of, used_by, given_by, StandsFor}

-- ---- taking units

-- these bytes are left after units, whose messages were written
pub record IsUnpacking (bytes rest out : List ℕ) : Type 0 where
  pub runs : List Run
  pub fit : AllByRecursion FitsUnit runs
  pub whole : bytes ≡ units runs ++ rest
  pub made : out ≡ joined (all_of runs)

-- one unit more
pub unpacking_more : (bytes rest out out_now front behind : List ℕ) (size : ℕ) → IsUnpacking bytes rest out → IsUnit front
    → front ≡ take size rest → behind ≡ drop size rest → out_now ≡ out ++ take (length front - 4) (drop 4 front)
    → IsUnpacking bytes behind out_now
unpacking_more bytes rest out out_now front behind size u is is_front is_behind written = record {
  runs = u.runs ++ is.0 ∷ [];
  fit = grind (arith, common_steps);
  whole = grind (arith, common_steps);
  made = grind (arith, common_steps);
}

-- unpacking stops before what is left
pub unpacking_stops : (bytes rest out : List ℕ) (fault : UnpackFault) → IsUnpacking bytes rest out → 1 ≤ length rest
    → StopsAt fault (length bytes - length rest) rest → Unpacks bytes (Err fault)
unpacking_stops bytes rest out fault u some stops = grind (arith, common_steps)

-- ---- one answer

-- where unpacking stops no unit stands
stop_is_stuck : (fault : UnpackFault) (place : ℕ) (rest : List ℕ) → StopsAt fault place rest
    → (run : Run) (more : List ℕ) → FitsUnit run → rest ≡ unit run ++ more → ⊥
stop_is_stuck fault place rest stops = grind (arith, common_steps, part_is_stuck)

-- there is one answer
pub one_unpack_answer_lem : (bytes : List ℕ) (one other : Result (List Run) UnpackFault) → Unpacks bytes one → Unpacks bytes other
    → one ≡ other
one_unpack_answer_lem bytes one other a b = search (rules, free_units, one_answer, part_is_stuck, stop_is_stuck)

-- ---- what was packed

-- the runs of a cut have units
runs_have_units : (size : ℕ) (runs : List Run) → size < 2 ^ 16 → AllByRecursion (FitsIn size) (all_of runs) → AllByRecursion (IsRun size) runs
    → AllByRecursion FitsUnit runs
runs_have_units size [] small fit each = tt
runs_have_units size (run ∷ runs) small fit each =
    let parts = all_parts (FitsIn size) run (all_of runs) fit in
    grind (arith, common_steps, are_messages run parts.0, runs_have_units size runs small parts.1)
  where
    are_messages : (messages : List MessageParts) → AllByRecursion (FitsIn size) messages → AreMessages messages
    are_messages [] fit = tt
    are_messages (m ∷ messages) fit = (fit.0.fits, are_messages messages fit.1)

-- the runs of what was packed have units
pub packed_fit : (size : ℕ) (bytes : List ℕ) (runs : List Run) → size < 2 ^ 16 → ArePacked size bytes runs → AllByRecursion FitsUnit runs
packed_fit size bytes runs small packed = grind (arith, common_steps, runs_have_units)

-- ---- counting

-- what is counted of the units of runs: these runs are left
pub record AreLeft (runs : List Run) (rest : List ℕ) (found : Count) : Type 0 where
  pub left : List Run
  pub fit : AllByRecursion FitsUnit left
  pub whole : rest ≡ units left
  pub number : found.units + length left ≡ length runs
  pub messages : found.messages + length (all_of left) ≡ length (all_of runs)

-- the messages are fewer than the bytes
few_in : (runs : List Run) → length (all_of runs) * 8 ≤ length (units runs)
few_in [] = omega arith
few_in (run ∷ runs) = grind (arith, common_steps, few_in runs, few_messages)

-- one unit more is counted
pub one_counted : (runs : List Run) (bytes rest behind : List ℕ) (messages : ℕ) (old new : Count) → AreLeft runs rest old
    → bytes ≡ units runs → length bytes < 2 ^ 64 → length behind < length rest
    → ((run : Run) (more : List ℕ) → FitsUnit run → rest ≡ unit run ++ more → (messages ≡ length run) × (behind ≡ more))
    → new.units ≡ old.units + 1 → (old.messages + messages < 2 ^ 64 → new.messages ≡ old.messages + messages) → AreLeft runs behind new
one_counted runs bytes rest behind messages old new is all small less told number sum =
    grind (arith, common_steps, few_in runs, cases_list is.left)

-- where no unit stands all were counted
pub none_left : (runs : List Run) (rest : List ℕ) (found : Count) → AreLeft runs rest found
    → ((run : Run) (more : List ℕ) → FitsUnit run → rest ≡ unit run ++ more → ⊥)
    → found ≡ record { units = length runs; messages = length (all_of runs) }
none_left runs rest found is none = grind (arith, common_steps, cases_list is.left)

-- ---- a stream

-- a stream has one reading
pub one_reading_lem : (p q : Place) (stream : List ℕ) (runs others : List Run) → StandsFor p stream runs → StandsFor q stream others
    → (runs ≡ others) × (pending p ≡ pending q)
one_reading_lem p q stream runs others stands also = grind (arith, common_steps, free_units, one_way, part_is_stuck)

-- a stream of units and held bytes, after a piece
taken : (held stream piece : List ℕ) (runs : List Run) (answer : Fed) (used : ℕ) (new : Place) → AllByRecursion FitsUnit runs
    → stream ≡ units runs ++ held → Takes held piece answer used new → StandsFor new (stream ++ take used piece) (runs ++ given new)
taken held stream piece runs answer used new each whole takes = grind (arith, common_steps)

-- a stream after calls
all_calls : (place : Place) (stream : List ℕ) (runs : List Run) (calls : List Call) → StandsFor place stream runs → AreCalls place calls
    → StandsFor (end_of place calls) (stream ++ used_by calls) (runs ++ given_by calls)
all_calls place stream runs [] stands are = search rules
all_calls place stream runs (call ∷ calls) stands are =
    let used = take call.used call.piece in
    grind (arith, common_steps, append_assoc, taken, all_calls call.after (stream ++ used) (runs ++ given call.after) calls)

-- a stream from its start
pub any_pieces_lem : (calls : List Call) → AreCalls (within []) calls → StandsFor (end_of (within []) calls) (used_by calls) (given_by calls)
any_pieces_lem calls are = all_calls (within []) [] [] calls (record { each = tt; whole = refl; at = omega arith }) are

-- the run that is seen in a unit is the unit's
pub is_seen : (now : List ℕ) → AreBytes now → IsUnit now → FitsUnit (messages_of (drop 4 now)) × (now ≡ unit (messages_of (drop 4 now)))
is_seen now bytes is =
    let joins : IsJoined (drop 4 now) is.0 = record { fit = is.1.fit; whole = ap (drop 4) is.2 } in
    let read = (read_is_held (drop 4 now) (Ok is.0) (All-drop IsByte 4 now bytes)).1 joins in
    grind (arith, common_steps, read)
