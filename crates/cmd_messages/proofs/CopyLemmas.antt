-- How many messages were sealed or unsealed, by how many bytes came or went.
use Rattle.cmd_steps.proofs.Names.{Bor, Command, EndsAs, Err, Global, IsErrAnd, Ok, Reading, Reads, Result, Shelved, Stop, Task, Vec, goes_on, left_unread, plain_end, plain_stop, read_none, reading_of, stops_early, written_by, ◌>>=◌, AllByRecursion, IsCopyWork, List, MessageParts, arith, number_text, gives, joined, length, one_file, refl, ℕ, ◌*◌, ◌+◌, ◌<◌, ◌^◌, ◌≡◌}
use Rattle.frame_auth.proofs.LayoutLemmas.{length-joined_sealed}
use Rattle.cmd_steps.specs.Made.{HasCome}
use Rattle.frame_auth.specs.{ArePlain, Copies, joined_sealed}
use Rattle.ids_bundle.proofs.UnpackLemmas.{packed_fit}
use Rattle.ids_bundle.specs.Packing.{ArePacked}
use Rattle.ids_bundle.specs.Units.{FitsUnit, Run, all_of, units}
use Rattle.ids_bundle.specs.declared.unit.Count.{Count}
use Rattle.cmd_spec.specs.Packing.{IsPackWork, units_text}

-- a seal has 42 bytes
pub sealed_length : (key : List ℕ) (start : ℕ) (messages : List MessageParts) → ArePlain messages
    → length (joined_sealed key start messages) ≡ length (joined messages) + 42 * length messages
sealed_length = length-joined_sealed

-- the line counts what was copied
pub copied_work : (from to : List MessageParts → List ℕ) (word target bytes out line : List ℕ) (count : ℕ) (copies : Copies from to bytes out)
    → count ≡ length copies.messages → line ≡ number_text word count → IsCopyWork from to word target bytes (one_file target out line)
copied_work from to word target bytes out line count copies many is = record { out = out; copies = copies; work_is = rw (is, many) refl }

-- ---- what is read

-- a command that reads, and then goes on or has a task
module _ {A : Type 0} (first : Reading A) (command : Command) (old mid : Shelved) where
  pub unread : (next : A → Reading Task) → reading_of command ≡ (first >>= next) → (answer : Result (Vec ℕ Global) (Stop (Bor (List ℕ))))
      (reason : Stop (Bor (List ℕ))) → IsErrAnd answer (λ y. y ≡ reason) → Reads first (Err (plain_stop reason)) old mid
      → EndsAs command (plain_end answer) old mid
  unread next is answer reason left did = left_unread command answer reason old mid left (rw is (stops_early first next (plain_stop reason) old mid did))

  pub come : (task : A → Task) → reading_of command ≡ (first >>= λ x. gives (task x)) → (x : A) → Reads first (Ok x) old mid
      → HasCome command (task x) (written_by command) old mid
  come task is x did = record { read = rw is (goes_on first (λ (y : A). gives (task y)) x old mid mid did (Ok (task x)) (read_none (task x) mid)); writes = refl }

-- ---- units

pub packed_work : (size : ℕ) (bytes out line target : List ℕ)
    → (packed : (runs : List Run) × ArePacked size bytes runs × (out ≡ units runs)) (count : Count)
    → ((runs : List Run) → AllByRecursion FitsUnit runs → out ≡ units runs
    → count ≡ record { units = length runs; messages = length (all_of runs) })
    → line ≡ units_text count.units count.messages → size < 2 ^ 16
    → IsPackWork target size bytes (one_file target out line)
packed_work size bytes out line target packed count counts is small =
    let counted = counts packed.0 (packed_fit size bytes packed.0 small packed.1) packed.2 in
    grind (arith, packed, counted, is)
