-- How a command ends that reads, and then has a task.
use Rattle.cmd_steps.proofs.Names.{Bor, Command, EndsAs, Err, Global, IsErrAnd, List, Ok, Reading, Reads, Result, Shelved, Stop, Task, Vec, gives, goes_on, left_unread, plain_end, plain_stop, read_none, reading_of, stops_early, ℕ, ◌>>=◌, ◌≡◌}

module _ {A : Type 0} (first : Reading A) (command : Command) (old mid : Shelved) where
  -- what it reads stopped it
  pub unread : (next : A → Reading Task) → reading_of command ≡ (first >>= next) → (answer : Result (Vec ℕ Global) (Stop (Bor (List ℕ))))
      (reason : Stop (Bor (List ℕ))) → IsErrAnd answer (λ y. y ≡ reason) → Reads first (Err (plain_stop reason)) old mid
      → EndsAs command (plain_end answer) old mid
  unread next is answer reason left did = left_unread command answer reason old mid left (rw is (stops_early first next (plain_stop reason) old mid did))

  -- or it came to its task
  pub come : (task : A → Task) → reading_of command ≡ (first >>= λ x. gives (task x)) → (x : A) → Reads first (Ok x) old mid
      → Reads (reading_of command) (Ok (task x)) old mid
  come task is x did = rw is (goes_on first (λ (y : A). gives (task y)) x old mid mid did (Ok (task x)) (read_none (task x) mid))
