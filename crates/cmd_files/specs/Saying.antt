-- How the put of a run's one text ends.
use Rattle.std.specs.Prelude.{◌≡◌, ◌≢◌, ◌⊎◌}
use Rattle.cmd_files.specs.Names.{CannotWrite, Err, Failed, Heard, IfErr, IsTrue, List, MemoryRefused, NoMemory, Ok, PutCause, PutTakes, Result, Stop, WriteFault, [], ℕ, ⊤}
use Rattle.cmd_files.specs.Texts.{stop_text, stop_status, no_memory_text}

-- the status of a run whose put answered so, where this one goes with its text
abbrev pub put_status : ℕ → Result ⊤ WriteFault → ℕ
put_status wanted (Ok done) = wanted
put_status wanted (Err Failed) = 7
put_status wanted (Err MemoryRefused) = 8

-- the text was put, with this status; or the put failed, after a first part of it, or memory was refused
-- to it. The put of no text cannot fail.
pub record Puts (text : List ℕ) (wanted status : ℕ) (before after : Heard) : Type 0 where
  pub put : Result ⊤ WriteFault
  pub is : status ≡ put_status wanted put
  pub takes : IsTrue before.tells → PutTakes before.taken after.taken text put
  pub cause : PutCause before.misses after.misses put
  pub some : IfErr put (λ _. text ≢ [])

-- a text is put, or that there is no memory for it
abbrev pub Says : List ℕ → ℕ → ℕ → Heard → Heard → Type 0
Says text wanted status before after =
    Puts text wanted status before after ⊎ Puts no_memory_text 8 status before after

-- the text that goes with the end of a command is put; that its inputs do not serve may want memory
abbrev pub Tells : Result (List ℕ) (Stop (List ℕ)) → ℕ → Heard → Heard → Type 0
Tells (Ok said) status before after = Puts said 0 status before after
Tells (Err CannotWrite) status before after = Puts (stop_text CannotWrite) 7 status before after
Tells (Err NoMemory) status before after = Puts no_memory_text 8 status before after
Tells (Err reason) status before after = Says (stop_text reason) (stop_status reason) status before after
