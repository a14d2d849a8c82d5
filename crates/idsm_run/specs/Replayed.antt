-- What a run of `replay` does, with the manager that it answers.
use Rattle.std.specs.Prelude.{◌≡◌}
use Rattle.cmd_steps.specs.Names.{AreWritten, AskedFor, Files, Heard, List, Ok, Option, Parts, ReplayFiles, Round, Shelved, asked_in, over, replay, ℕ}
use Rattle.trace_replay.specs.Replayed.{Gives, IsReplay, RunManager, gives}
use Rattle.trace_replay.specs.declared.replaying.Replayed.{Replayed as Given}
use Rattle.cmd_steps.specs.Answered.{RanWith, RunsWith}
use Rattle.cmd_spec.specs.{IsOneHistory, replay_work}
use Rattle.idsm_run.specs.declared.traces.Asked.{Asked}

-- a replay of these rounds under this configuration gave this
abbrev pub IsReplayed : Parts → List Round → Given → Type 0
IsReplayed config rounds replayed = IsReplay config rounds replayed.manager (gives replayed)

-- what was read of the input files
abbrev pub asked_of : Asked → AskedFor
asked_of asked = record { config = asked.config; rounds = asked.trace.rounds }

-- the files tell one history of the rounds that the input files ask for, and this manager made it
pub record Replayed (names : ReplayFiles) (manager : RunManager) (said : List ℕ) (old new : Files) : Type 0 where
  pub config : Parts
  pub rounds : List Round
  pub asked : over (asked_in names) old ≡ Ok (record { config = config; rounds = rounds })
  -- the turns and the losses are one history of these rounds
  pub gives : Gives
  pub history : IsOneHistory config rounds gives.turns gives.losses
  -- the files hold what the chain gives for it, and its journal, and the text counts it
  pub written : AreWritten (replay_work names config gives.turns gives.losses).outputs new
  pub text : said ≡ (replay_work names config gives.turns gives.losses).said
  -- the manager stands for it, and rested before and after the last turn of each round
  pub manager_is : IsReplay config rounds manager gives

-- what a run of `replay` over these files does
abbrev pub RanReplay : ReplayFiles → Option RunManager → ℕ → Shelved → Shelved → Heard → Heard → Type 0
RanReplay names manager status old new before after =
    RanWith (replay names) (Replayed names) manager status old new before after

-- what it does, where the words give these files or none
abbrev pub Replays : Option ReplayFiles → Option RunManager → ℕ → Shelved → Shelved → Heard → Heard → Type 0
Replays names manager status old new before after = RunsWith replay Replayed names manager status old new before after
