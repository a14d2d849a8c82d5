-- The commands `fold` and `replay`: the files that they write, and their texts.
use Rattle.std.specs.Prelude.{◌++◌, ◌∷◌, ◌≡◌}
use Rattle.cmd_spec.specs.Names.{FoldFiles, List, Loss, Output, Parts, ReplayFiles, Round, Turn, Work, [], codes, count_of, decimal, entries_of, filter, journal_text, length, memory_text, messages_of, misses_context, rows_of, sum_by, told, ℕ}
use Rattle.cmd_spec.specs.Headline.{IsOneHistory}

-- ---- `fold`

-- the line `turns T entries E messages M records K`, with its line feed
abbrev pub fold_line : (turns entries messages records : ℕ) → List ℕ
fold_line turns entries messages records =
    codes "turns " ++ (decimal turns
    ++ (codes " entries " ++ (decimal entries
    ++ (codes " messages " ++ (decimal messages
    ++ (codes " records " ++ (decimal records ++ codes "\n")))))))

-- the line that tells what was folded
abbrev pub fold_text : Parts → List Turn → List ℕ
fold_text config turns =
    fold_line (length turns) (length (entries_of turns)) (count_of config turns) (length (rows_of config turns))

-- the files that `fold` writes, in this order: these messages, and this text of the event memory
abbrev pub fold_outputs : FoldFiles → (messages memory : List ℕ) → List Output
fold_outputs names messages memory =
    record { name = names.messages; bytes = messages }
    ∷ record { name = names.memory; bytes = memory } ∷ []

-- ---- `replay`

-- how many entries miss the buffers of their context
abbrev pub without_context : List Turn → ℕ
without_context turns = length (filter (λ e. misses_context e.act) (entries_of turns))

-- how many contexts the turns tell as lost
abbrev pub lost_contexts : List Turn → ℕ
lost_contexts turns = sum_by (λ turn. turn.head.lost_contexts) turns

-- the line `turns T entries E losses L without W`, with its line feed, that tells what was replayed
abbrev pub replay_text : List Turn → List Loss → List ℕ
replay_text turns losses =
    codes "turns " ++ (decimal (length turns)
    ++ (codes " entries " ++ (decimal (length (entries_of turns))
    ++ (codes " losses " ++ (decimal (length losses)
    ++ (codes " without " ++ (decimal (without_context turns) ++ codes "\n")))))))

-- the files that `replay` writes, in this order: these messages, this text of the event memory, and this journal
abbrev pub replay_outputs : ReplayFiles → (messages memory journal : List ℕ) → List Output
replay_outputs names messages memory journal =
    record { name = names.messages; bytes = messages }
    ∷ record { name = names.memory; bytes = memory }
    ∷ record { name = names.journal; bytes = journal } ∷ []

-- the messages that the chain sends for the turns, the text of its event memory, their journal, and the line that
-- counts them
abbrev pub replay_work : ReplayFiles → Parts → List Turn → List Loss → Work
replay_work names config turns losses = record {
  outputs = replay_outputs names (messages_of config turns) (memory_text (rows_of config turns)) (journal_text (told turns losses));
  said = replay_text turns losses;
}

-- the work is that of one history of these rounds
pub record IsReplayWork (names : ReplayFiles) (config : Parts) (rounds : List Round) (work : Work) : Type 0 where
  pub turns : List Turn
  pub losses : List Loss
  pub history : IsOneHistory config rounds turns losses
  pub work_is : work ≡ replay_work names config turns losses
