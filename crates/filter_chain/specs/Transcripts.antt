-- What turns sent, one after the other, with where each of them ends in it.
use Rattle.std.specs.Prelude.{◌≡◌, ℕ, ◌+◌, ◌-◌, ◌<◌, ◌^◌, List, [], ◌∷◌, ◌++◌, length, min, reverse}
use Rattle.ids_types.specs.Output.{Output}
use Rattle.ids_types.specs.Turns.{Turn}
use Rattle.ids_config.specs.Parts.{Parts}
use Rattle.chain_spec.specs.Chain.{ends}
use Rattle.filter_chain.specs.History.{count_of, messages_of}
use Rattle.filter_chain.specs.declared.transcript.Transcript.{Transcript}

-- how many bytes are sent by the end of each turn, the first of them first
abbrev pub ends_of : Parts → List Turn → List ℕ
ends_of config turns = reverse (ends config (reverse turns))

-- no turn sent anything yet
pub record IsEmpty (transcript : Transcript) : Type 0 where
  pub no_bytes : transcript.sent.items ≡ []
  pub no_ends : transcript.ends.items ≡ []
  pub no_messages : transcript.messages ≡ 0

-- with what a turn more sent, and where it ends
pub record Adds (out : Output) (old new : Transcript) : Type 0 where
  pub bytes : new.sent.items ≡ old.sent.items ++ out.sent
  pub end : new.ends.items ≡ old.ends.items ++ length new.sent.items ∷ []
  pub count : new.messages ≡ min (old.messages + out.messages) (2 ^ 64 - 1)
  pub fits : length new.sent.items < 2 ^ 64

-- it is what these turns send
pub record IsTranscript (config : Parts) (turns : List Turn) (transcript : Transcript) : Type 0 where
  pub sent : transcript.sent.items ≡ messages_of config turns
  pub ends : transcript.ends.items ≡ ends_of config turns
  pub messages : transcript.messages ≡ count_of config turns
