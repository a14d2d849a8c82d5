-- What a replay of a trace gives, for whatever order the steps of its threads had.
use Rattle.std.specs.Prelude.{◌≡◌, ℕ, ◌<◌, ◌≤◌, List, length, map, reverse}
use Rattle.chain_plain.specs.Telling.{ends_of}
use Rattle.event_chain.specs.Chained.{Chained, chain_events, chain_kept}
use Rattle.event_chain.specs.Standing.{Stands as ChainStands}
use Rattle.filter_chain.specs.declared.log.Unlogged.{Unlogged}
use Rattle.trace_replay.specs.Names.{AreSettled, Buffer, ClassRest, Fits, HaveAllCalls, IsCausal, IsMadeFor, IsManagerOf, IsMerge, Loss, Manager, Parts, PassMemo, Rested, Round, Shared, Stands, Turn, asks_back, calls_by, came, count_of, desk_memo, givers_of, losses_in, messages_of, rests_of}
use Rattle.trace_replay.specs.Rests.{IsClassRest, all_rests, as_told, rest_after}
use Rattle.trace_replay.specs.Rounds.{turns_in}
use Rattle.trace_replay.specs.Standing.{HavePlayed}
use Rattle.trace_replay.specs.declared.recorder.Recorder.{Recorder}
use Rattle.trace_replay.specs.declared.replaying.Replayed.{Replayed}

-- what a replay gives besides its manager: the turns, the losses, and what was sent
pub record Gives : Type 0 where
  pub turns : List Turn
  pub losses : List Loss
  pub sent : List ℕ
  pub ends : List ℕ
  pub messages : ℕ

module _ {C : Type 0} (stands : C → Parts → List Turn → Type 0) (events : C → ℕ) (kept : C → List Buffer) (config : Parts)
    (rounds : List Round) where
  -- a manager that replayed these rounds, over a chain with these words, and what that gave
  pub record IsReplayOver (m : Manager C Unlogged) (gives : Gives) : Type 0 where
    -- the turns and the losses are one merge of the callers' lines, and a journal under the configuration
    pub merged : IsMerge config rounds gives.turns gives.losses
    pub fits : Fits config (record { turns = gives.turns; losses = gives.losses })
    -- each turn tells how many events the limits held back in the turn before it
    pub causal : IsCausal config (reverse gives.turns)
    -- what was sent is what the filter chain sends for these turns
    pub sent : gives.sent ≡ messages_of config gives.turns
    pub ends : gives.ends ≡ ends_of config gives.turns
    pub messages : gives.messages ≡ count_of config gives.turns
    -- the manager is one of the configuration, and stands for them
    pub shared : Shared
    pub made_for : IsMadeFor config shared
    pub is_manager : IsManagerOf events kept shared m
    pub stands_for : Stands stands config m gives.turns
    -- it rested before and after the last turn of each round, when each caller had made its lines of the rounds so far
    pub rests_are : rests_of m ≡ as_told (all_rests config.callers rounds)
    -- the passes that came back to it made the calls of the lines; the turns have those that were accepted, and the
    -- losses are the others
    pub passes : List PassMemo
    pub are_back : (desk_memo m.desk).back ≡ map came passes
    pub played : HavePlayed config rounds passes
    pub calls : HaveAllCalls config passes gives.turns
    pub losses_are : gives.losses ≡ losses_in config.ring passes
    -- at the rest after each round's last turn all calls so far are settled, and what is lost later saw all that was given back
    pub rested : (k : ℕ) → k < length rounds → Rested config.ring gives.turns gives.losses (rest_after rounds k)
    -- what each caller asked of each class is what its calls show, and each claim is settled
    pub claimants : ℕ → List ℕ
    pub settled : AreSettled config gives.turns (calls_by passes) (asks_back (givers_of m.desk.givers)) claimants
    -- so it was at the start and at each of these rests, and what was lost later saw claimed all that had been offered
    pub classes_rested : (k : ℕ) → k ≤ length rounds → (at : ClassRest)
        × IsClassRest config rounds (givers_of m.desk.givers) gives.turns (calls_by passes) k at

-- the manager of a replay, without its log
abbrev pub RunManager : Type 0
RunManager = Manager (Chained Buffer) Unlogged

-- an event chain over context data buffers stands for these turns
abbrev pub chain_stands : Chained Buffer → Parts → List Turn → Type 0
chain_stands chain config turns = ChainStands (λ (buf : Buffer). buf.bytes) config (reverse turns) chain

-- a manager over it that replayed these rounds, and what that gave
abbrev pub IsReplay : Parts → List Round → RunManager → Gives → Type 0
IsReplay config rounds m gives = IsReplayOver chain_stands chain_events chain_kept config rounds m gives

-- the rest by the first k rounds of a replay, as the classes knew it
abbrev pub IsRestOf : {config : Parts} {rounds : List Round} {m : RunManager} {gives : Gives} → IsReplay config rounds m gives → ℕ → ClassRest → Type 0
IsRestOf {config} {rounds} {m} {gives} is k at = IsClassRest config rounds (givers_of m.desk.givers) gives.turns (calls_by is.passes) k at

-- what is given besides the manager
abbrev pub gives : Replayed → Gives
gives r = record { turns = r.history.turns; losses = r.losses.items; sent = r.sent.items; ends = r.ends.items; messages = r.messages }

-- and what a recorder gives, with its callers' losses
abbrev pub given : {C : Type 0} → Recorder C → List Loss → Gives
given r losses = record {
  turns = turns_in r;
  losses = losses;
  sent = r.transcript.sent.items;
  ends = r.transcript.ends.items;
  messages = r.transcript.messages;
}
