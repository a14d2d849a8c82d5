-- What a turn answers, by what a handle has.
use Rattle.std.specs.Prelude.{◌≡◌, ℕ, if◌then◌else◌, List, Option, Some, None}
use Rattle.idsm_api.specs.{code_of, RoleTurns, refused}
use Rattle.idsm_api.specs.declared.answer.Answer.TheVariants.{Unset}
use Rattle.idsm_api.specs.declared.role.Role.{Role}
use Rattle.idsm_api.specs.declared.turning.TurnAnswer.{TurnAnswer}
use Rattle.idsm_c.specs.declared.turning.Sent.{Sent}

-- what a turn told
abbrev pub sent_of : TurnAnswer → Sent
sent_of turned = record {
  turn = turned.told.turn;
  bytes = turned.told.bytes;
  entries = turned.told.entries;
  lost_events = turned.told.lost_events;
  lost_contexts = turned.told.lost_contexts;
  messages = turned.told.messages;
  quiet = if turned.quiet then 1 else 0;
}

-- a turn by what a handle has: by nothing it is unset, and neither the handle nor the buffer is changed
abbrev pub HandleTurns : ℕ → Option Role → List ℕ → ℕ → Sent → Option Role → List ℕ → Type 0
HandleTurns tick None buffer code sent new after = (code ≡ code_of Unset) × (sent ≡ sent_of (refused Unset)) × (new ≡ None) × (after ≡ buffer)
HandleTurns tick (Some old) buffer code sent new after =
    (turned : TurnAnswer) × (role : Role) × (code ≡ code_of turned.answer) × (sent ≡ sent_of turned) × (new ≡ Some role)
    × RoleTurns tick old buffer turned role after
