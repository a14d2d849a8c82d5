-- When a turn is quiet.
use Rattle.idsm_api.proofs.Names.{◌≡◌, ℕ, ◌∙◌, List, [], ◌∷◌, length, refl, sym, ap, arith}
use Rattle.std.specs.Prelude.{◌↔◌, Bool, true, false}
use Rattle.chain_spec.specs.Quiet.{IsQuiet, NoneDue}
use Rattle.ids_types.specs.Turns.{Turn}
use Rattle.ids_types.specs.declared.entry.TurnHead.{TurnHead}
use Rattle.ids_config.specs.Parts.{Parts}
use Rattle.idsm_api.specs.Turning.{HasNoneToTell}

none_taken : {A : Type 0} (xs : List A) → length xs ≡ 0 → xs ≡ []
none_taken [] is = refl
none_taken (x ∷ xs) is = absurd (omega (arith, is))

-- what is told of a turn is whether it is quiet
pub tells_quiet : {config : Parts} {before : List Turn} {tick taken : ℕ} {closes quiet : Bool} {head : TurnHead} (turn : Turn)
    → ((closes ≡ false) ↔ NoneDue config before tick) → ((quiet ≡ true) ↔ ((closes ≡ false) × HasNoneToTell head taken))
    → head ≡ turn.head → taken ≡ length turn.entries → turn.head.tick ≡ tick → (quiet ≡ true) ↔ IsQuiet config before turn
tells_quiet {config} {before} {closes = closes} {head = head} turn due tells head_is taken_is tick_is = (
  λ is.
      let none = tells.0 is in
      record {
        entries = none_taken turn.entries (sym taken_is ∙ none.1.none_taken);
        lost_events = ap (λ (h : TurnHead). h.lost_events) (sym head_is) ∙ none.1.no_lost_events;
        lost_contexts = ap (λ (h : TurnHead). h.lost_contexts) (sym head_is) ∙ none.1.no_lost_contexts;
        limited = ap (λ (h : TurnHead). h.limited) (sym head_is) ∙ none.1.none_limited;
        windows = rw tick_is (due.0 none.0);
      },
  λ quiet. tells.1 (
    due.1 (rw tick_is at quiet.windows),
    record {
      none_taken = taken_is ∙ ap length quiet.entries;
      no_lost_events = ap (λ (h : TurnHead). h.lost_events) head_is ∙ quiet.lost_events;
      no_lost_contexts = ap (λ (h : TurnHead). h.lost_contexts) head_is ∙ quiet.lost_contexts;
      none_limited = ap (λ (h : TurnHead). h.limited) head_is ∙ quiet.limited;
    },
  ),
)
