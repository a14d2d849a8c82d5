use Rattle.main_function.proofs.Names.{[], ◌∷◌, reverse-append}
use Rattle.main_function.proofs.RangeLemmas.{one_more_in_range, turn_in_range}
use Rattle.main_function.proofs.laws.a_turn_is_in_range.Goals as goal

pub returns : goal.returns
returns g c = record {
  turn = λ config shared tick desk givers old new valid of was is turned held. turn_in_range turned valid of was is held;
  more = λ config tick desk givers old new turns is later turned are own. one_more_in_range turned turns is later are own;
  causal = λ config tick desk givers old new turns is turned was. rw (reverse-append turns (turned.turn ∷ [])) (turned.limited_is config turns is, was);
}
