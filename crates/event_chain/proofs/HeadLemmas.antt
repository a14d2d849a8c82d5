-- The internal events of a turn: each is an event, and there are three at most.
use Rattle.event_chain.proofs.Names.{subst, get_or-map, length-map, ◌≡◌, ℕ, ◌<◌, ◌≤◌, List, length, map, ap, arith, All, nat_tests, All-from_recursion, Internal, heads_of, head_told, IsOneOf, common_steps}
use Rattle.chain_spec.specs.Heads.{Head as Told}
use Rattle.ids_types.specs.declared.entry.TurnHead.{TurnHead}
use Rattle.internal_events.specs.declared.head_list.Head.{Head}

-- what holds of all that a function gives holds of all, by the function
pub All-unmap : {X Y : Type 0} (P : Y → Type 0) (f : X → Y) (xs : List X) → All P (map f xs) → All (λ x. P (f x)) xs
All-unmap P f xs all k d less = subst P (get_or-map f xs k d (f d) less) (all k (f d) (omega (arith, less, length-map xs f)))

module _ (internal : Internal) (head : TurnHead) (heads : List Head) (is : map head_told heads ≡ heads_of internal head) where
  -- each is an event where those that are configured are
  pub heads_within : (n : ℕ) → IsOneOf n internal.lost_events × IsOneOf n internal.lost_contexts × IsOneOf n internal.limited
      → All (λ head. head.event.0 < n) heads
  heads_within n known =
      let P = λ (h : Told). h.event.0 < n in
      All-unmap P head_told heads (rw is (All-from_recursion P (heads_of internal head) (grind (arith, nat_tests, known))))

  -- there are three at most
  pub heads_few : length heads ≤ 3
  heads_few = grind (arith, common_steps, nat_tests, ap length is)
