-- What a close leaves.
use Rattle.main_function.proofs.Names.{◌≡◌, ℕ, suc, Option, List, [], ◌∷◌, ◌++◌, length, map, DeskMemo, ap, refl, sym, ◌∙◌, sum_by, arith, sum_by-cons, Turn, Parts, Buffer, AllOf, givers_of, AreAllBack, AreAllSwept, IsAllTaken, EachSettled, IsDeskOf, desk_memo, to_give_back, PassMemo, lost_events, missing_in, Desk, Shared, all_calls, all_accepted, settled_classes, Closed, OnlyWelcomes, all_back, came, IsManagerOf, Stands, Turned, Manager, get_elem?, some, at_map, at_map_back, ended, marks_back, all_then, ClassMemo}
use Rattle.law_closing.specs.{ClosedDesk, IsMadeFor}
use Rattle.main_function.proofs.ReportLemmas.{sums_of}
use Rattle.main_function.proofs.WelcomeLemmas.{only_back}

-- a sum over passes that came back
sum_came : (f : Option PassMemo → ℕ) (g : PassMemo → ℕ) (passes : List PassMemo) → ((i : ℕ) (pass : PassMemo) → get_elem? passes i ≡ some pass → f (came pass) ≡ g pass)
    → sum_by f (map came passes) ≡ sum_by g passes
sum_came f g [] each = refl
sum_came f g (pass ∷ passes) each =
    omega (arith, each 0 pass refl, sum_came f g passes (λ i. each (suc i)), sum_by-cons f (came pass) (map came passes), sum_by-cons g pass passes)

module _ {C L : Type 0} (stands : C → Parts → List Turn → Type 0) (noted : L → Turn → L → Type 0) (events : C → ℕ) (kept : C → List Buffer) (shared : Shared)
    (old : Manager C L) (desk : Desk) (passes : List PassMemo) (told : desk_memo desk ≡ all_back passes (desk_memo old.desk)) where
  -- a manager to which all passes came back is the one that it was
  pub mine_back : IsManagerOf events kept shared old → IsDeskOf shared desk → to_give_back desk ≡ to_give_back old.desk
      → IsManagerOf events kept shared (record old { desk = desk })
  mine_back mine is_desk same = let only = only_back passes (desk_memo old.desk) in grind (arith, mine, is_desk, same, told, only)

  -- and stands for the same turns
  pub stands_back : (config : Parts) (turns : List Turn) → Stands stands config old turns → Stands stands config (record old { desk = desk }) turns
  stands_back config turns is = let only = only_back passes (desk_memo old.desk) in grind (arith, is, told, only)

  -- and a turn that it makes then closes it
  pub closed_by : (tick : ℕ) (new : Manager C L) → (desk_memo desk).back ≡ map came passes
      → AllOf (λ i. OnlyWelcomes (length passes)) (givers_of old.desk.givers) (givers_of desk.givers)
      → Turned stands noted kept tick (desk_memo desk) (givers_of desk.givers) (record old { desk = desk }) new → IsManagerOf events kept shared new
      → (AreAllBack (desk_memo desk) → IsAllTaken (desk_memo new.desk))
      → (AreAllBack (desk_memo desk) → AreAllSwept 0 (desk_memo new.desk) × AreAllSwept 1 (desk_memo new.desk))
      → (AreAllBack (desk_memo desk) → EachSettled new.desk) → Closed stands noted kept shared tick passes old new
  closed_by tick new back givers turned mine taken swept settled =
      let all : AreAllBack (desk_memo desk) = λ i its at. rw (← (at_map_back came passes i its (rw (← back) at)).2) refl in
      let its_back = turned.back_is ∙ back in
      let shows = λ (config : Parts) (turns : List Turn) (is : Stands stands config old turns).
      (turned.stands_then config turns (stands_back config turns is)).reports_show in
      let accepted = all_accepted (desk_memo new.desk) passes (taken all) its_back in
      let events = sum_came (marks_back 0) lost_events passes (λ i pass at. refl) in
      let contexts = sum_came (marks_back 1) (λ (pass : PassMemo). missing_in pass.log) passes (λ i pass at. mine.desk_is.tied.missing i (ended pass) (rw its_back (at_map came passes i pass at))) in
      let closed : (config : Parts) (turns : List Turn) → IsMadeFor config shared → Stands stands config old turns → ClosedDesk =
      λ config turns made_for is. record {
        config = config;
        passes = passes;
        turns = turns ++ turned.turn ∷ [];
        shared = shared;
        desk = new.desk;
        made_for = made_for;
        is_desk = mine.desk_is;
        are_back = its_back;
        all_taken = taken all;
        settled = settled all;
        shows = sym (shows config turns is).items_are;
        fronts_are = grind (arith, (shows config turns is).fronts_are, mine.positions_are, made_for.positions_are);
      } in
      record {
        givers = givers_of desk.givers;
        welcomed = givers;
        turned = let was = stands_back in grind (arith, turned, told, was);
        are_back = its_back;
        released_is = turned.released_is ∙ ap (λ (k : DeskMemo). k.released) (told ∙ (only_back passes (desk_memo old.desk)).0);
        go_on = (taken all).go_on;
        all_calls = λ config turns made_for is. all_calls (closed config turns made_for is);
        classes = λ config turns made_for is. settled_classes (closed config turns made_for is);
        tied = mine.desk_is.tied;
        settled = settled all;
        classes_released = all_then givers turned.buffers.gave (λ i old mid new a b. b.released_is ∙ ap (λ (k : ClassMemo). k.released) a.memo_is);
        sums = λ config turns is. sums_of mine (turned.stands_then config turns (stands_back config turns is));
        counts = grind (arith, mine.totals_are, accepted, swept all, its_back, events, contexts);
      }
