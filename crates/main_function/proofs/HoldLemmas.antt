-- A desk that holds passes one after another, and releases them.
use Rattle.main_function.proofs.Names.{◌≡◌, ℕ, suc, ◌+◌, List, [], ◌∷◌, ◌++◌, length, map, slice_set, refl, ap, ◌∙◌, arith, append-nil, append_assoc, at_length, there, length-map, map_push, take, AllOf, IsDeskOf, IsPassOf, welcomes, givers_of, desk_memo, to_give_back, DeskMemo, pass_memo, Pass, Shared, OnlyMoves, OnlyWelcomes, all_back, common_steps, get_elem?, some, length-set, length_push, at_last, at_longer, at_map, at_set, drop_at, set_here, set_else, Releases, ended, first_back, resumed, resumes, seat_memo, giver_memo, memo_at, add-one, inl, inr, AreHeld, GoesOnFrom, IsHeldAt, IsHeldBy, IsReleasedBy, ReleasedSeats, memos_of, IsNextPass, take-suc-set, Giver, zero, ◌<◌, ◌≤◌, ◌≢◌, Option, Some, None, drop, Desk}
use Rattle.report_api.proofs.WelcomeLemmas.{came}
use Rattle.std.proofs.lemmas.Bool.{cases_eq}
use Rattle.buffer_classes.proofs.ByIndexLemmas.{Below, below_more, From, from_more, still}
use Rattle.buffer_classes.specs.Names.{SeatMemo as ClassMemo}
use Rattle.permit_ring.specs.declared.memo.KeeperMemo.{KeeperMemo}
use Rattle.permit_ring.specs.declared.memo.SeatMemo.{SeatMemo}
use Rattle.main_function.proofs.WelcomeLemmas.{only_more}

-- where none before stands there, it is the first
pub first_is : {N : Type 0} (back : List (Option (SeatMemo N))) (c : ℕ) (memo : SeatMemo N) → ((j : ℕ) → j < c → get_elem? back j ≡ some None)
    → get_elem? back c ≡ some (Some memo) → first_back back ≡ Some memo
first_is [] c memo none at = grind arith
first_is (Some other ∷ back) zero memo none at = grind arith
first_is (Some other ∷ back) (suc c) memo none at = let wrong = none 0 (omega arith) in grind arith
first_is (None ∷ back) zero memo none at = grind arith
first_is (None ∷ back) (suc c) memo none at = first_is back c memo (λ j low. none (suc j) (omega arith)) at

module _ {shared : Shared} {desk after : Desk} {pass now : Pass} (mine : IsDeskOf shared desk) (its : IsPassOf shared pass)
    (did : IsHeldBy shared pass now desk after) where
  abbrev c : ℕ
  c = (pass_memo pass).number

  pub held_long : length (desk_memo after).back ≡ length (desk_memo desk).back
  held_long = ap (λ (k : DeskMemo). length k.back) did.came.told ∙ length-set (desk_memo desk).back c (Some (ended (pass_memo pass)))

  -- the pass that came last is held
  pub held_here : c < length (desk_memo desk).back → IsHeldAt shared after c now
  held_here low = record {
    memo = ended (pass_memo pass);
    memos = λ i. ended (memo_at pass.claimant i);
    number_is = refl;
    back_at = rw did.came.told (set_here (desk_memo desk).back c (Some (ended (pass_memo pass))) low);
    givers_at = λ i giver at.
        let was = came its mine.givers.all mine.tied did.givers_are i giver at in
        let many = mine.tied.as_many i was.0 was.2 in
        grind (arith, was, many, low, set_here (giver_memo was.0).back c (Some (ended (memo_at pass.claimant i))));
    held = did.held;
  }

  -- and so are those that came before
  pub held_there : (j : ℕ) (other : Pass) → j ≢ c → IsHeldAt shared desk j other → IsHeldAt shared after j other
  held_there j other away held = record {
    memo = held.memo;
    memos = held.memos;
    number_is = held.number_is;
    back_at = rw did.came.told (set_else (desk_memo desk).back c j (Some (ended (pass_memo pass))) away ∙ held.back_at);
    givers_at = λ i giver at.
        let was = came its mine.givers.all mine.tied did.givers_are i giver at in
        rw was.4 (set_else (giver_memo was.0).back c j _ away ∙ held.givers_at i was.0 was.2);
    held = held.held;
  }

-- the passes from one on are held, and those before are as they were
pub record Holding {P : Type 0} (pass_of : P → Pass) (stays : P → P → Type 0) (shared : Shared) (first desk : Desk) (olds nows : List P) (left : ℕ) : Type 0 where
  pub mine : IsDeskOf shared desk
  pub few : left ≤ length olds
  pub long : length (desk_memo desk).back ≡ length (desk_memo first).back
  pub counts : to_give_back desk ≡ to_give_back first
  pub told : desk_memo desk ≡ all_back (drop left (memos_of pass_of olds)) (desk_memo first)
  pub came_so_far : ℕ
  pub so_many : came_so_far + left ≡ length olds
  pub givers : AllOf (λ i. OnlyWelcomes came_so_far) (givers_of first.givers) (givers_of desk.givers)
  pub stay : AllOf (From (λ j. stays) left) olds nows
  pub held : (j : ℕ) (now : P) → left ≤ j → get_elem? nows j ≡ some now → IsHeldAt shared desk j (pass_of now)

-- a pass that is not held yet stands where it stood
pub stood_there : {P : Type 0} {pass_of : P → Pass} {stays : P → P → Type 0} {shared : Shared} {first desk : Desk} {olds nows : List P} {left : ℕ}
    → Holding pass_of stays shared first desk olds nows left → (j : ℕ) (now : P) → j < left → get_elem? nows j ≡ some now → get_elem? olds j ≡ some now
stood_there {olds = olds} was j now low here =
    let stood = there olds j (omega (arith, low, was.few)) in
    rw ((was.stay.each j stood.0 now stood.1 here).1 low) stood.1

-- one more is held
pub holding_more : {P : Type 0} {pass_of : P → Pass} {stays : P → P → Type 0} {shared : Shared} {first desk after : Desk} {olds nows : List P} {most : ℕ} (left : ℕ)
    (old new : P) → most ≡ left + 1 → Holding pass_of stays shared first desk olds nows most → get_elem? nows left ≡ some old → IsPassOf shared (pass_of old)
    → (pass_memo (pass_of old)).number ≡ left → length olds ≡ length (desk_memo first).back → IsDeskOf shared after → IsHeldBy shared (pass_of old) (pass_of new) desk after
    → stays old new → Holding pass_of stays shared first after olds (slice_set nows left new) left
holding_more {pass_of = pass_of} {olds = olds} {nows = nows} left old new one was here its number all mine did stay =
    let memo_at : get_elem? (memos_of pass_of olds) left ≡ some (pass_memo (pass_of old)) =
    at_map (λ has. pass_memo (pass_of has)) olds left old (stood_there was left old (omega (arith, one)) here) in
    record {
      mine = mine;
      few = omega (arith, one, was.few);
      long = held_long was.mine its did ∙ was.long;
      counts = did.came.counts ∙ was.counts;
      told = rw (drop_at (memos_of pass_of olds) left (pass_memo (pass_of old)) memo_at)
          (did.came.told ∙ ap (welcomes (pass_memo (pass_of old))) (rw (one, add-one left) at was.told));
      came_so_far = was.came_so_far + 1;
      so_many = omega (arith, one, was.so_many);
      givers = only_more was.came_so_far _ (pass_of old) _ _ _ its was.mine.givers.all was.givers did.givers_are;
      stay = from_more left old new here stay (rw one at was.stay);
      held = λ j now low at. elim (at_set nows left j new now at) [
        | inl it ↦ rw (it.0, ← it.1, ← number) (held_here was.mine its did (omega (arith, one, number, all, was.long, was.so_many)))
        | inr other ↦ held_there was.mine its did j (pass_of now) (λ e. other.0 (e ∙ number)) (was.held j now (omega (arith, one, low, other.0)) other.1)
      ];
    }

module _ {N : Type 0} where
  -- the seats before a place went on, the first first, and those from it on stay
  pub record WentOn (i : ℕ) (nows : List (SeatMemo N)) (old new : KeeperMemo N) : Type 0 where
    pub memo_is : new ≡ record old { back = new.back; released = new.released; moves = new.moves }
    pub moves_are : length new.moves ≡ length old.moves + i
    pub remembers : new.released ≡ old.released ++ nows
    pub all : length nows ≡ i
    pub long : length new.back ≡ length old.back
    pub gone : (c : ℕ) → c < i → get_elem? new.back c ≡ some None
    pub same : (c : ℕ) → i ≤ c → get_elem? new.back c ≡ get_elem? old.back c
    pub go_on : (c : ℕ) (memo : SeatMemo N) → c < i → get_elem? old.back c ≡ some (Some memo) → get_elem? nows c ≡ some (resumed old.offered memo)

  -- none went on yet
  pub none_went : (k : KeeperMemo N) → WentOn 0 [] k k
  none_went k = grind (arith, append-nil k.released)

  module _ {i : ℕ} {nows : List (SeatMemo N)} {old mid : KeeperMemo N} (went : WentOn i nows old mid) (memo : SeatMemo N)
      (here : get_elem? old.back i ≡ some (Some memo)) where
    -- the seat at the place is the next
    pub is_next : first_back mid.back ≡ Some memo
    is_next = first_is mid.back i memo went.gone (went.same i (omega arith) ∙ here)

    -- and goes on
    pub one_more : {new : KeeperMemo N} {seat : SeatMemo N} → Releases mid new seat → memo.number ≡ i
        → (seat ≡ resumed old.offered memo) × WentOn (i + 1) (nows ++ seat ∷ []) old new
    one_more {new} {seat} did number =
        let same : did.memo ≡ memo = grind (arith, did.is_first, is_next) in
        let new_is : new ≡ resumes memo mid = did.keeper_is ∙ ap (λ m. resumes m mid) same in
        let seat_is : seat ≡ resumed old.offered memo = grind (arith, did.seat_is, same, went.memo_is) in
        let back_is : new.back ≡ slice_set mid.back i None = grind (arith, new_is, number) in
        let low = at_length old.back i (Some memo) here in (
          seat_is,
          record {
            memo_is = grind (arith, new_is, went.memo_is);
            moves_are = grind (arith, common_steps, new_is, went.moves_are);
            remembers = grind (arith, new_is, seat_is, went.memo_is, went.remembers, append_assoc old.released nows (seat ∷ []));
            all = grind (arith, length_push nows seat, went.all);
            long = grind (arith, back_is, length-set mid.back i None, went.long);
            gone = λ c past. elim (cases_eq c i) [
              | inl it ↦ rw (back_is, it) (set_here mid.back i None (omega (arith, low, went.long)))
              | inr away ↦ rw back_is (set_else mid.back i c None away ∙ went.gone c (omega (arith, past, away)))
            ];
            same = λ c past. rw back_is (set_else mid.back i c None (λ e. omega (arith, past, e)) ∙ went.same c (omega (arith, past)));
            go_on = λ c other past at. elim (cases_eq c i) [
              | inl it ↦
                  let its : other ≡ memo = grind (arith, at, it, here) in
                  rw (it, its) (at_last nows seat i went.all ∙ ap some seat_is)
              | inr away ↦ at_longer nows (seat ∷ []) c _ (went.go_on c other (omega (arith, past, away)) at)
            ];
          },
        )

-- the seats of a class before a place went on
abbrev pub SeatsWent : ℕ → Giver → Giver → Type 0
SeatsWent i old new = (nows : List ClassMemo) × WentOn i nows (giver_memo old) (giver_memo new)

-- the passes before one went on, and those from it on are as they were
pub record Releasing {P : Type 0} (pass_of : P → Pass) (stays : P → P → Type 0) (shared : Shared) (first desk : Desk) (olds nows : List P) (i : ℕ) : Type 0 where
  pub mine : IsDeskOf shared desk
  pub went_on : (j : ℕ) (now : P) → j < i → get_elem? nows j ≡ some now → GoesOnFrom shared first j (pass_of now)
  pub counts : to_give_back desk ≡ to_give_back first
  pub went : WentOn i (memos_of pass_of (take i nows)) (desk_memo first) (desk_memo desk)
  pub seats : AllOf (λ k. SeatsWent i) (givers_of first.givers) (givers_of desk.givers)
  pub stay : AllOf (Below (λ j. stays) i) olds nows

module _ {P : Type 0} {pass_of : P → Pass} {stays : P → P → Type 0} {shared : Shared} {first desk : Desk} {olds nows : List P} {i : ℕ}
    (held : AreHeld shared first (map pass_of olds)) (was : Releasing pass_of stays shared first desk olds nows i) where
  -- the desk and the givers once all passes went on
  pub all_moved : (n : ℕ) → i ≡ n → OnlyMoves n first desk
  all_moved n end = rw (← end) (record {
    memo_is = was.went.memo_is;
    moves_are = was.went.moves_are;
    as_many = was.went.long;
    counts = was.counts;
    givers_are = record {
      as_many = was.seats.as_many;
      each = λ k old new stood is. let on = (was.seats.each k old new stood is).1 in record { memo_is = on.memo_is; moves_are = on.moves_are };
    };
  })

  pub all_seats : IsDeskOf shared first → (n : ℕ) → i ≡ n → length olds ≡ n → AllOf (λ k. ReleasedSeats n) (givers_of first.givers) (givers_of desk.givers)
  all_seats mine n end many = record {
    as_many = was.seats.as_many;
    each = λ k old new stood is.
        let on = was.seats.each k old new stood is in
        record {
          nows = on.0;
          remembers = on.1.remembers;
          all = on.1.all ∙ end;
          go_on = λ c memo at. on.1.go_on c memo (omega (arith, at_length (giver_memo old).back c (Some memo) at, mine.tied.as_many k old stood, held.all, length-map olds pass_of, end, many)) at;
        };
  }

  module _ (has : P) (here : get_elem? nows i ≡ some has) where
    at_i : IsHeldAt shared first i (pass_of has)
    at_i = held.each i (pass_of has) (at_map pass_of olds i has (still has was.stay here))

    -- the pass there is the next
    pub next_pass : IsNextPass shared desk (pass_of has)
    next_pass = record {
      memo = at_i.memo;
      memos = at_i.memos;
      is_first = is_next was.went at_i.memo at_i.back_at;
      firsts = λ k giver is.
          let old = there (givers_of first.givers) k (omega (arith, at_length (givers_of desk.givers) k giver is, was.seats.as_many)) in
          is_next (was.seats.each k old.0 giver old.1 is).1 (at_i.memos k) (at_i.givers_at k old.0 old.1);
      held = at_i.held;
    }

    -- and goes on
    pub releasing_more : {after : Desk} (now : P) → IsDeskOf shared after → IsReleasedBy shared (pass_of now) desk after → stays has now
        → Releasing pass_of stays shared first after olds (slice_set nows i now) (i + 1)
    releasing_more {after} now mine did stay =
        let on = one_more was.went at_i.memo at_i.back_at did.told.told at_i.number_is in
        let more : memos_of pass_of (take (i + 1) (slice_set nows i now)) ≡ memos_of pass_of (take i nows) ++ pass_memo (pass_of now) ∷ [] =
        rw (add-one i) (ap (memos_of pass_of) (take-suc-set nows i now (at_length nows i has here)) ∙ map_push (λ p. pass_memo (pass_of p)) (take i nows) now) in
        record {
          mine = mine;
          went_on = λ j other past is. elim (at_set nows i j now other is) [
            | inl it ↦ rw (it.0, ← it.1) (record { is_pass = did.is_pass; number_is = rw on.0 at_i.number_is; memo = at_i.memo; back_at = at_i.back_at; goes_on = on.0 })
            | inr away ↦ was.went_on j other (omega (arith, past, away.0)) away.1
          ];
          counts = did.told.counts ∙ was.counts;
          went = rw more on.1;
          seats = record {
            as_many = did.givers_are.as_many ∙ was.seats.as_many;
            each = λ k old new stood is.
                let low = at_length (givers_of after.givers) k new is in
                let mid = there (givers_of desk.givers) k (omega (arith, low, did.givers_are.as_many)) in
                let seat = there (pass_of now).claimant.seats.items k (omega (arith, low, mine.givers.all, did.is_pass.at.claimant.all)) in
                let his = there (pass_of has).claimant.seats.items k (omega (arith, low, mine.givers.all, at_i.held.claimant.all)) in
                let number = (at_i.held.claimant.each k his.0 his.1).number_is ∙ at_i.held.number_is ∙ at_i.number_is in
                let before = was.seats.each k old mid.0 stood mid.1 in
                let freed = did.givers_are.each k mid.0 new mid.1 is seat.0 seat.1 in
                (before.0 ++ seat_memo seat.0 ∷ [], (one_more before.1 (at_i.memos k) (at_i.givers_at k old stood) freed.told number).1);
          };
          stay = below_more i has now here stay was.stay;
        }
