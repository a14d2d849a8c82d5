-- A claim from class to class.
use Rattle.buffer_classes.proofs.Names.{GotBuffer, NoneFree, ◌≡◌, ◌≢◌, ℕ, ◌+◌, ◌-◌, ◌*◌, ◌<◌, ◌≤◌, ◌^◌, List, [], ◌∷◌, ◌++◌, length, set, get_or, ◌∙◌, arith, inl, inr, All, append-nil, length_push, at_index, at_length, at_map, there, ring_seats, ring_terms, seat_calls, seat_memo, Buffer, IsBufferOf, AllOf, Asks, AsksClass, ClaimTells, asked, lost_at, RiseFrom, class_sizes, first_fitting, Class, ClassSeat, Lost, Got, Outcome, IsClaimSeatOf, IsClassSeat, claimant_of, claims_of, log_of, memo_at, steps_of, Classes, ClaimSeat, refl, nat_tests, some, get_elem?, sum_by-set, vec_capacity, AreSmall, HoldsSoMany, finish_of, got_of, Claim}
use Rattle.std.proofs.lemmas.List.Elements.{All-push}
use Rattle.buffer_classes.proofs.AskLemmas.{asked_past, asks_log, below_or, lost_more, lost_past, nothing_past}
use Rattle.buffer_classes.proofs.ByIndexLemmas.{all_more}
use Rattle.buffer_classes.proofs.FittingLemmas.{fits_from, many_sizes}

-- a buffer that a claim got holds as much as was asked for
holds_so : (bytes : ℕ) (sizes : List ℕ) (result : Claim) → RiseFrom 0 sizes → ClaimTells (first_fitting bytes sizes) sizes result
    → HoldsSoMany bytes result
holds_so bytes sizes (GotBuffer buf skipped) rise told = (fits_from bytes 0 buf.class buf.size sizes rise told.1).1 (omega (arith, told.0))
holds_so bytes sizes (NoneFree looks) rise told = tt

-- the seat of class i made these calls, and is the same where it made none
abbrev pub AskedSo : Classes → (ℕ → List Outcome) → ℕ → ClassSeat → ClassSeat → Type 0
AskedSo classes calls i old new = (class : Class) → get_elem? classes.classes.items i ≡ some class
    → (calls i ≡ [] → new ≡ old) × AsksClass class old (calls i) new

-- a claim of so many bytes so far: the fitting classes before this one were asked in vain, and those from it on were not asked
pub record AskedTo (classes : Classes) (me : ClaimSeat) (bytes place : ℕ) (looks : List ℕ) (now : ClaimSeat) : Type 0 where
  pub many : first_fitting bytes (class_sizes classes) + length looks ≡ place
  pub small : All (λ claimed. claimed ≤ 2 ^ 45) looks
  pub number_is : now.number ≡ me.number
  pub claims_are : now.claims ≡ me.claims + 1
  pub room_is : vec_capacity now.seats ≡ vec_capacity me.seats
  pub asked : AllOf (AskedSo classes (lost_at (first_fitting bytes (class_sizes classes)) looks)) me.seats.items now.seats.items
  pub steps : steps_of now ≤ steps_of me + 2 * length looks

module _ {classes : Classes} {me : ClaimSeat} (mine : IsClaimSeatOf classes me) (bytes : ℕ) where
  abbrev sizes : List ℕ
  sizes = class_sizes classes

  abbrev first : ℕ
  first = first_fitting bytes sizes

  -- before the first class is asked
  pub asked_none : AllOf (AskedSo classes (lost_at first [])) me.seats.items me.seats.items
  asked_none = record {
    as_many = refl;
    each = λ i old new was is class at. grind (arith, was, is, mine.each i class old at was);
  }

  -- what a claim leaves
  abbrev Leaves : Claim → ClaimSeat → Type 0
  Leaves result now = record {
    mine : IsClaimSeatOf classes now;
    told : ClaimTells first sizes result;
    holds : HoldsSoMany bytes result;
    small : AreSmall result;
    counted : (claims_of now ≡ claims_of me + 1) × (claimant_of now ≡ claimant_of me);
    steps : (i : ℕ) (class : Class) → get_elem? classes.classes.items i ≡ some class
        → Asks (ring_seats class.ring) (memo_at me i) (asked first result i) (memo_at now i);
    few_steps : steps_of now ≤ steps_of me + 2 * (length sizes - first) + finish_of result;
    logs : (i : ℕ) → log_of now i ≡ log_of me i ++ asked first result i;
  }

  module _ (result : Claim) (now : ClaimSeat) (number : now.number ≡ me.number) (claims : now.claims ≡ me.claims + 1)
      (room : vec_capacity now.seats ≡ vec_capacity me.seats)
      (all : AllOf (AskedSo classes (asked first result)) me.seats.items now.seats.items) (told : ClaimTells first sizes result) where
    all_asked : (i : ℕ) (class : Class) → get_elem? classes.classes.items i ≡ some class
        → Asks (ring_seats class.ring) (memo_at me i) (asked first result i) (memo_at now i)
    all_asked i class at =
        let low = at_length classes.classes.items i class at in
        grind (arith, low, there me.seats.items i, there now.seats.items i, mine.all, all.as_many, all.each i, at)

    pub leaves : AreSmall result → steps_of now ≤ steps_of me + 2 * (length sizes - first) + finish_of result → Leaves result now
    leaves small few = record {
      mine = record {
        are = mine.are;
        all = all.as_many ∙ mine.all;
        room = room ∙ mine.room;
        each = λ i class s at e.
            let old = there me.seats.items i (omega (arith, at_length now.seats.items i s e, all.as_many)) in
            grind (arith, mine.each i class old.0 at old.1, (all.each i old.0 s old.1 e class at).1, number, claims);
      };
      told = told;
      holds = holds_so bytes sizes result mine.are.rise told;
      small = small;
      counted = (claims, number);
      steps = all_asked;
      few_steps = few;
      logs = λ i. elim (below_or classes.classes.items i) [
        | inl at ↦ asks_log (ring_seats at.0.ring) (memo_at me i) (memo_at now i) (asked first result i) (all_asked i at.0 at.1)
        | inr past ↦
            let none = asked_past first i sizes result told in
            grind (arith, none, many_sizes classes, nothing_past {A = ClassSeat}, past, mine.all, all.as_many, append-nil (log_of me i))
      ];
    }

  module _ {place : ℕ} {looks : List ℕ} {now : ClaimSeat} (l : AskedTo classes me bytes place looks now)
      (below : place < length now.seats.items) (class : Class) (class_at : class ≡ get_or classes.classes.items place class)
      (seat : ClassSeat) (seat_at : seat ≡ get_or now.seats.items place seat) where
    class_there : get_elem? classes.classes.items place ≡ some class
    class_there = at_index classes.classes.items place class (omega (arith, below, l.asked.as_many, mine.all)) class_at

    seat_there : get_elem? now.seats.items place ≡ some seat
    seat_there = at_index now.seats.items place seat below seat_at

    not_yet : lost_at first looks place ≡ []
    not_yet = lost_past first place looks (omega (arith, l.many))

    -- the seat of the class that is next was not asked yet
    pub seat_ready : IsClassSeat class seat × (seat_calls seat ≤ me.claims)
    seat_ready =
        let old = there me.seats.items place (omega (arith, below, l.asked.as_many)) in
        let same = l.asked.each place old.0 seat old.1 seat_there class class_there in
        grind (arith, same, not_yet, mine.each place class old.0 class_there old.1)

    module _ (new : ClassSeat) (after : ClaimSeat) (seats : after.seats.items ≡ set now.seats.items place new) (number : after.number ≡ now.number)
        (claims : after.claims ≡ now.claims) (room : vec_capacity after.seats ≡ vec_capacity now.seats) where
      asks_more : (call : Outcome) (done : ℕ → List Outcome) → AsksClass class seat (call ∷ []) new → done place ≡ call ∷ []
          → ((i : ℕ) → i ≢ place → done i ≡ lost_at first looks i)
          → AllOf (AskedSo classes done) me.seats.items after.seats.items × (steps_of after ≤ steps_of me + 2 * length looks + 2 + length (got_of (call ∷ [])))
      asks_more call done did here others =
          let sums = sum_by-set (λ (s : ClassSeat). length (seat_memo s).moves) now.seats.items place new seat below in (
            rw seats (all_more place seat new seat_there l.asked (λ old was. grind (arith, was, class_there, not_yet, did, here))
                (λ j old now away was. rw (others j away) was)),
            grind (arith, sums, seat_at, seats, did.few_steps, l.steps),
          )

      -- it had none free
      pub in_vain : (claimed : ℕ) → AsksClass class seat (Lost claimed ∷ []) new → claimed ≤ 2 ^ 45
          → AskedTo classes me bytes (place + 1) (looks ++ claimed ∷ []) after
      in_vain claimed did small =
          let more = λ (i : ℕ). lost_more first claimed place i looks l.many in
          let asked = asks_more (Lost claimed) (lost_at first (looks ++ claimed ∷ [])) did (grind (arith, nat_tests, more place))
          (λ i apart. grind (arith, nat_tests, more i, apart)) in
          let all = All-push (λ (claimed : ℕ). claimed ≤ 2 ^ 45) looks claimed l.small small in
          grind (arith, l, number, claims, room, asked, all, length_push looks claimed)

      -- it gave a buffer
      pub got : (buf : Buffer) → AsksClass class seat (Got buf.claim tt ∷ []) new → IsBufferOf (ring_terms class.ring) buf → buf.claim ≤ 2 ^ 45
          → Leaves (GotBuffer buf looks) after
      got buf did its small =
          let size = at_map (λ (class : Class). class.size) classes.classes.items place class class_there in
          let told : ClaimTells first sizes (GotBuffer buf looks) = grind (arith, mine.are.terms place class class_there, size, its, l.many) in
          let done = asks_more (Got buf.claim tt) (asked first (GotBuffer buf looks)) did (grind (arith, nat_tests, told.0, l.many))
          (grind (arith, nat_tests, told.0, l.many)) in
          leaves (GotBuffer buf looks) after (number ∙ l.number_is) (claims ∙ l.claims_are) (room ∙ l.room_is) done.0 told (small, l.small)
          (omega (arith, done.1, l.many, below, l.asked.as_many, mine.all, many_sizes classes))
