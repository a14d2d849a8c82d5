-- A moment more, by what ends at it.
use Rattle.event_chain.proofs.Names.{EndAt, ◌≡◌, ℕ, ◌<◌, Bool, false, List, ◌∷◌, ◌++◌, Option, Some, None, IfSome, option_to_list, is_some, if◌then◌else◌, refl, arith, nat_tests, common_steps, Output, Parts, Item, Moment, comes, closing_of, slots_by, Slot, GateStands, WindowsStand, Start, Way, Rest, Knowing, Ending, endings, ending_at, items_where, reaches, reached, place_of, Went, IsBehind, InWindow, AtThreshold, stands_beside}
use Rattle.filter_gate.specs.Gate.{Gate}
use Rattle.event_chain.proofs.RestLemmas.{weighs_early}

-- where nothing ends by a moment, a witness knows this without being told
abbrev pub IsSilent : {W : Type 0} → Knowing W → Type 0
IsSilent {W} knows = (witness : W) (config : Parts) (before : List Moment) (moment : Moment)
    → knows witness config before → ending_at config before moment ≡ None → knows witness config (moment ∷ before)

-- what is not there is none
pub none_of : {A : Type 0} (o : Option A) → is_some o ≡ false → o ≡ None
none_of o is = grind (arith, is)

-- what ended before the steps after the windows changes nothing there
pub went_early : (config : Parts) (past : List Ending) (one : Ending) {start : Start} {rest : Rest} {out : Output}
    → place_of one.fate < place_of AtThreshold → Went config start past rest out → Went config start (one ∷ past) rest out
went_early config past one early went =
    let steps = weighs_early config past one early went.follows.steps in grind (arith, nat_tests, common_steps, early, went, steps)

-- ---- a moment more

module _ {B W : Type 0} {held : B → List ℕ} {knows : Knowing W} {config : Parts} {start : Start} {tick : ℕ} {before : List Moment} {old : Way B W}
    {was : Output} (behind : IsBehind held knows config start tick before old was) where
  -- by which an ending comes, or none
  pub behind_more : {gate : Gate} {windows : List (Slot B)} {rest : Rest} {witness : W} {out : Output} (moment : Moment) (o : Option Ending)
      → ending_at config before moment ≡ o → IfSome o (λ one. one.item.tick ≡ tick) → ((event : ℕ) → IfSome (closing_of event moment) (λ closed. closed ≡ tick))
      → GateStands config (moment ∷ before) gate → let past = option_to_list o ++ endings config before in
      WindowsStand config (moment ∷ before) (items_where (reaches InWindow) past) (slots_by held windows) → Went config start past rest out
      → knows witness config (moment ∷ before)
      → IsBehind held knows config start tick (moment ∷ before) (record { gate = gate; windows = windows; rest = rest; witness = witness }) out
  behind_more moment o is at closed gated stands went known =
      let ends : EndAt config tick (moment ∷ before) = record {
        endings_end = rw is (grind (arith, at, behind.at.ends.endings_end));
        closings_end = λ event. let own = closed event in let all = behind.at.ends.closings_end event in grind (arith, own, all);
      } in
      record { at = record { gate = gated; windows = rw is stands; ends = ends }; went = rw is went; witness = known }

  -- an item comes, which joins the windows or not
  pub behind_comes : {gate : Gate} {windows : List (Slot B)} {rest : Rest} {witness : W} {out : Output} (item : Item) (one : Ending) (passed : Bool)
      → ending_at config before (comes item) ≡ Some one
      → one.item.tick ≡ tick → reaches InWindow one ≡ passed → GateStands config (comes item ∷ before) gate
      → let items = reached config InWindow before in WindowsStand config before (if passed then one.item ∷ items else items) (slots_by held windows)
      → Went config start (one ∷ endings config before) rest out → knows witness config (comes item ∷ before)
      → IsBehind held knows config start tick (comes item ∷ before) (record { gate = gate; windows = windows; rest = rest; witness = witness }) out
  behind_comes {windows = windows} item one passed is at reaching gated stands went known =
      behind_more (comes item) (Some one) is at (λ event. tt) gated (stands_beside config before _ (slots_by held windows) (comes item) (λ event. refl)
      (grind (arith, reaching, stands))) went known

  -- nothing ends, and nothing is told
  pub behind_silent : {gate : Gate} {windows : List (Slot B)} → IsSilent knows → (moment : Moment) → ending_at config before moment ≡ None
      → ((event : ℕ) → IfSome (closing_of event moment) (λ closed. closed ≡ tick)) → GateStands config (moment ∷ before) gate
      → WindowsStand config (moment ∷ before) (reached config InWindow before) (slots_by held windows)
      → IsBehind held knows config start tick (moment ∷ before) (record old { gate = gate; windows = windows }) was
  behind_silent silent moment none closed gated stands =
      behind_more moment None none tt closed gated stands behind.went (silent old.witness config before moment behind.witness none)
