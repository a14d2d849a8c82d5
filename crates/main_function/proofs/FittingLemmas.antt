-- What is known of items that the desk admits.
use Rattle.main_function.proofs.Names.{ℕ, suc, ◌≤◌, List, [], ◌∷◌, IfSome, arith, All, AllByRecursion, All-from_recursion, recursion_from_All, Entry, AllAdmitted, parcel_of, FitsAct, Buffer, AreBuffersIn, Act, Report, Kept, AdmitsAct, AdmitsItem, term_sizes, ReportTerms, IsHeld, held, items_of}

module _ (terms : ReportTerms) (most : ℕ) (within : AllAdmitted (λ size. size ≤ most) (term_sizes terms)) (short : most ≤ 1024) where
  -- an act fits, and its buffer is one of the classes
  act_facts : (act : Act) → AdmitsAct terms act
      → FitsAct held terms.events act × IfSome (parcel_of act) (IsHeld (term_sizes terms))
  act_facts (Report event count stamp (Kept class claim buf)) fits = grind (arith, fits, within class buf.size fits.1.size_is, short)
  act_facts _ fits = grind (arith, fits)

  facts : (items : List (Entry Buffer)) → AllByRecursion (AdmitsItem terms) (items_of items)
      → AllByRecursion (λ e. FitsAct held terms.events e.act) items × AllByRecursion (λ e. IfSome (parcel_of e.act) (IsHeld (term_sizes terms))) items
  facts [] fits = (tt, tt)
  facts (e ∷ items) fits =
      let own = act_facts e.act fits.0.act in
      let rest = facts items fits.1 in ((own.0, rest.0), (own.1, rest.1))

  -- so it is of all items that the desk admitted
  pub of_items : (items : List (Entry Buffer)) → All (AdmitsItem terms) (items_of items) → All (λ (e : Entry Buffer). FitsAct held terms.events e.act) items
      × All (λ (e : Entry Buffer). IfSome (parcel_of e.act) (IsHeld (term_sizes terms))) items
  of_items items admitted =
      let all = facts items (recursion_from_All _ _ admitted) in
      (All-from_recursion _ items all.0, All-from_recursion _ items all.1)

-- buffers of the classes, by their places
pub held_in : (sizes : List ℕ) (bufs : List Buffer) → AllByRecursion (IsHeld sizes) bufs → AreBuffersIn sizes bufs
held_in sizes (buf ∷ bufs) are (suc j) b is = held_in sizes bufs are.1 j b is
held_in sizes _ are j b is = grind (arith, are, is)
