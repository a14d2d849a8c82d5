-- A run of takes, one more at a time.
use Rattle.main_function.proofs.Names.{◌≡◌, ℕ, ◌≤◌, ◌<◌, List, [], ◌∷◌, ◌++◌, length, Ok, Err, arith, All, common_steps, map-append, All-push, Entry, Buffer, AdmitsItem, DeskMemo, ReapTells, Act, item_note, reaps_all, ReportTerms, Took, item_of, items_of, reaps_push}
use Rattle.permit_ring.specs.declared.answer.Unready.{Unready}

-- so far each take had an item
pub record TakesOn (terms : ReportTerms) (most : ℕ) (old : DeskMemo) (taken : List (Entry Buffer)) (new : DeskMemo) : Type 0 where
  pub is : new ≡ reaps_all (items_of taken) old
  pub few : length taken ≤ most
  pub admitted : All (AdmitsItem terms) (items_of taken)

module _ (terms : ReportTerms) (most : ℕ) (old mid new : DeskMemo) (taken : List (Entry Buffer)) (on : TakesOn terms most old taken mid) where
  -- one item more
  pub took_one : (entry : Entry Buffer) → length taken < most → AdmitsItem terms (item_of entry)
      → ReapTells (item_note (λ (act : Act). act)) mid (Ok (item_of entry)) new → TakesOn terms most old (taken ++ entry ∷ []) new
  took_one entry more admitted told =
      let items = map-append item_of taken (entry ∷ []) in
      let all = All-push (AdmitsItem terms) (items_of taken) (item_of entry) on.admitted admitted in
      grind (arith, common_steps, more, items, reaps_push, on.is, told, all)

  -- one was not ready
  pub took_till : (unready : Unready) → ReapTells (item_note (λ (act : Act). act)) mid (Err unready) new → Took terms most old taken new
  took_till unready told = record { run = rw (← on.is) (unready.mark, told.0, told.1); few = on.few; admitted = on.admitted }
