-- A row more among those of a caller, and bytes more after those of all lines.
use Rattle.trace_text.proofs.Names.{◌≡◌, ℕ, ◌<◌, ◌≤◌, List, [], ◌∷◌, ◌++◌, length, map, set, get_or, refl, ap, ap₂, ◌∙◌, subst, sym, arith, Vec, get_or-map, length-append, length-map, map-append, map-set, all_append, AllByRecursion, Asked, reports, callers_asked, row_asked, range_of_front, All-from_recursion, All-weaker, recursion_from_All, all_set, AreWithin, IsRowWithin}
use Rattle.std.specs.declared.alloc.Global.{Global}
use Rattle.trace_text.specs.declared.rows.Row.{Row}
use Rattle.trace_text.specs.declared.rows.Row.TheVariants as rows

abbrev pub Rows : Type 0
Rows = Vec Row Global

-- what the rows of a caller ask for
abbrev pub rows_asked : List ℕ → Rows → List Asked
rows_asked bytes rows = map (row_asked bytes) rows.items

-- ---- bytes more

row_same : (bytes more : List ℕ) (row : Row) → IsRowWithin (length bytes) row → row_asked (bytes ++ more) row ≡ row_asked bytes row
row_same bytes more (rows.Report event count stamp start end) within = ap (reports event count stamp) (range_of_front bytes more start end within.0 within.1)
row_same bytes more row within = refl

maps_same : {A B : Type 0} (f g : A → B) (P : A → Type 0) → ((x : A) → P x → f x ≡ g x) → (xs : List A) → AllByRecursion P xs → map f xs ≡ map g xs
maps_same f g P same [] all = refl
maps_same f g P same (x ∷ xs) all = ap₂ ◌∷◌ (same x all.0) (maps_same f g P same xs all.1)

row_within : (n m : ℕ) → n ≤ m → (row : Row) → IsRowWithin n row → IsRowWithin m row
row_within n m le row within = grind (arith, le, within)

all_weaker : {A : Type 0} (P Q : A → Type 0) → ((x : A) → P x → Q x) → (xs : List A) → AllByRecursion P xs → AllByRecursion Q xs
all_weaker P Q less xs all = recursion_from_All Q xs (All-weaker P Q less xs (All-from_recursion P xs all))

-- ---- a row more

-- rows of a caller are put in the place of its old ones: they are the old ones and some more, over more bytes
module _ (bytes own now : List ℕ) (callers : List Rows) (value : List (List Asked)) (i : ℕ) (old new : Rows) (more : List Row) (long : now ≡ bytes ++ own) (view : callers_asked bytes callers ≡ value)
    (sound : AreWithin (length bytes) callers) (within : i < length value) (is : old ≡ get_or callers i old) (are : new.items ≡ old.items ++ more) where
  there : i < length callers
  there = omega (arith, within, ap length view, length-map callers (rows_asked bytes))

  pub rows_added : callers_asked now (set callers i new) ≡ set value i (get_or value i [] ++ map (row_asked (bytes ++ own)) more)
  rows_added =
      let f = rows_asked (bytes ++ own) in
      let same : map f callers ≡ value = maps_same f (rows_asked bytes) _ (λ (rows : Rows) all. maps_same _ _ _ (row_same bytes own) rows.items all) callers sound ∙ view in
      let asked : get_or value i [] ≡ f old = ap (λ (ls : List (List Asked)). get_or ls i []) (sym same) ∙ get_or-map f callers i old [] there ∙ ap f (sym is) in
      rw (long, asked, ← same) (map-set f callers i new ∙ ap (λ (rs : List Row). set (map f callers) i (map (row_asked (bytes ++ own)) rs)) are ∙ ap (set (map f callers) i) (map-append (row_asked (bytes ++ own)) old.items more))

  -- all contexts are there
  pub rows_within : AllByRecursion (IsRowWithin (length now)) more → AreWithin (length now) (set callers i new)
  rows_within there_too =
      let le : length bytes ≤ length now = grind (arith, long, length-append) in
      let all = all_weaker _ (λ (rows : Rows). AllByRecursion (IsRowWithin (length now)) rows.items) (λ (rows : Rows). all_weaker _ _ (row_within (length bytes) (length now) le) rows.items) callers sound in
      let own_rows = subst (λ (rows : Rows). AllByRecursion (IsRowWithin (length now)) rows.items) (sym is) (All-from_recursion _ callers all i old there) in
      all_set _ callers i new all (rw are (all_append _ old.items more own_rows there_too))
