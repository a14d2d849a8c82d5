-- `empty` makes the null handle. Assumes `Logic`.
use Rattle.idsm_c.proofs.Names.{◌≡◌, [], ◌∷◌, refl, lit<, None, Val, SProp, emp, ftrue, ‵, ◌⊛◌, ◌$◌, ◌∵◌, !, qed, by, keep, split, use0, feq_i, lit, no_more, and_then, returns, enter, alloc_all, pass_all, free_all, look_at, sets, agg, fact, fact_i, tables, null_ptr, nothing, alive, walk_of, leaves, proved, raw}
use Rattle.idsm_c.proofs.Handles.{Content, handle_val, handle_in}
use Rattle.idsm_c.specs.contracts.handle.Handle.empty.{ended, clauses}
use Rattle.idsm_c.specs.contracts.handle.Handle.empty.Key.{name as #self}
use Rattle.idsm_c.proofs.handle.Handle.empty.Statement.{statement}
use Rattle.idsm_c.proofs.handle.Handle.empty.Code as code

pub empty_spec : {M : Type 1} → statement M
empty_spec 𝓤 𝓛 𝓜 𝓡 wired =
    let H = 𝓛.H in let 𝓣 = tables 𝓤 H 𝓜 𝓡 𝓡.env in let En = ended in let c = clauses 𝓛 𝓜.mem 𝓡.returns in let fn = code.function in
    let none : Content = None in let Said : Type 0 = none ≡ none in
    proved 𝓛 En tt c 𝓜 𝓡 tt #self fn (code.unfolded 𝓤 H 𝓜 𝓡 wired) (λ κs. tt) (λ κs. tt) (λ κs qs bounds a gh are.
    let y : (walk_of 𝓛 En tt c).Ghost = ((κs, qs, bounds, a, tt), gh) in let Post : Val → SProp 𝓤 = (walk_of 𝓛 En tt c).post y in
    qed 𝓛 ((raw (alive 𝓛 En.signature κs qs) ⊛ ‵ ftrue) ∷ raw ((c κs a).requires gh) ∷ []) ∵ split ! $ keep ! (0 ∷ []) $
    enter ! 𝓣.C 𝓣.Λ fn [] Post $ alloc_all ! (λ l. pass_all ! refl tt $
    sets ! (agg ! (and_then ! (lit ! tt) (no_more !))) refl (tt, (record { fits = lit< tt }, tt)) $
    returns ! (look_at ! 0 refl) $ free_all ! refl $ feq_i ! Content None None refl $ handle_in ! null_ptr None $
    use0 𝓛 (raw (fact 𝓤 Said)) (fact_i 𝓤 Said (emp 𝓤) refl) $ nothing ! $
    keep ! (3 ∷ 0 ∷ 2 ∷ 1 ∷ []) $ by ! (leaves 𝓛 En tt c y (handle_val null_ptr) (record { at = null_ptr; content = None }) tt tt)))
