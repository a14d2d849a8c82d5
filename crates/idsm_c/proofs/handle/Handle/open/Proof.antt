-- `open` tests the pointer, and gives what the handle owned with it. Assumes `Logic`.
use Rattle.idsm_c.proofs.Names.{fpick, feq_l, drop, vstruct, of_list, ◌≡◌, List, [], ◌∷◌, ◌++◌, refl, sym, ap, ◌∙◌, subst, lit<, Some, None, Val, vptr, vcons, vnil, SProp, ent, emp, id⊢, WpFn, ‵, ◌⊛◌, at_ret, ◌$◌, ◌∵◌, !, qed, by, move, keep, split, fsplit, fjoin, suffices, use0, use1, rewrite, stop, fld, lit, of_opd, no_more, and_then, first, exec, returns, enter, alloc_all, pass_all, free_all, look_at, get, get_in, sets, env, agg, sub, whole, fact, fact_i, tables, RattleType, owns, Ptr, block_ptr, null_ptr, types_at, nothing, layout, alive, Stays, stay_dropped, walk_of, Goes-blank, after, Good, and_tt, proved_at, leaves, IsFit, tests_null, sets_last, ghosts, raw, bin, branches, Goes-dropped, type_at, one, IfSome}
use types.Match.{live}
use Rattle.core.proofs.option.Made.{Some-of, none_of}
use Rattle.std.specs.contracts.alloc.Global as heap
use Rattle.std.proofs.alloc.Global.TheLaws as heap_laws
use Rattle.idsm_c.specs.Opened.{as_open}
use Rattle.idsm_api.specs.contracts.role.Role as role
use Rattle.idsm_c.proofs.Handles.{Loose, both, handle_val, either_held, loose_good, loose_in, slot_at}
use Rattle.idsm_c.specs.contracts.handle.Handle.open.{ended, clauses}
use Rattle.idsm_c.specs.contracts.handle.Handle.open.Key.{name as #self}
use Rattle.idsm_c.proofs.handle.Handle.open.Statement.{statement}
use Rattle.idsm_c.proofs.handle.Handle.open.Code as code

pub open_spec : {M : Type 1} → statement M
open_spec 𝓤 𝓛 𝓜 𝓡 wired =
    let H = 𝓛.H in let 𝓣 = tables 𝓤 H 𝓜 𝓡 𝓡.env in let En = ended in let c = clauses 𝓛 𝓜.mem 𝓡.returns in let fn = code.function in
    let R : RattleType = role.the_row in let Z : RattleType = heap.the_row in let LZ = heap_laws.the_row_laws in let Lr : RattleType = Loose R Z LZ ghosts in
    let self = slot_at 0 En.signature.params in let other = slot_at 1 En.signature.params in
    let hs : Stays En.signature.params En.kept = (stay_dropped self En.kept.0, (stay_dropped other En.kept.1.0, tt)) in
    proved_at 𝓛 En hs c 𝓜 𝓡 (Goes-blank 𝓛 0 self En.kept.0 (λ κs x f. tt), (Goes-dropped 𝓛 0 other En.kept.1.0 (λ κs x f. refl), tt)) #self fn (code.unfolded 𝓤 H 𝓜 𝓡 wired) (λ z are.
    let κs = z.0.0 in let qs = z.0.1 in let d = z.0.3.0 in let a = z.0.3.1.0 in let Post : Val → SProp 𝓤 = (walk_of 𝓛 En hs c).post z in let Run : List Val → SProp 𝓤 = λ ws. WpFn 𝓤 H 𝓣.C 𝓣.Λ fn ws Post in
    let Out : RattleType = type_at En.signature.result κs in
    let h = one (layout Z) z.0.4.1.0 ((LZ.lawful 𝓛).typed a z.0.4.1.0 are.1.0) in
    let Said = λ (r : Out.Denot). (as_open r ≡ d.content) × IfSome (as_open r) IsFit in
    qed 𝓛 ((raw (alive 𝓛 En.signature κs qs) ⊛ ‵ (owns (types_at En.signature.params κs) z.0.3 z.0.4)) ∷ raw ((c κs z.0.3).requires z.1) ∷ []) ∵
    split ! $ move ! (1 ∷ []) $ fsplit ! $ fsplit ! $ fpick ! (λ vss. fsplit ! $ feq_l ! (λ ev. fsplit ! $ feq_l ! (λ ep. drop ! $
    let ws = subst (λ (ps : List Val). z.0.4.0 ≡ vstruct (of_list (ps ++ [])) ∷ []) ep ev in either_held ! d.at d.content
    (λ is none. let w : Val = handle_val null_ptr in let told : z.0.4.0 ≡ w ∷ [] = ws ∙ ap (λ (p : Ptr). handle_val p ∷ []) is in
    suffices ! (Run (w ∷ h.0 ∷ [])) (subst (λ (us : List Val). ent 𝓤 (Run (w ∷ h.0 ∷ [])) (Run us)) (sym (λ i. told i ++ (h.1 i ++ []))) (id⊢ 𝓤 (Run (w ∷ h.0 ∷ [])))) $
    enter ! 𝓣.C 𝓣.Λ fn (w ∷ h.0 ∷ []) Post $ alloc_all ! (λ l. pass_all ! refl ((tt, (record { fits = lit< tt }, tt)), (h.2, tt)) $ let Ev = env fn.locals l in
    sets ! (of_opd ! (get_in ! (fld ! refl (stop !)) (sub ! 0 refl (whole !)))) refl (tt, record { fits = lit< tt }) $
    sets ! (bin ! (get ! refl) (lit ! tt) tt) refl (tt, tt) $ first ! $ branches ! (get ! refl)
    (λ _. sets_last ! (agg ! (and_then ! (lit ! tt) (no_more !))) refl (tt, (record { fits = lit< tt }, tt)) $ exec ! 𝓣.C 𝓣.Λ Ev (after 3 fn.body) (at_ret Ev Post) $
    sets ! (of_opd ! (get ! refl)) refl (tt, (record { fits = lit< tt }, tt)) $ use0 𝓛 (‵ (Out.own_val None (live 0 vnil ∷ []))) (none_of 𝓛 Lr) $
    use0 𝓛 (raw (fact 𝓤 (Said None))) (fact_i 𝓤 (Said None) (emp 𝓤) (sym none, tt)) $ nothing ! $ nothing ! $ fjoin ! $ nothing ! $ fjoin ! $
    returns ! (look_at ! 0 refl) $ free_all ! refl $ keep ! (4 ∷ 0 ∷ 2 ∷ 1 ∷ []) $ by ! (leaves 𝓛 En hs c z (live 0 vnil) None (tt, (tt, tt)) (tt, (tt, tt))))
    (λ wrong. absurd wrong)))
    (λ b o a' x is tested full fit. let w : Val = handle_val (block_ptr b o) in let told : z.0.4.0 ≡ w ∷ [] = ws ∙ ap (λ (p : Ptr). handle_val p ∷ []) is in
    let made : Val = both (vptr b o) h.0 in let typed = loose_good R Z LZ ghosts b o h.0 h.2 in let v₁ : Val = live 1 (vcons made vnil) in let r : Lr.Denot = record { at = block_ptr b o; alloc = a; value = x } in
    let good : Good (layout Out) v₁ = (and_tt _ typed.0, (record { fits = lit< tt }, (typed.1, tt))) in
    suffices ! (Run (w ∷ h.0 ∷ [])) (subst (λ (us : List Val). ent 𝓤 (Run (w ∷ h.0 ∷ [])) (Run us)) (sym (λ i. told i ++ (h.1 i ++ []))) (id⊢ 𝓤 (Run (w ∷ h.0 ∷ [])))) $
    enter ! 𝓣.C 𝓣.Λ fn (w ∷ h.0 ∷ []) Post $ alloc_all ! (λ l. pass_all ! refl ((tt, (tt, tt)), (h.2, tt)) $ let Ev = env fn.locals l in
    sets ! (of_opd ! (get_in ! (fld ! refl (stop !)) (sub ! 0 refl (whole !)))) refl (tt, tt) $
    sets ! (bin ! (get ! refl) (lit ! tt) (tests_null (block_ptr b o) tested)) refl (tt, tt) $ first ! $ branches ! (get ! refl) (λ wrong. absurd wrong) (λ _.
    sets ! (of_opd ! (get ! refl)) refl (tt, tt) $
    sets ! (agg ! (and_then ! (get ! refl) (and_then ! (get ! refl) (no_more !)))) refl typed $ sets_last ! (agg ! (and_then ! (lit ! tt) (and_then ! (get ! refl) (no_more !)))) refl good $
    exec ! 𝓣.C 𝓣.Λ Ev (after 3 fn.body) (at_ret Ev Post) $ sets ! (of_opd ! (get ! refl)) refl good $
    move ! (1 ∷ []) $ fsplit ! $ rewrite ! 0 (λ (us : List Val). ‵ (Z.own_val a us)) h.1 refl $ move ! (2 ∷ 0 ∷ []) $ loose_in R Z LZ ghosts ! b o h.0 a x $
    use1 𝓛 (‵ (Out.own_val (Some r) (v₁ ∷ []))) (Some-of 𝓛 Lr r made) $ use0 𝓛 (raw (fact 𝓤 (Said (Some r)))) (fact_i 𝓤 (Said (Some r)) (emp 𝓤) (sym full, fit)) $ nothing ! $ nothing ! $ fjoin ! $ nothing ! $ fjoin ! $
    returns ! (look_at ! 0 refl) $ free_all ! refl $ keep ! (4 ∷ 0 ∷ 2 ∷ 1 ∷ []) $ by ! (leaves 𝓛 En hs c z v₁ (Some r) (tt, (tt, tt)) (tt, (tt, tt))))))))))
