-- `close` keeps the pointer, and what the loose box owned goes with it. Assumes `Logic`.
use Rattle.idsm_c.proofs.Names.{Ptr, use1, given, fact_use, via, snd∗, sem, lies_at, full_share, bare, lone, guard_i, Testable, learn, fpack, ftrue, feq_i, Global, ◌≡◌, List, [], ◌∷◌, ◌++◌, refl, sym, subst, Some, Val, vptr, SProp, ent, emp, id⊢, WpFn, ‵, ◌⊛◌, ◌$◌, ◌∵◌, !, qed, by, move, keep, split, fsplit, fjoin, suffices, use0, stop, fld, of_opd, no_more, and_then, returns, enter, alloc_all, pass_all, free_all, look_at, get, get_in, sets, agg, sub, whole, fact, fact_i, tables, owns, block_ptr, types_at, nothing, heard, alive, Stays, stay_dropped, walk_of, Goes-blank, proved_at, leaves, IsFit, ghosts, raw}
use Rattle.std.specs.contracts.alloc.Global as heap
use Rattle.std.proofs.alloc.Global.TheLaws as heap_laws
use Rattle.idsm_api.specs.contracts.role.Role as role
use Rattle.idsm_c.specs.Held.{boxed, filled}
use Rattle.std.proofs.GlobalToken.{dealloc_token-Testable}
use Rattle.idsm_c.proofs.Handles.{Content, both, handle_val, handle_in, loose_good, loose_out, slot_at}
use Rattle.idsm_c.specs.contracts.handle.Handle.close.{ended, clauses}
use Rattle.idsm_c.specs.contracts.handle.Handle.close.Key.{name as #self}
use Rattle.idsm_c.proofs.handle.Handle.close.Statement.{statement}
use Rattle.idsm_c.proofs.handle.Handle.close.Code as code

pub close_spec : {M : Type 1} → statement M
close_spec 𝓤 𝓛 𝓜 𝓡 wired =
    let H = 𝓛.H in let 𝓣 = tables 𝓤 H 𝓜 𝓡 𝓡.env in let En = ended in let c = clauses 𝓛 𝓜.mem 𝓡.returns in let fn = code.function in
    let R = role.the_row in let Z = heap.the_row in let LZ = heap_laws.the_row_laws in let self = slot_at 0 En.signature.params in
    let hs : Stays En.signature.params En.kept = (stay_dropped self En.kept.0, tt) in
    proved_at 𝓛 En hs c 𝓜 𝓡 (Goes-blank 𝓛 0 self En.kept.0 (λ κs x f. tt), tt) #self fn (code.unfolded 𝓤 H 𝓜 𝓡 wired) (λ z are.
    let κs = z.0.0 in let qs = z.0.1 in let v = z.0.3.0 in let Post : Val → SProp 𝓤 = (walk_of 𝓛 En hs c).post z in let Run : List Val → SProp 𝓤 = λ ws. WpFn 𝓤 H 𝓣.C 𝓣.Λ fn ws Post in
    let some : Content = Some v.value in let Said : Type 0 = some ≡ some in
    qed 𝓛 ((raw (alive 𝓛 En.signature κs qs) ⊛ ‵ (owns (types_at En.signature.params κs) z.0.3 z.0.4)) ∷ raw (fact 𝓤 (IsFit v.value)) ∷ []) ∵
    move ! (1 ∷ []) $ heard ! (IsFit v.value) (λ fit. split ! $ move ! (1 ∷ []) $ fsplit ! $ loose_out R Z LZ ghosts ! v z.0.4.0 (λ b o h e ws fits.
    let w : Val = both (vptr b o) h in
    suffices ! (Run (w ∷ [])) (subst (λ (us : List Val). ent 𝓤 (Run (w ∷ [])) (Run us)) (sym (λ i. ws i ++ [])) (id⊢ 𝓤 (Run (w ∷ [])))) $
    enter ! 𝓣.C 𝓣.Λ fn (w ∷ []) Post $ alloc_all ! (λ l. pass_all ! refl (loose_good R Z LZ ghosts b o h fits, tt) $
    sets ! (of_opd ! (get_in ! (fld ! refl (stop !)) (sub ! 0 refl (whole !)))) refl (tt, tt) $
    sets ! (of_opd ! (get ! refl)) refl (tt, tt) $
    sets ! (agg ! (and_then ! (get ! refl) (no_more !))) refl (tt, (tt, tt)) $
    returns ! (look_at ! 0 refl) $ free_all ! refl $ let p : Ptr = block_ptr b o in let B = boxed R IsFit v.alloc p v.value in
    use1 𝓛 (given (Testable p) (‵ B)) (fact_use 𝓤 (Testable p) (via 𝓤 _ (snd∗ 𝓤 (sem 𝓛 (lies_at R full_share p v.value)) (sem 𝓛 (ghosts.dealloc_token v.alloc (bare (lone R.mir)) p)))
    (dealloc_token-Testable 𝓛 v.alloc (bare (lone R.mir)) p)) (guard_i 𝓤 (Testable p) (sem 𝓛 B))) $ learn ! (λ tested. nothing ! $ fpack ! (IsFit v.value) (λ _. ftrue) fit $ fjoin ! $
    feq_i ! Content some some refl $ fjoin ! $ fpack ! (Global × R.Denot) (filled R IsFit p some) (v.alloc, v.value) $
    nothing ! $ fpack ! (Testable p) (λ _. ftrue) tested $ fjoin ! $ handle_in ! p some $
    use0 𝓛 (raw (fact 𝓤 Said)) (fact_i 𝓤 Said (emp 𝓤) refl) $ nothing ! $ nothing ! $ fjoin ! $
    keep ! (5 ∷ 0 ∷ 2 ∷ 1 ∷ []) $ by ! (leaves 𝓛 En hs c z (handle_val (block_ptr b o)) (record { at = block_ptr b o; content = some }) (tt, tt) (tt, tt)))))))
