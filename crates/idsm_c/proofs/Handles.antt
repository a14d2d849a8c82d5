-- The machine values of a `Loose` and of a `Handle`. Assumes `Logic`.
use Rattle.idsm_c.proofs.Names.{◌≡◌, ℕ, List, [], ◌∷◌, ◌++◌, refl, subst, dnil, Val, vptr, vstruct, vcons, vnil, of_list, never, fst∗, sem, ‵, ◌$◌, move, fsplit, fjoin, fpick, feq_i, feq_l, RattleType, RawPtr, plain, lone, Ptr, block_ptr, null_ptr, ptr_val, in_a_block, nothing, layout, shape, handle_tells, Good, box_owns, and_tt, held, IsFit, Option, Some, None, Global, Testable, Al, Logic, zero, suc, Laws, impl, tnil, unit, Item, Goal, Seq, Step, step, drop, fpack, within, Slot, bare, has_ty, WT, Valss}
use mathlib.Core.Bool.{true, ◌&&◌}
use lib.Dec.{T}
use seplogic.Ra.Ura.{Ura}
use Rattle.core.specs.declared.alloc.Allocator.{Ghosts}
use Rattle.idsm_c.specs.contracts.loose.Loose as loose
use Rattle.idsm_api.specs.contracts.role.Role as role
use Rattle.idsm_c.specs.contracts.handle.Handle as handle
use Rattle.idsm_c.specs.Held.{boxed}

-- parameter k of a signature
abbrev pub slot_at : {n : ℕ} → ℕ → List (Slot n) → Slot n
slot_at k [] = plain (λ _. unit)
slot_at zero (s ∷ ss) = s
slot_at (suc k) (s ∷ ss) = slot_at k ss

abbrev pub both : Val → Val → Val
both v w = vstruct (vcons v (vcons w vnil))

module _ (R Z : RattleType) (L : Laws Z) (g : Ghosts Z.Denot) where
  abbrev pub Loose : RattleType
  Loose = loose.the_row R Z g

  abbrev al : Al
  al = record { row = Z; laws = L; g = g; d = impl [] tnil dnil; drops = impl [] tnil dnil }

  pub loose_good : (b o : ℕ) (h : Val) → Good (layout Z) h → T (has_ty (layout Z) h && true) × WT (both (vptr b o) h)
  loose_good b o h fits = (and_tt (has_ty (layout Z) h) fits.0, (tt, (fits.1, tt)))

  module _ {M : Type 1} {𝓤 : Ura M} {𝓛 : Logic 𝓤} {K : Type 0} {Γ : List (Item 𝓤)} {G : Goal 𝓤 𝓛.H} where
    pub loose_out : K → (d : Loose.Denot) (vs : List Val)
        → ((b o : ℕ) (h : Val) → d.at ≡ block_ptr b o → vs ≡ both (vptr b o) h ∷ [] → Good (layout Z) h → Seq K 𝓛 (‵ (box_owns (g.dealloc_token d.alloc) R (block_ptr b o) d.value) ∷ ‵ (Z.own_val d.alloc (h ∷ [])) ∷ Γ) G)
        → Seq K 𝓛 (‵ (Loose.own_val d vs) ∷ Γ) G
    loose_out t d vs k =
        fsplit t $ fpick t (λ vss. fsplit t $ feq_l t (λ ev. fsplit t $ feq_l t (λ ep. fsplit t $ handle_tells al t d.alloc vss.1.0 (λ h ea fits. move t (1 ∷ []) $ drop t $ move t (1 ∷ []) $
        in_a_block t d.at (λ p. box_owns (g.dealloc_token d.alloc) R p d.value) (fst∗ 𝓤 (never 𝓤) (sem 𝓛 (g.dealloc_token d.alloc (bare (lone R.mir)) null_ptr))) (λ b o e. k b o h e
        (subst (λ (p : Ptr). vs ≡ vstruct (of_list (ptr_val p ∷ h ∷ [])) ∷ []) e
        (subst (λ (ws : List Val). vs ≡ vstruct (of_list (ptr_val d.at ∷ (ws ++ []))) ∷ []) ea (subst (λ (ps : List Val). vs ≡ vstruct (of_list (ps ++ (vss.1.0 ++ []))) ∷ []) ep ev))) fits)))))

    pub loose_in : K → (b o : ℕ) (h : Val) (a : Z.Denot) (x : R.Denot)
        → Step K 𝓛 (‵ (Loose.own_val (record { at = block_ptr b o; alloc = a; value = x }) (both (vptr b o) h ∷ [])) ∷ Γ) G (‵ (box_owns (g.dealloc_token a) R (block_ptr b o) x) ∷ ‵ (Z.own_val a (h ∷ [])) ∷ Γ) G
    loose_in t b o h a x = step (λ s. let v : Val = both (vptr b o) h in
        nothing t $ move t (2 ∷ 0 ∷ []) $ fjoin t $ feq_i t (List Val) (vptr b o ∷ []) (vptr b o ∷ []) refl $ fjoin t $ feq_i t (List Val) (v ∷ []) (v ∷ []) refl $ fjoin t $
        fpack t (Valss (RawPtr ∷ Z ∷ [])) (within (shape (loose.the_type R Z g)) (block_ptr b o, (a, tt)) (v ∷ [])) (vptr b o ∷ [], (h ∷ [], tt)) $ fjoin t $ s)

-- a handle is its pointer
abbrev pub handle_val : Ptr → Val
handle_val p = vstruct (vcons (ptr_val p) vnil)

abbrev pub Content : Type 0
Content = Option (role.the_row).Denot

module _ {M : Type 1} {𝓤 : Ura M} {𝓛 : Logic 𝓤} {K : Type 0} {Γ : List (Item 𝓤)} {G : Goal 𝓤 𝓛.H} where
  pub handle_in : K → (p : Ptr) (c : Content)
      → Step K 𝓛 (‵ ((handle.the_row).own_val (record { at = p; content = c }) (handle_val p ∷ [])) ∷ Γ) G (‵ (held role.the_row IsFit p c) ∷ Γ) G
  handle_in t p c = step (λ s. let v : Val = handle_val p in
      nothing t $ feq_i t (List Val) (ptr_val p ∷ []) (ptr_val p ∷ []) refl $ fjoin t $ feq_i t (List Val) (v ∷ []) (v ∷ []) refl $ fjoin t $
      fpack t (Valss (RawPtr ∷ [])) (within (shape handle.the_type) (p, tt) (v ∷ [])) (ptr_val p ∷ [], tt) $ fjoin t $ s)

  -- nothing, or a box with a fit value
  pub either_held : K → (p : Ptr) (c : Content) → (p ≡ null_ptr → c ≡ None → Seq K 𝓛 Γ G)
      → ((b o : ℕ) (a : Global) (x : (role.the_row).Denot) → p ≡ block_ptr b o → Testable (block_ptr b o) → c ≡ Some x → IsFit x
      → Seq K 𝓛 (‵ (boxed role.the_row IsFit a (block_ptr b o) x) ∷ Γ) G)
      → Seq K 𝓛 (‵ (held role.the_row IsFit p c) ∷ Γ) G
  either_held t null_ptr c none one = feq_l t (λ e. none refl e)
  either_held t (block_ptr b o) c none one = fsplit t $ fpick t (λ tested. drop t $ fpick t (λ s. fsplit t $ feq_l t (λ e. fsplit t $ fpick t (λ fit. drop t $
      one b o s.0 s.1 refl tested e fit))))
