-- What a claim asked of a class, as plain data.
use Rattle.report_api.proofs.Names.{◌≡◌, ℕ, suc, ◌+◌, ◌<◌, ◌≤◌, List, [], ◌∷◌, length, map, refl, inl, inr, arith, Buffer, RiseFrom, asked, first_fitting, lost_at, lost_past, KeptAsks, lost_number, small_of, fate_of}
use Rattle.std.proofs.lemmas.Bool.{cases_lt}
use Rattle.std.proofs.lemmas.Bool.Decides.{nat_tests}
use Rattle.ids_types.specs.Fates.{lost}
use Rattle.buffer_classes.specs.declared.seat.Claim.TheVariants as claims

-- looks are asks that were lost
pub looks_lost : (first i : ℕ) (looks : List ℕ) → map fate_of (lost_at first looks i) ≡ lost_number first looks i
looks_lost first i [] = refl
looks_lost first i (claimed ∷ looks) = grind (arith, looks_lost (suc first) i looks)

-- none of a class before the first
lost_before : (first i : ℕ) (looks : List ℕ) → i < first → lost_at first looks i ≡ []
lost_before first i [] less = refl
lost_before first i (claimed ∷ looks) less = grind (arith, nat_tests, lost_before (suc first) i looks)

-- and one of each class from there on
lost_within : (first i : ℕ) (looks : List ℕ) → first ≤ i → i < first + length looks
    → (claimed : ℕ) × (map fate_of (lost_at first looks i) ≡ lost claimed ∷ [])
lost_within first i [] low less = absurd (omega arith)
lost_within first i (claimed ∷ looks) low less = elim (cases_lt first i) [
  | inl later ↦ let rest = lost_within (suc first) i looks (omega arith) (omega arith) in (rest.0, grind (arith, nat_tests, rest.1))
  | inr here ↦ (claimed, grind (arith, nat_tests, low))
]

-- what a claim that got a buffer asked, from this class on
pub kept_asks : (first i : ℕ) (buf : Buffer) (looks : List ℕ) → first + length looks ≡ buf.class
    → KeptAsks first i buf.class buf.claim (map fate_of (asked first (claims.Got buf looks) i))
kept_asks first i buf looks is = record {
  fits = omega arith;
  got = λ same. grind (arith, nat_tests);
  in_vain = λ low less. grind (arith, nat_tests, lost_within first i looks);
  no_other = λ apart. grind (arith, nat_tests, apart, lost_before first i looks, lost_past first i looks);
}

-- if sizes rise, as many classes are too small as stand before the first that fits, and none is if all sizes are above so many bytes
pub first_in : (bytes above : ℕ) (sizes : List ℕ) → RiseFrom above sizes
    → (first_fitting bytes sizes ≡ small_of sizes bytes) × (bytes ≤ above → small_of sizes bytes ≡ 0)
first_in bytes above [] rise = (refl, λ fits. refl)
first_in bytes above (size ∷ sizes) rise = grind (arith, nat_tests, rise, first_in bytes size sizes rise.1)
