-- What a reader of a part and the part's spelling have to do with each other, for one part and for
-- several, one after the other.
use Rattle.ids_frame.proofs.Names.{◌≡◌, ℕ, Bool, true, false, List, [], ◌∷◌, ◌++◌, length, Some, None, refl, subst, append_assoc, Option, IfSome, is_some, append-nil, drop_at, All-drop, IsByte, AreBytes, Read, ◌>>=◌, optional, arith, common_steps}

-- two answers that are the same have one value, and the same bytes after it
pub one_answer : {A : Type 0} {p q : A × List ℕ} → Some p ≡ Some q → (p.0 ≡ q.0) × (p.1 ≡ q.1)
one_answer e = (cc e, cc e)

-- ---- a part

-- what stands after bytes are bytes
pub behind_bytes : (front rest : List ℕ) → AreBytes (front ++ rest) → AreBytes rest
behind_bytes front rest fits =
    subst AreBytes (drop_at front rest (length front) refl) (All-drop IsByte (length front) (front ++ rest) fits)

-- the bytes are a proper prefix of a value's spelling
pub record RunsOut {A : Type 0} (write : A → List ℕ) (Can : A → Type 0) (bytes : List ℕ) : Type 0 where
  pub value : A
  pub fits : Can value
  pub next : ℕ
  pub more : List ℕ
  pub whole : bytes ++ next ∷ more ≡ write value

-- what is read is spelled so, what is spelled so is read, and bytes are too short only where they
-- can be completed
pub record IsPart {A : Type 0} (read : List ℕ → Read A) (write : A → List ℕ) (Can : A → Type 0) : Type 0 where
  pub takes : (bytes : List ℕ) (x : A) (rest : List ℕ) → AreBytes bytes → read bytes ≡ Some (x, rest)
      → (bytes ≡ write x ++ rest) × Can x
  pub again : (x : A) (rest : List ℕ) → Can x → read (write x ++ rest) ≡ Some (x, rest)
  pub cut : (bytes : List ℕ) → AreBytes bytes → read bytes ≡ None → RunsOut write Can bytes
  pub one : (x : A) × Can x

-- what is told of bytes by what is read of them
abbrev pub Tells : {A : Type 0} → (A → List ℕ) → (A → Type 0) → List ℕ → Read A → Type 0
Tells write Can bytes (Some x) = (bytes ≡ write x.0 ++ x.1) × Can x.0
Tells write Can bytes None = RunsOut write Can bytes

-- a part tells so
pub tells : {A : Type 0} {read : List ℕ → Read A} {write : A → List ℕ} {Can : A → Type 0} → IsPart read write Can
    → (bytes : List ℕ) → AreBytes bytes → (r : Read A) → read bytes ≡ r → Tells write Can bytes r
tells p bytes fits (Some x) e = p.takes bytes x.0 x.1 fits e
tells p bytes fits None e = p.cut bytes fits e

-- and what tells so is a part
pub told_part : {A : Type 0} {read : List ℕ → Read A} {write : A → List ℕ} {Can : A → Type 0}
    → ((bytes : List ℕ) → AreBytes bytes → Tells write Can bytes (read bytes))
    → ((x : A) (rest : List ℕ) → Can x → read (write x ++ rest) ≡ Some (x, rest)) → ((x : A) × Can x) → IsPart read write Can
told_part {A} {read} {write} {Can} told again one = grind (arith, common_steps)

-- ---- parts one after the other

-- parts, where each may go by those before it, and what they make
pub data Parts (A : Type 0) : Type 1 where
  made : A → Parts A
  part : {B : Type 0} {read : List ℕ → Read B} {write : B → List ℕ} {Can : B → Type 0}
      → IsPart read write Can → (B → Parts A) → Parts A

-- reading them
abbrev pub reads : {A : Type 0} → Parts A → List ℕ → Read A
reads (made x) bytes = Some (x, bytes)
reads (part {B} {read} p more) bytes = read bytes >>= λ x. reads (more x.0) x.1

-- a value for each
abbrev pub Values : {A : Type 0} → Parts A → Type 0
Values (made x) = Unit {0}
Values (part {B} p more) = (x : B) × Values (more x)

-- what the values make
abbrev pub value : {A : Type 0} → (parts : Parts A) → Values parts → A
value (made x) v = x
value (part p more) v = value (more v.0) v.1

-- the values' spellings
abbrev pub texts : {A : Type 0} → (parts : Parts A) → Values parts → List ℕ
texts (made x) v = []
texts (part {B} {read} {write} p more) v = write v.0 ++ texts (more v.0) v.1

-- each value is one that its part can be
abbrev pub AllCan : {A : Type 0} → (parts : Parts A) → Values parts → Type 0
AllCan (made x) v = Unit {0}
AllCan (part {B} {read} {write} {Can} p more) v = Can v.0 × AllCan (more v.0) v.1

-- the values that make this
pub record Makes {A : Type 0} (parts : Parts A) (x : A) : Type 0 where
  pub values : Values parts
  pub can : AllCan parts values
  pub is : value parts values ≡ x

-- what is spelled so is read
all_again : {A : Type 0} (parts : Parts A) (v : Values parts) (rest : List ℕ) → AllCan parts v
    → reads parts (texts parts v ++ rest) ≡ Some (value parts v, rest)
all_again (made x) v rest can = refl
all_again (part {B} {read} {write} p more) v rest can = grind (arith, common_steps, append_assoc, all_again (more v.0) v.1 rest can.1)

-- some values
some_values : {A : Type 0} (parts : Parts A) → (v : Values parts) × AllCan parts v
some_values (made x) = (tt, tt)
some_values (part p more) =
    let behind = some_values (more p.one.0) in
    ((p.one.0, behind.0), (p.one.1, behind.1))

-- what is told of bytes by what parts read of them, behind others; where a part runs out, any later parts complete it
all_tell : {A : Type 0} (parts : Parts A) (front bytes : List ℕ) (spell : A → List ℕ) (May : A → Type 0) → AreBytes bytes
    → ((v : Values parts) → AllCan parts v → (front ++ texts parts v ≡ spell (value parts v)) × May (value parts v))
    → Tells spell May (front ++ bytes) (reads parts bytes)
all_tell (made x) front bytes spell May fits spelled =
    grind (arith, common_steps, append-nil, spelled tt tt)
all_tell (part {B} {read} {write} {Can} p more) front bytes spell May fits spelled =
    (elim (read bytes) as (λ (r : Read B). Tells write Can bytes r → Tells spell May (front ++ bytes) (r >>= λ y. reads (more y.0) y.1)) [
      | Some y ↦ λ t.
          let told = all_tell (more y.0) (front ++ write y.0) y.1 spell May (behind_bytes (write y.0) y.1 (subst AreBytes t.0 fits))
          (λ v can. grind (arith, common_steps, append_assoc, spelled (y.0, v) (t.1, can))) in
          grind (arith, common_steps, append_assoc, told)
      | None ↦ λ r.
          let behind = some_values (more r.value) in
          let last = texts (more r.value) behind.0 in
          let s = spelled (r.value, behind.0) (r.fits, behind.1) in
          record {
            value = value (more r.value) behind.0;
            fits = s.1;
            next = r.next;
            more = r.more ++ last;
            whole = grind (arith, common_steps, append_assoc, s, r.whole);
          }
    ]) (tells p bytes fits (read bytes) refl)

-- what parts make is spelled as they are
pub record SpelledAs {A : Type 0} (parts : Parts A) (write : A → List ℕ) (Can : A → Type 0) (v : Values parts) : Type 0 where
  pub text : texts parts v ≡ write (value parts v)
  pub can : Can (value parts v)

-- parts are a part, under the spelling of what they make
pub parts_are_part : {A : Type 0} (parts : Parts A) (write : A → List ℕ) (Can : A → Type 0)
    → ((v : Values parts) → AllCan parts v → SpelledAs parts write Can v) → ((x : A) → Can x → Makes parts x)
    → IsPart (reads parts) write Can
parts_are_part {A} parts write Can spelled makes =
    told_part
    (λ bytes fits. all_tell parts [] bytes write Can fits (λ v can. let s = spelled v can in (s.text, s.can)))
    (λ x rest can. grind (arith, common_steps, makes x can, spelled (makes x can).values, all_again parts (makes x can).values rest))
    (let some = some_values parts in (value parts some.0, (spelled some.0 some.1).can))

-- ---- a part that is there or not

-- the part is there where it is announced
abbrev pub IsThere : {A : Type 0} → Bool → (A → Type 0) → Option A → Type 0
IsThere present Can o = (present ≡ is_some o) × IfSome o Can

-- a part that is there or not is a part
pub optional_is_part : {A : Type 0} {read : List ℕ → Read A} (write : Option A → List ℕ) {Can : A → Type 0}
    → write None ≡ [] → IsPart read (λ x. write (Some x)) Can
    → (present : Bool) → IsPart (optional present read) write (IsThere present Can)
optional_is_part write {Can} none p false = grind (arith, common_steps, parts_are_part)
optional_is_part write {Can} none p true =
    parts_are_part (part p (λ x. made (Some x))) write (IsThere true Can)
    (λ v can. record { text = append-nil _; can = (refl, can.0) })
    (elim [ None ↦ λ there. absurd (cc there.0) | Some x ↦ λ there. record { values = (x, tt); can = (there.1, tt); is = refl } ])
