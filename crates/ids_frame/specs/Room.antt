-- Room that bytes are put into: in an `ArrayVec`, and in the output of a turn.
use Rattle.std.specs.Prelude.{◌≡◌, ℕ, ◌+◌, ◌-◌, List, [], ◌++◌, length}
use Rattle.std.proofs.Common.{refl, sym, ap, ◌∙◌, append_assoc, arith, length-append}
use Rattle.std.proofs.lemmas.List.{append-nil}
use Rattle.arrayvec.specs.ArrayVec.{ArrayVec, Extends, array_vec_len}
use Rattle.ids_types.specs.Output.{Output, has_put}

-- the one room became the other by a piece more, and has as much less room
pub record PutsPiece {S : Type 0} (left : S → ℕ) (extends : S → List ℕ → S → Type 0) (old : S) (piece : List ℕ) (new : S) : Type 0 where
  pub put : extends old piece new
  pub less : left new + length piece ≡ left old

-- how many bytes more go into an `ArrayVec` of 1,100
abbrev pub room_in : ArrayVec ℕ → ℕ
room_in out = 1100 - array_vec_len out

-- no piece leaves an `ArrayVec` as it is
pub nothing_put : (out : ArrayVec ℕ) → Extends out [] out
nothing_put out = sym (append-nil out.items)

-- two pieces in an `ArrayVec`, one after the other, are one
pub both_put : (old mid new : ArrayVec ℕ) (first second : List ℕ) → Extends old first mid → Extends mid second new
    → Extends old (first ++ second) new
both_put old mid new first second one two =
    two ∙ ap (λ xs. xs ++ second) one ∙ append_assoc old.items first second

-- no piece leaves an output as it is
pub no_piece : (out : Output) → out ≡ has_put [] out
no_piece out =
    let less : out.sent_left - 0 ≡ out.sent_left = omega arith in
    rw (append-nil out.sent, less) refl

-- less by two numbers is less by both
less_twice : (n a b : ℕ) → n - a - b ≡ n - (a + b)
less_twice n a b = omega arith

-- two pieces in an output, one after the other, are one
pub two_pieces : (old mid new : Output) (first second : List ℕ) → mid ≡ has_put first old → new ≡ has_put second mid
    → new ≡ has_put (first ++ second) old
two_pieces old mid new first second one two =
    let whole : has_put second (has_put first old) ≡ has_put (first ++ second) old =
    rw (append_assoc old.sent first second, length-append first second, ← less_twice old.sent_left (length first) (length second)) refl in
    two ∙ ap (has_put second) one ∙ whole
