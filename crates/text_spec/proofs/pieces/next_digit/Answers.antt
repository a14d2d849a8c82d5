use Rattle.text_spec.proofs.Names.{◌≡◌, ◌==◌, ◌<◌, true, false, length, get_or, sym, ◌∙◌, arith, is_ascii_digit, and_from, ne_eqb, list_all_more, below_more}
use Rattle.text_spec.proofs.NumbersLemmas.{capped_more}
use Rattle.text_spec.proofs.pieces.next_digit.Goals as goal

pub returns-then-byte-separator-clause-more : goal.returns-then-byte-separator-clause-more
returns-then-byte-separator-clause-more c =
    let text = c.args.text.now in
    let inside : c.args.i < length text = omega (arith, c.requires.within) in
    let is : is_ascii_digit (get_or text c.args.i 0) ≡ true = sym c.is_ascii_digit.ensures.value ∙ c.if-is_ascii_digit.true in
    record {
      within = omega arith;
      free = below_more (λ k. (get_or text k 0 == c.args.separator) ≡ false) c.args.i c.requires.free (ne_eqb _ _ c.if-byte-separator.true);
      digits = list_all_more is_ascii_digit text c.args.i 0 inside ∙ and_from _ _ c.requires.digits is;
      is_value = grind (arith, capped_more text c.args.i c.args.value is inside c.requires.is_value);
    }
