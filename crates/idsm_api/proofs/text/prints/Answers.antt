use Rattle.idsm_api.proofs.Names.{◌∙◌, sym, arith}
use Rattle.std.proofs.Common.{true≢false}
use Rattle.idsm_api.proofs.text.prints.Goals as goal

pub returns-else-turn_fits : goal.returns-else-turn_fits
returns-else-turn_fits g c = record {
  text_is = λ is. absurd (true≢false (sym is ∙ c.if-turn_fits.false));
  enough = λ short fits. (c.turn_fits.ensures c.args.head.now).1 (omega (arith, fits, c.capacity.ensures));
  room_is = omega arith;
}
