use Rattle.cmd_files.proofs.Names.{Ok, refl, arith, common_steps}
use Rattle.cmd_files.proofs.saying.say.Goals as goal

pub returns-then-is_empty : goal.returns-then-is_empty
returns-then-is_empty g c = record {
  put = Ok tt;
  is = refl;
  takes = λ told. grind (arith, common_steps);
  cause = refl;
  some = tt;
}
