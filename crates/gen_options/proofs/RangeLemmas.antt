-- The ranges, as tests and as facts.
use Rattle.std.proofs.Common.{IsTrue, arith}
use Rattle.std.proofs.lemmas.Bool.Decides.{nat_tests}
use Rattle.gen_options.specs.declared.options.Options.{Options}
use Rattle.gen_options.specs.Ranges.{IsInRange, is_in_range}
use Rattle.std.proofs.lemmas.Grind.{common_steps}

-- options that pass the test are in their ranges
pub ranges : (o : Options) → IsTrue (is_in_range o) → IsInRange o
ranges o holds = grind (arith, common_steps, nat_tests)
