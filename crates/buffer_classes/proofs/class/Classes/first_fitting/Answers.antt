use Rattle.buffer_classes.proofs.{arith, ◌≡◌, length, nat_tests, fits_at}
use Rattle.std.proofs.Math.Seq.{drop-length}
use Rattle.buffer_classes.proofs.class.Classes.first_fitting.Goals as goal

pub returns-then-index-len : goal.returns-then-index-len
returns-then-index-len c = grind (arith, nat_tests, fits_at c.args.len c.loop-class.class c.args.self.now.classes.items c.index.result.now)

pub loop-class-preserved : goal.loop-class-preserved
loop-class-preserved c = grind (arith, nat_tests, fits_at c.args.len c.loop-class.class c.args.self.now.classes.items c.index.result.now)

pub returns : goal.returns
returns c =
    let end : c.loop-class.class ≡ length c.args.self.now.classes.items = omega arith in
    grind (arith, rw (end, drop-length c.args.self.now.classes.items) at c.loop-class.invariant)
