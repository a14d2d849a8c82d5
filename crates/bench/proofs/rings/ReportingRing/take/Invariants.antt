use Rattle.buffer_classes.specs.Givers.{AreBuffersIn}
use Rattle.report_api.specs.{IsDeskOf, sizes_of}
use Rattle.bench.proofs.rings.ReportingRing.take.Given as goal

abbrev pub invariant-loop : goal.invariant-loop
invariant-loop l = IsDeskOf l.self.shared l.desk × AreBuffersIn (sizes_of l.self.shared) l.back.items
