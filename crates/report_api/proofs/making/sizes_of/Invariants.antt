use Rattle.report_api.proofs.Names.{◌≡◌, length, take, spec_sizes}
use Rattle.report_api.proofs.making.sizes_of.Given as goal

abbrev pub invariant-loop-place : goal.invariant-loop-place
invariant-loop-place l = (length l.sizes ≡ 4) × (take l.place l.sizes ≡ spec_sizes (take l.place l.specs))
