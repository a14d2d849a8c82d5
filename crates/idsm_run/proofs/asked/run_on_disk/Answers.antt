use Rattle.std.proofs.Common.{inl, rules}
use Rattle.idsm_run.proofs.asked.run_on_disk.Goals as goal

-- the disk was made of the name, and the run was over it
pub returns : goal.returns
returns g c = inl (record {
  name = c.in-Ok.name;
  is_named = search rules;
  disk = c.disk_of.result;
  makes = c.disk_of.ensures;
  left = c.run_keep-status.result.1;
  runs = c.run_keep-status.ensures.ran;
})
