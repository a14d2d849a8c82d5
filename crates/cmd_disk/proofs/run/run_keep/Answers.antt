use Rattle.cmd_disk.proofs.Names.{plain_end, ended_others, ap, disk_of, keep, keep_files_of, pair_of, recall}
use Rattle.cmd_disk.proofs.EndLemmas.{told_end}
use Rattle.cmd_disk.proofs.run.run_keep.Goals as goal

pub returns-in-Ok-Some-Keep-clause-ran : goal.returns-in-Ok-Some-Keep-clause-ran
returns-in-Ok-Some-Keep-clause-ran g c =
    let arm = c.in-Ok-Some-Keep in
    let own = c.keep.ensures in
    let so = told_end (keep (keep_files_of arm.names)) _ _ _ _ _ c.keep.result.end own.ends c.told.ensures.told in
    rw (← ap disk_of (rw (arm.field-0-is, arm.field-0-0-is) at arm.ensures.asked), c.told.ensures.disk)
    (record { ran = so.ran; end = plain_end c.keep.result.end; tells = so.holds; cause = own.cause; leaves = own.leaves })

pub returns-in-Ok-Some-Recall-clause-ran : goal.returns-in-Ok-Some-Recall-clause-ran
returns-in-Ok-Some-Recall-clause-ran g c =
    let arm = c.in-Ok-Some-Recall in
    let own = c.recall.ensures in
    let told = c.told-in-Ok-Some-Recall.ensures in
    let so = told_end (recall (pair_of arm.names)) _ _ _ _ _ c.recall.result.end own.ends told.told in
    rw (← ap disk_of (rw (arm.field-0-is, arm.field-0-0-is) at arm.ensures.asked), told.disk)
    (record {
      ran = so.ran;
      end = plain_end c.recall.result.end;
      tells = so.holds;
      cause = own.cause;
      recalled = own.recalled;
      same = own.same;
      any_moment = own.any_moment;
    })

pub returns-in-Ok-Some-Keep-clause-others : goal.returns-in-Ok-Some-Keep-clause-others
returns-in-Ok-Some-Keep-clause-others g c told =
    let arm = c.in-Ok-Some-Keep in
    rw (← ap disk_of (rw (arm.field-0-is, arm.field-0-0-is) at arm.ensures.asked))
    (ended_others (keep (keep_files_of arm.names)) _ _ told (plain_end c.keep.result.end) c.keep.ensures.ends)

pub returns-in-Ok-Some-Recall-clause-others : goal.returns-in-Ok-Some-Recall-clause-others
returns-in-Ok-Some-Recall-clause-others g c told =
    let arm = c.in-Ok-Some-Recall in
    rw (← ap disk_of (rw (arm.field-0-is, arm.field-0-0-is) at arm.ensures.asked))
    (ended_others (recall (pair_of arm.names)) _ _ told (plain_end c.recall.result.end) c.recall.ensures.ends)
