use Rattle.cmd_disk.proofs.Names.{Err, HasDiskCause, LeavesBehind, OnDisk, Recorded, WornAfter, gives, inl, inr, keep, keeps, length, none_deserved, over_then, reading_of, recall, recalls, recorded_in, refl, subst, ◌≡◌}
use Rattle.std.specs.Prelude.{◌<◌}
use Rattle.cmd_disk.proofs.CompletenessLemmas.{answered, told_of}
use Rattle.cmd_disk.proofs.laws.a_run_is_done_where_no_call_fails.Goals as goal

pub returns-clause-kept : goal.returns-clause-kept
unfolding reading_of
returns-clause-kept g c names status old new before after disk left own run told found shown kept none =
    let shows = g.D.Disk.shows in
    let answer = run.ran.answer in
    let judged = over_then (recorded_in names.from) (λ (read : Recorded). gives (keeps read.config read.told.turns)) _ old.files found in
    answered shows status old new before after disk left told shown kept none (keep names) answer
    (λ refusal. none_deserved (keep names) status old new before after told (keeps own.config own.told.turns) judged refusal (λ other none. none))
    run.ran.ends run.ran.puts (told_of (HasDiskCause shows disk left) tt run.end answer run.tells run.cause) inl (λ is. inr (inl is))
    (λ saves worn may is last. inr (inr (record {
      is = is;
      saves = saves;
      told = worn;
      fewer = told_of (λ a. a ≡ Err (OnDisk (WornAfter saves)) → saves < length own.told.turns) (λ wanted. absurd cc) run.end answer run.tells
          (λ same. (subst (LeavesBehind own.config own.told.turns (shows disk) (shows left)) same (run.leaves told shown own found)
          kept.sequence kept.rows kept.keeps).at_end.0) worn;
      last = last;
    })))

pub returns-clause-recalled : goal.returns-clause-recalled
unfolding reading_of
returns-clause-recalled g c names status old new before after disk left run told shown kept none =
    answered g.D.Disk.shows status old new before after disk left told shown kept none (recall names) run.ran.answer
    (λ refusal. none_deserved (recall names) status old new before after told (recalls names.target) refl refusal (λ other none. none))
    run.ran.ends run.ran.puts (told_of (HasDiskCause g.D.Disk.shows disk left) tt run.end run.ran.answer run.tells run.cause) inl inr
    (λ saves worn may is last. absurd may)
