use Rattle.cmd_disk.proofs.Names.{Keeping, KeepsBehind, LeavesOnly, Told, [], IsTrue, ap, append-nil, append_assoc, arith, common_steps, length, length-append, refl, rows_behind, rows_of, subst, suc, sym, take, turn_with, reverse, ◌++◌, ◌∙◌, ◌∷◌, ◌≡◌, ◌≤◌}
use Rattle.filter_chain.proofs.TranscriptLemmas.{last_of}
use Rattle.cmd_disk.proofs.SavingLemmas.{IsSavedTo, begun_saving, next_turn, one_more_saved, save_fails, save_passes, stands_before}
use Rattle.cmd_disk.proofs.saving.save_turns.Given.{Over}
use Rattle.cmd_disk.proofs.saving.save_turns.Goals.{After-memory}
use Rattle.cmd_disk.proofs.saving.save_turns.Goals as goal

pub loop-head-init : goal.loop-head-init
loop-head-init g c = record {
  taken = [];
  whole = c.walk-turns.ensures;
  saves_are = refl;
  stands = c.requires.new.stands_for_none;
  all_events = c.requires.new.all_events;
  kept = rw c.requires.new.nothing_kept (λ k d low. absurd (omega (arith, low)));
  ready = c.requires.new.ready;
  turns_fit = rw c.walk-turns.ensures c.requires.foldable.can.turns_fit;
  ticks = rw c.walk-turns.ensures c.requires.foldable.can.ticks;
  tells = refl;
  faults = refl;
  sequence = omega arith;
  saved = λ tells was only.
      begun_saving (record { config = c.args.config.now; turns = c.args.history.now.turns; base = c.args.store.sequence; was = was })
      (g.D.Disk.shows c.args.store.disk).run only;
}

-- the turn that was taken, and the records after it
taken : (g : Over) (c : After-memory g) → (c.loop-head.turns ≡ turn_with c.in-Some.head c.in-Some.entries ∷ c.pop_front.new.self)
    × (suc c.loop-head.saves ≤ length c.args.history.now.turns)
    × (reverse c.memory.result.now.rows ≡ rows_of c.args.config.now (take (suc c.loop-head.saves) c.args.history.now.turns))
taken g c =
    let config = c.args.config.now in
    let before = c.loop-head.invariant in
    let turn = turn_with c.in-Some.head c.in-Some.entries in
    let left : c.loop-head.turns ≡ turn ∷ c.pop_front.new.self = grind (arith, common_steps) in
    let stands = c.take.ensures.stands config before.taken before.stands (rw left at before.ticks).0 in
    let next = next_turn before.taken turn c.pop_front.new.self c.args.history.now.turns c.loop-head.saves (rw left at before.whole) before.saves_are in
    (left, next.1, c.memory.ensures config (before.taken ++ turn ∷ []) stands ∙ ap (rows_of config) next.0)

pub save-requires : goal.save-requires
save-requires g c =
    let foldable = c.requires.foldable in
    let told : Told = record { turns = c.args.history.now.turns; losses = foldable.losses } in
    rw (taken g (goal.at.save-requires g c).After-memory).2
    (c.the_records_of_a_history_can_be_kept.ensures c.args.config.now told (suc c.loop-head.saves) c.parts-parts.ensures.valid foldable.fits)

-- a save that failed left the records after this turn or after the one before it
pub returns-in-Err-Failed-clause-saved : goal.returns-in-Err-Failed-clause-saved
returns-in-Err-Failed-clause-saved g c tells was only =
    let before = c.loop-head.invariant in
    let taken = taken g (goal.at.returns-in-Err-Failed-clause-saved g c).After-memory in
    let keeping : Keeping = record { config = c.args.config.now; turns = c.args.history.now.turns; base = c.args.store.sequence; was = was } in
    let is = before.saved tells was only in
    let there = stands_before keeping _ _ before.sequence taken.1 _ _ _ taken.2 is in
    let since = rw c.in-Err-Failed.field-0-is at
    (c.in-Err-Failed.ensures.any_moment (subst IsTrue (sym before.tells) tells) (rows_behind keeping c.loop-head.saves) there) in
    rw (c.ended_with.ensures, c.in-Err-Failed.disk-is) (record {
      any_moment = λ synced. save_passes keeping _ _ before.sequence taken.1 _ _ _ taken.2 is _ since;
      at_end = λ synced. save_fails keeping _ _ before.sequence taken.1 _ _ _ taken.2 is _ since;
    })

-- no sequence was left for the turn that was taken, and no call made
pub returns-in-Err-Worn-clause-saved : goal.returns-in-Err-Worn-clause-saved
returns-in-Err-Worn-clause-saved g c tells was only =
    let is = c.loop-head.invariant.saved tells was only in
    let worn = rw c.in-Err-Worn.field-0-is at c.in-Err-Worn.ensures.answers in
    rw (c.ended_with-in-Err-Worn.ensures, c.finish.ensures ∙ ap (λ s. s.disk) (c.in-Err-Worn.store-is ∙ worn.1)) (record {
      any_moment = λ synced. is.any_moment;
      at_end = ((taken g (goal.at.returns-in-Err-Worn-clause-saved g c).After-memory).1, is.now);
    })

-- one more was saved
pub loop-head-preserved : goal.loop-head-preserved
loop-head-preserved g c =
    let before = c.loop-head.invariant in
    let turn = turn_with c.in-Some.head c.in-Some.entries in
    let taken = taken g (goal.at.loop-head-preserved g c).After-memory in
    let rises = rw taken.0 at before.ticks in
    let saved = c.in-Ok.ensures in
    record {
      taken = before.taken ++ turn ∷ [];
      whole = append_assoc before.taken (turn ∷ []) c.pop_front.new.self ∙ rw taken.0 at before.whole;
      saves_are = simp length-append (omega (arith, before.saves_are));
      stands = c.take.ensures.stands c.args.config.now before.taken before.stands rises.0;
      all_events = c.take.ensures.events ∙ before.all_events;
      kept = c.take.ensures.kept;
      ready = rw before.all_events at c.take.ensures.ready;
      turns_fit = (rw taken.0 at before.turns_fit).1;
      ticks = rw (last_of before.taken turn) rises.1;
      tells = saved.tells ∙ before.tells;
      faults = saved.answers.2 ∙ before.faults;
      sequence = omega (arith, saved.answers.1, before.sequence);
      saved = λ tells was only.
          let keeping : Keeping = record { config = c.args.config.now; turns = c.args.history.now.turns; base = c.args.store.sequence; was = was } in
          let is = before.saved tells was only in
          let there = stands_before keeping _ _ before.sequence taken.1 _ _ _ taken.2 is in
          subst (λ n. IsSavedTo keeping n (g.D.Disk.shows c.args.store.disk).run (g.D.Disk.shows c.in-Ok.store.disk).run) (omega arith)
          (one_more_saved keeping _ _ before.sequence taken.1 _ _ _ taken.2 is _
          (saved.any_moment (subst IsTrue (sym before.tells) tells) (rows_behind keeping c.loop-head.saves) there)
          (saved.saved (subst IsTrue (sym before.tells) tells)));
    }

-- all turns were taken
pub returns-clause-saved : goal.returns-clause-saved
returns-clause-saved g c tells was only =
    let before = c.loop-head.invariant in
    let keeping : Keeping = record { config = c.args.config.now; turns = c.args.history.now.turns; base = c.args.store.sequence; was = was } in
    let is = before.saved tells was only in
    let none : c.loop-head.turns ≡ [] = grind (arith, common_steps) in
    let all : before.taken ≡ c.args.history.now.turns = sym (append-nil before.taken) ∙ rw none at before.whole in
    rw (c.ended_with-2.ensures, c.finish-2.ensures) (record {
      any_moment = λ synced. is.any_moment;
      at_end = subst (λ n. LeavesOnly (KeepsBehind keeping n) (g.D.Disk.shows c.loop-head.current.disk).run.now) (before.saves_are ∙ ap length all) is.now;
    })
