use Rattle.cmd_steps.proofs.Names.{AreWritten, AskedFor, EndsAs, IsTrue, NoMemory, Work, ap, arith, asked_in, cut_at_ends, five_of, gives, inl, names_of, plain_end, read_over, reading_ends, reading_of, refl, replay, replay_work, replays, stops_early, subst, sum-map, sym, work_of, ◌∙◌, ◌≡◌}
use Rattle.cmd_steps.proofs.AnsweredLemmas.{left_finished}
use Rattle.std.proofs.lemmas.Result.{IfOk-from_err}
use Rattle.trace_replay.specs.Replayed.{gives as given}
use Rattle.idsm_run.proofs.TaskLemmas.{come}
use Rattle.idsm_run.proofs.replaying.replay_files.Given.{Over}
use Rattle.idsm_run.proofs.replaying.replay_files.Goals.{After-write_work}
use Rattle.idsm_run.proofs.replaying.replay_files.Goals as goal

pub returns-in_err-asked-clause-ends : goal.returns-in_err-asked-clause-ends
unfolding reading_of
returns-in_err-asked-clause-ends g c =
    let names = five_of c.args.names in
    left_finished (replay names) _ c.in_err-asked.field-0.0 _ _ c.from_residual.ensures.1
    (reading_ends (replay names) _ _ _
    (stops_early (asked_in names) (λ (asked : AskedFor). gives (replays names asked.config asked.rounds)) _ _ _ c.in_err-asked.ensures.reads))

-- where memory is refused, no file was touched
pub returns-in_err-texts-clause-ends : goal.returns-in_err-texts-clause-ends
returns-in_err-texts-clause-ends g c =
    left_finished (replay (five_of c.args.names)) _ NoMemory _ _ c.from_residual-in_err-texts.ensures.1 (inl c.read_asked.ensures.reads.same)

-- the turns tell their losses of context data buffers
pub print_texts-requires : goal.print_texts-requires
print_texts-requires g c =
    sym (sum-map (λ turn. turn.head.lost_contexts) c.in_ok-replayed.replayed.history.turns) ∙ c.in_ok-replayed.ensures.merged.lost_contexts

-- the messages are cut at the ends of turns
pub new_files-requires-clause-cuts : goal.new_files-requires-clause-cuts
new_files-requires-clause-cuts g c =
    rw (c.in_ok-replayed.ensures.ends, c.in_ok-replayed.ensures.sent) (cut_at_ends c.in_ok-asked.asked.config c.in_ok-replayed.replayed.history.turns)

-- the files and the line are the work that is asked for
work : (g : Over) (c : After-write_work g) → work_of c.new_files.result c.in_ok-texts.texts.line.items
    ≡ replay_work (five_of c.args.names) c.in_ok-asked.asked.config c.in_ok-replayed.replayed.history.turns c.in_ok-replayed.replayed.losses.items
work g c =
    let texts = c.in_ok-texts.ensures in
    let memory = texts.memory c.in_ok-asked.asked.config c.in_ok-asked.asked.trace.rounds c.in_ok-replayed.ensures in
    rw (c.new_files.ensures.files, c.deref.ensures.value, c.deref-2.ensures.value, memory, texts.journal, texts.line, c.in_ok-replayed.ensures.sent) refl

-- the files were written, or not
ended : (g : Over) (c : After-write_work g) → EndsAs (replay (five_of c.args.names)) (plain_end c.write_work.result)
    (g.H.Shelf.shows c.args.shelf.now) (g.H.Shelf.shows c.write_work.new.shelf)
unfolding reading_of
ended g c =
    let names = five_of c.args.names in
    c.write_work.ensures.ends (replay names) (replays names c.in_ok-asked.asked.config c.in_ok-asked.asked.trace.rounds) _
    (record {
      read = come _ (replay names) _ _ (λ (asked : AskedFor). replays names asked.config asked.rounds) refl _ c.in_ok-asked.ensures.reads;
      writes = ap names_of c.new_files.ensures.files;
    })
    (record {
      turns = c.in_ok-replayed.replayed.history.turns;
      losses = c.in_ok-replayed.replayed.losses.items;
      history = grind (arith, c.in_ok-replayed.ensures);
      work_is = work g c;
    })

pub returns-in_err-line-clause-ends : goal.returns-in_err-line-clause-ends
returns-in_err-line-clause-ends g c =
    left_finished (replay (five_of c.args.names)) _ c.in_err-line.field-0.0 _ _ c.from_residual-in_err-line.ensures.1
    (rw c.in_err-line.was at (ended g (goal.at.returns-in_err-line-clause-ends g c).After-write_work))

pub returns-in_err-line-clause-replayed : goal.returns-in_err-line-clause-replayed
returns-in_err-line-clause-replayed g c told = IfOk-from_err _ _ c.from_residual-in_err-line.ensures.0

pub returns-clause-ends : goal.returns-clause-ends
returns-clause-ends g c = rw c.in_ok-line.was at (ended g (goal.at.returns-clause-ends g c).After-write_work)

pub returns-clause-replayed : goal.returns-clause-replayed
returns-clause-replayed g c told =
    let is = c.in_ok-replayed.ensures in
    let read = c.in_ok-asked.ensures.reads in
    let work = work g (goal.at.returns-clause-replayed g c).After-write_work in
    record {
      config = c.in_ok-asked.asked.config;
      rounds = c.in_ok-asked.asked.trace.rounds;
      asked = read_over _ _ _ _ read told;
      gives = given c.in_ok-replayed.replayed;
      history = grind (arith, is);
      written = subst (λ (w : Work). AreWritten w.outputs (g.H.Shelf.shows c.write_work.new.shelf).files) work
          (c.in_ok-line.ensures.written (subst IsTrue (sym read.tells) told));
      text = c.in_ok-line.ensures.line ∙ c.in_ok-texts.ensures.line;
      manager_is = is;
    }
