-- All lines of a trace: the text of rounds that fit is read as them, and the rounds that a text tells fit.
use Rattle.text_spec.proofs.Names.{◌≡◌, ◌+◌, ◌<◌, ◌≤◌, ◌^◌, ◌∷◌, ◌++◌, replicate, le-leb, get_or_at, length-replicate, set_at, KeepUpFrom, lines_at, last_tick, round_ticks, is_tick, AreFaultless, PastRounds, no_rounds, last_from, begun_round, asked_more, ended_at, next_rounds, asked_fault, trace_fault_of, trace_grammar, trace_in, MayAsk, IsAllowedRound, AreRounds, Asked, Round, TraceLine, opens, calls, closes, asked_fields, trace_fields, callers_told, round_told, rounds_told, trace_text, ℕ, suc, true, false, List, [], length, map, refl, sym, ap, ◌∙◌, append_assoc, arith, Ok, AllByRecursion, flat_map, append-nil, length-append, length-set, Parts, AreHeld, AreExact, Grammar, a_number, recursion_from_All, nat_tests, All-replicate, opening_in}
use Rattle.text_spec.proofs.JournalFacts.{sensor_is_there}
use Rattle.text_spec.proofs.LinesLaws.{AreHeldLines, Leaves, Tells, all_next, leave_more, leave_one, text_adds, text_read}
use Rattle.text_spec.proofs.TraceFacts.{IsSmall, all_append, all_at, all_set, all_split, all_with_last, last_tick-push, opening_keeps_up, opening_small, keep_split, keep_up_is, small_all, ticks_asked, ticks_ended, ticks_pushed, with_last-push}
use Rattle.text_spec.proofs.TraceForms.{numbers_are, told_line, trace_line_again, trace_told_is}
use Rattle.text_spec.proofs.WordsLemmas.{all_from}

-- what is asked for can be held whoever asks for it
held_by : (one other : ℕ) (asked : Asked) → AreHeld (asked_fields one asked) → AreHeld (asked_fields other asked)
held_by one other asked held = grind (arith, held)

module _ (config : Parts) where
  abbrev grammar : Grammar PastRounds TraceLine
  grammar = trace_grammar config

  -- ---- one line without a fault

  module _ (callers : config.callers ≤ 32) (few : length config.events ≤ 256) where
    -- it is told as it is
    line_exact : (past : PastRounds) (line : TraceLine) → trace_fault_of config past line ≡ Ok tt → AreExact (trace_fields line)
    line_exact past (opens ticks) none = (tt, (numbers_are ticks).told (all_from is_tick a_number.Exact ticks (λ tick is. grind (arith, is)) (grind (arith, none))))
    line_exact past line none = grind (arith, callers, few, none, sensor_is_there config)

    -- it is read from its own words alone
    tells : Tells grammar trace_fields
    tells = record { exact = line_exact; again = trace_line_again; takes = λ words line read. told_line words line (opening_in words) refl read }

  -- ---- the lines of rounds

  -- rounds that have ended, and one with these lines that has not
  abbrev within : List Round → List ℕ → ℕ → List (List Asked) → PastRounds
  within done beside tick lines = record { rounds = done ++ record { beside = beside; lines = lines; after = tick } ∷ []; is_open = true }

  abbrev ended : List Round → PastRounds
  ended done = record { rounds = done; is_open = false }

  module _ (done : List Round) (beside : List ℕ) (tick : ℕ) where
    -- what a caller asks for
    caller_leaves : (caller : ℕ) (front : List (List Asked)) (lines : List Asked) (rest : List (List Asked)) (more : List Asked) → length front ≡ caller → caller < config.callers → AllByRecursion (MayAsk config) more
        → Leaves grammar trace_fields (within done beside tick (front ++ lines ∷ rest)) (map (calls caller) more) (within done beside tick (front ++ (lines ++ more) ∷ rest))
    caller_leaves caller front lines rest [] is there may = record { faultless = tt; held = tt; leaves = rw append-nil refl }
    caller_leaves caller front lines rest (asked ∷ more) is there may =
        let none : asked_fault config (within done beside tick (front ++ lines ∷ rest)) caller asked ≡ Ok tt = grind (arith, nat_tests, there, may.0.1) in
        let later = caller_leaves caller front (lines ++ asked ∷ []) rest more is there may.1 in
        leave_one grammar trace_fields _ _ (calls caller asked) (map (calls caller) more) none (held_by 0 caller asked may.0.0)
        (rw (with_last-push, get_or_at front lines rest [] caller is, set_at front lines rest (lines ++ asked ∷ []) caller is) (rw (append_assoc lines (asked ∷ []) more) at later))

    -- what callers ask for, one after another
    callers_leave : (caller : ℕ) (front more : List (List Asked)) → length front ≡ caller → caller + length more ≡ config.callers → AllByRecursion (AllByRecursion (MayAsk config)) more
        → Leaves grammar trace_fields (within done beside tick (front ++ replicate (length more) [])) (callers_told caller more) (within done beside tick (front ++ more))
    callers_leave caller front [] is all may = record { faultless = tt; held = tt; leaves = refl }
    callers_leave caller front (lines ∷ more) is all may =
        let first = caller_leaves caller front [] (replicate (length more) []) lines is (omega (arith, all)) may.0 in
        let later = callers_leave (suc caller) (front ++ lines ∷ []) more (length-append front (lines ∷ []) ∙ omega (arith, is)) (omega (arith, all)) may.1 in
        leave_more grammar trace_fields _ _ _ (map (calls caller) lines) (callers_told (suc caller) more) first (rw (append_assoc front (lines ∷ []) (replicate (length more) []), append_assoc front (lines ∷ []) more) at later)

  -- the lines of a round
  round_leaves : (done : List Round) (round : Round) → IsAllowedRound config round → AllByRecursion IsSmall (round_ticks round) → KeepUpFrom (last_tick done) round.beside → last_from (last_tick done) round.beside ≤ round.after
      → Leaves grammar trace_fields (ended done) (round_told round) (ended (done ++ round ∷ []))
  round_leaves done round allowed small beside after =
      let tick = last_from (last_tick done) round.beside in
      let ticks = all_split IsSmall round.beside (round.after ∷ []) small in
      let open_round : Round = record { beside = round.beside; lines = round.lines; after = tick } in
      let closing : Leaves grammar trace_fields (within done round.beside tick round.lines) (closes round.after ∷ []) (ended (done ++ round ∷ [])) =
      record { faultless = (rw (le-leb round.after (2 ^ 62) ticks.1.0, last_tick-push done open_round, le-leb tick round.after after) refl, tt); held = ((tt, (tt, tt)), tt); leaves = ap ended (with_last-push (ended_at round.after) done open_round) } in
      let callers = callers_leave done round.beside tick 0 [] round.lines refl (omega (arith, allowed.callers)) allowed.asked in
      leave_one grammar trace_fields _ _ (opens round.beside) (callers_told 0 round.lines ++ closes round.after ∷ []) (rw (small_all round.beside ticks.0, (keep_up_is (last_tick done) round.beside).1 beside) refl) (tt, (numbers_are round.beside).held)
      (rw allowed.callers at (leave_more grammar trace_fields _ _ _ (callers_told 0 round.lines) (closes round.after ∷ []) callers closing))

  -- the lines of rounds that fit
  rounds_leave : (done rounds : List Round) → AllByRecursion (IsAllowedRound config) rounds → AllByRecursion IsSmall (flat_map round_ticks rounds) → KeepUpFrom (last_tick done) (flat_map round_ticks rounds)
      → Leaves grammar trace_fields (ended done) (rounds_told rounds) (ended (done ++ rounds))
  rounds_leave done [] allowed small keeps = record { faultless = tt; held = tt; leaves = ap ended (sym (append-nil done)) }
  rounds_leave done (round ∷ rounds) allowed small keeps =
      let parts = keep_split (last_tick done) round.beside (round.after ∷ flat_map round_ticks rounds) (rw append_assoc at keeps) in
      let smalls = all_split IsSmall (round_ticks round) (flat_map round_ticks rounds) small in
      let first = round_leaves done round allowed.0 smalls.0 parts.0 parts.1.0 in
      let later = rounds_leave (done ++ round ∷ []) rounds allowed.1 smalls.1 (rw (last_tick-push done round) parts.1.1) in
      leave_more grammar trace_fields _ _ _ (round_told round) (rounds_told rounds) first (rw (append_assoc done (round ∷ []) rounds) at later)

  -- the text of rounds that fit is read as them
  pub trace_again : (rounds : List Round) → config.callers ≤ 32 → length config.events ≤ 256 → AreRounds config rounds → trace_in config (trace_text rounds) ≡ Ok rounds
  trace_again rounds callers few fits =
      let leave = rounds_leave [] rounds fits.allowed fits.ticks.small fits.ticks.keep_up in
      let all = text_adds grammar trace_fields (tells callers few) no_rounds (rounds_told rounds) leave.faultless leave.held in
      rw (all.1, leave.leaves) refl

  -- ---- what is read

  -- a line more of a caller
  asked_allowed : (caller : ℕ) (asked : Asked) → MayAsk config asked → (round : Round) → IsAllowedRound config round → IsAllowedRound config (asked_more caller asked round)
  asked_allowed caller asked may round allowed = record {
    callers = length-set round.lines caller (lines_at caller round ++ asked ∷ []) ∙ allowed.callers;
    asked = all_set (AllByRecursion (MayAsk config)) round.lines caller (lines_at caller round ++ asked ∷ []) allowed.asked
        (all_append (MayAsk config) (lines_at caller round) (asked ∷ []) (all_at (AllByRecursion (MayAsk config)) round.lines caller [] allowed.asked tt) (may, tt));
  }

  next_fits : (past : PastRounds) (line : TraceLine) → trace_fault_of config past line ≡ Ok tt → AreHeld (trace_fields line) → AreRounds config past.rounds → AreRounds config (next_rounds config past line).rounds
  next_fits past (opens ticks) none held fits =
      let tick = last_from (last_tick past.rounds) ticks in
      record {
        allowed = all_append (IsAllowedRound config) past.rounds (begun_round config.callers ticks tick ∷ []) fits.allowed
            (record { callers = length-replicate config.callers []; asked = recursion_from_All _ _ (All-replicate (AllByRecursion (MayAsk config)) config.callers [] tt) }, tt);
        ticks = ticks_pushed past.rounds config.callers ticks tick fits.ticks (opening_small past.rounds ticks fits.ticks (grind (arith, none))) (opening_keeps_up (last_tick past.rounds) ticks (grind (arith, none)));
      }
  next_fits past (calls caller asked) none held fits = record {
    allowed = all_with_last (IsAllowedRound config) (asked_more caller asked) past.rounds (asked_allowed caller asked (held_by caller 0 asked held, grind (arith, none))) fits.allowed;
    ticks = ticks_asked past.rounds caller asked fits.ticks;
  }
  next_fits past (closes tick) none held fits = record {
    allowed = all_with_last (IsAllowedRound config) (ended_at tick) past.rounds (λ round is. record { callers = is.callers; asked = is.asked }) fits.allowed;
    ticks = ticks_ended past.rounds tick fits.ticks (grind (arith, none)) (grind (arith, none));
  }

  -- lines without a fault
  lines_fit : (past : PastRounds) (lines : List TraceLine) → AreFaultless grammar past lines → AreHeldLines grammar trace_fields lines → AreRounds config past.rounds → AreRounds config (all_next grammar past lines).rounds
  lines_fit past [] none held fits = fits
  lines_fit past (line ∷ lines) none held fits = lines_fit (next_rounds config past line) lines none.1 held.1 (next_fits past line none.0 held.0 fits)

  -- the rounds that a text tells fit
  pub trace_fits : (text : List ℕ) (rounds : List Round) → trace_in config text ≡ Ok rounds → AreRounds config rounds
  trace_fits text rounds read =
      let step = text_read grammar trace_fields trace_told_is (λ past. past.rounds) no_rounds text rounds read in
      let all = step.1 in
      let are : (all_next grammar no_rounds all.lines).rounds ≡ rounds = ap (λ (p : PastRounds). p.rounds) all.leave ∙ step.2 in
      rw (← are) (lines_fit no_rounds all.lines all.none all.held (record { allowed = tt; ticks = record { small = tt; keep_up = tt } }))
