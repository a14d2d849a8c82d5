use Rattle.event_chain.proofs.Names.{◌≡◌, ◌≤◌, ◌∷◌, List, map, sym, ap, ◌∙◌, refl, true, false, if◌then◌else◌, arith, nat_tests, Parts, Moment, EndBy, Item, ended_tick, counted, items_where, reaches, weighed, endings, fate_from, place_of, start_by, Weighs, ThresholdsStand, AtThreshold, AtSend, AtRate}
use Rattle.std.specs.Prelude.{nat_le}
use Rattle.event_chain.proofs.RestLemmas.{end_mapped, items_end, limits_say, sending_says, threshold_says, weighs_more}
use Rattle.event_chain.proofs.rest.Rest.fate.Goals.{After-passes}
use Rattle.event_chain.proofs.rest.Rest.fate.Goals as goal

-- what the threshold answers, and what it stands for then
told : (c : After-passes) (config : Parts) (before : List Moment) → let item = c.args.report.now in let past = endings config before in
    let joined = map counted (items_where (reaches AtThreshold) past) in
    Weighs config past c.args.self.now → EndBy ended_tick item.tick past
    → (fate_from config before past (start_by c.args.bypasses) item
    ≡ (if c.passes.result then fate_from config before past AtSend item else AtThreshold))
    × ThresholdsStand config (if c.args.bypasses then joined else counted item ∷ joined) c.passes.new.thresholds
told c config before steps by =
    let ends = end_mapped (λ one. one.tick) counted _ _ (items_end (reaches AtThreshold) _ (endings config before) by) in
    let says = c.passes.ensures.stands config _ steps.thresholds ends in
    (threshold_says config before c.args.report.now c.args.bypasses c.passes.result says.0, says.1)

pub returns-then-not-passes-clause-steps : goal.returns-then-not-passes-clause-steps
returns-then-not-passes-clause-steps c config before first steps by known begins =
    let told = told (goal.at.returns-then-not-passes-clause-steps c).After-passes config before steps by in
    let late : place_of (start_by c.args.bypasses) ≤ place_of AtThreshold = grind (arith, c.passes.ensures.bypasses, c.if-not-passes.true) in
    (sym (told.0 ∙ rw c.if-not-passes.true refl), weighs_more config _ c.args.bypasses _ _ false begins late refl told.1 steps.limits)

pub returns-then-not-source-clause-steps : goal.returns-then-not-source-clause-steps
returns-then-not-source-clause-steps c config before first steps by known begins =
    let told = told (goal.at.returns-then-not-source-clause-steps c).After-passes config before steps by in
    let sends = sending_says config before c.args.report.now false (grind (arith, known, c.if-not-source.true)) in
    (sym (told.0 ∙ rw c.if-not-passes.false sends), weighs_more config _ c.args.bypasses _ _ false begins (grind arith) refl told.1 steps.limits)

pub returns-else-not-source-clause-steps : goal.returns-else-not-source-clause-steps
returns-else-not-source-clause-steps c config before first steps by known begins =
    let late : place_of (start_by c.args.bypasses) ≤ place_of c.admit.result = grind (arith, c.admit.ensures.late) in
    let comes : nat_le (place_of AtRate) (place_of c.admit.result) ≡ true = grind (arith, nat_tests, c.admit.ensures.late) in
    let told = told (goal.at.returns-else-not-source-clause-steps c).After-passes config before steps by in
    let item = c.args.report.now in
    let sends = sending_says config before item true (grind (arith, known, c.if-not-source.false)) in
    let ends = rw (← c.report.view_is) at (end_mapped (λ one. one.tick) (weighed config) _ _ (items_end (reaches AtRate) _ (endings config before) by)) in
    let tick = ap (λ (i : Item). i.tick) c.report.view_is in
    let len = c.message_len.ensures config in
    let weighs = rw (tick, len) at (c.admit.ensures.stands config _ steps.limits ends) in (
      rw (tick, len) at (c.admit.ensures.answer config _ steps.limits ends) ∙ limits_say config before item
          ∙ sym (told.0 ∙ rw c.if-not-passes.false sends),
      weighs_more config _ c.args.bypasses _ _ true begins late comes told.1 weighs,
    )
