use Rattle.chain_endings.proofs.Lemmas.{RiseFrom, turn_with, Turn, turn_at, append_assoc, text_of-append, ◌≡◌, ◌<◌, ◌≤◌, [], ◌∷◌, ◌++◌, drop, length, map, reverse, ap, arith, common_steps, bare, ending_of, text_of, turns_lines, turn_endings, last_tick, moments, heard_since}
use Rattle.std.proofs.Math.Seq.{get_or-append_seam}
use Rattle.filter_chain.proofs.TranscriptLemmas.{last_of, newest_first}
use Rattle.chain_endings.proofs.explaining.push_turns.Goals.{In_ok-heard}
use Rattle.chain_endings.proofs.explaining.push_turns.Goals as goal

-- the turn that is taken
abbrev turn_of : In_ok-heard → Turn
turn_of c = turn_with c.in-Some.head c.in-Some.entries

-- the turns before it and after it, that ticks rise, and what is heard before it and after it
known : (c : In_ok-heard) → let before = c.loop-head.invariant in
    (c.loop-head.turns ≡ turn_of c ∷ c.pop_front.new.self)
    × (c.loop-head.turn < length c.args.history.now.turns) × (turn_at c.args.history.now.turns c.loop-head.turn ≡ turn_of c)
    × RiseFrom (last_tick before.0) (turn_of c ∷ c.pop_front.new.self)
    × (length c.in_ok-from.field-0.now ≤ length c.in_ok-heard.field-0.now)
    × (map ending_of (drop (length c.in_ok-from.field-0.now) c.in_ok-heard.field-0.now)
    ≡ map bare (turn_endings c.args.config.now (moments c.args.config.now (reverse before.0)) (turn_of c)))
known c =
    let config = c.args.config.now in
    let before = c.loop-head.invariant in
    let past = reverse before.0 in
    let turn = turn_of c in
    let left : c.loop-head.turns ≡ turn ∷ c.pop_front.new.self = grind (arith, common_steps) in
    let whole : before.0 ++ turn ∷ c.pop_front.new.self ≡ c.args.history.now.turns = rw (← left) before.1.whole in
    let rises = rw left at before.1.ticks in
    let now = rw newest_first at (c.take.ensures.stands config before.0 before.1.stands rises.0) in
    let since = heard_since ending_of config (moments config past) turn c.in_ok-from.field-0.now c.in_ok-heard.field-0.now
    (c.in_ok-from.ensures config (moments config past) (c.witness.ensures config past before.1.stands))
    (c.in_ok-heard.ensures config (moments config (turn ∷ past)) (c.witness-in-Some.ensures config (turn ∷ past) now)) in (
      left,
      grind (arith, common_steps, before.1.count, ap length whole),
      rw (before.1.count, ← whole) (get_or-append_seam before.0 turn c.pop_front.new.self _),
      rises,
      since.0,
      since.1,
    )

pub watched-requires : goal.watched-requires
watched-requires c = c.make.ensures c.args.config.now

pub overflow_add-turn : goal.overflow_add-turn
overflow_add-turn c = omega (arith, (known (goal.at.overflow_add-turn c).In_ok-heard).1, c.turns-turns.ensures)

pub loop-head-init : goal.loop-head-init
loop-head-init c =
    let config = c.args.config.now in
    let walked = c.walk-turns.ensures in
    let text = ap (λ ts. c.args.out.now.items ++ text_of (turns_lines config [] ts)) walked in
    ([], grind (arith, common_steps, walked, text, c.in_ok-chain.ensures, c.requires))

pub split_at-requires : goal.split_at-requires
split_at-requires c = (known (goal.at.split_at-requires c).In_ok-heard).4

pub push_turn-requires : goal.push_turn-requires
push_turn-requires c = (known (goal.at.push_turn-requires c).In_ok-heard).1

pub loop-head-preserved : goal.loop-head-preserved
loop-head-preserved c =
    let config = c.args.config.now in
    let before = c.loop-head.invariant in
    let turn = turn_with c.in-Some.head c.in-Some.entries in
    let rest = c.pop_front.new.self in
    let past = reverse before.0 in
    let known = known (goal.at.loop-head-preserved c).In_ok-heard in
    let left = known.0 in
    let fit = rw left at before.1.turns_fit in
    let ms = moments config past in
    let same = c.parts-parts.ensures.value in
    let lines = c.in_ok-push_turn.ensures ms (rw (c.split_at.ensures.back, same, known.2) known.5) in
    let text : c.push_turn.new.out.items ++ text_of (turns_lines config (turn ∷ past) rest)
    ≡ c.args.out.now.items ++ text_of (turns_lines config [] c.args.history.now.turns) =
    grind (arith, append_assoc, text_of-append, rw left at before.1.text, lines, same, known.2) in
    let stands = c.take.ensures.stands config before.0 before.1.stands known.3.0 in
    (before.0 ++ turn ∷ [], grind (arith, common_steps, before.1, left, known.3, fit, text, stands, newest_first before.0 turn, last_of before.0 turn, c.take.ensures))
