use Rattle.chain_endings.proofs.Lemmas.{arith, append_assoc, text_of-append, turn_at, with_all, bare, ending_of, endings_along, given_line, opening, turn_parts}
use Rattle.std.proofs.lemmas.Simd.{map-map}
use Rattle.chain_endings.proofs.turns.push_turn.Goals as goal

pub returns : goal.returns
returns c before is =
    let config = c.args.parts.now in
    let turn = turn_at c.args.history.now.turns c.args.turn in
    let parts = turn_parts ending_of config before turn c.args.told.now c.reports_in-reports.result is c.reports_in-reports.ensures in
    let at = c.saturating_sub.ensures in
    let past = with_all before (opening config turn) in
    let own = c.in_ok-push_entries.ensures past (rw (c.split_at.ensures.back, at) parts.1) in
    let given = map-map (given_line config) bare (endings_along config before (opening config turn)) in
    grind (arith, append_assoc, text_of-append, own, c.in_ok-push_opening.ensures, c.split_at.ensures.front, at, parts.0, given, c.in_ok-push_head.ensures.ok, c.head.ensures)
