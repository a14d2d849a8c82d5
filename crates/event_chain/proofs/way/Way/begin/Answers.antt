use Rattle.event_chain.proofs.Names.{◌≤◌, All-from_recursion, recursion_from_All, ap, arith, common_steps, rules, EndAt, HasSent, SenderParts, endings, ended_tick, start_of, end_later}
use Rattle.event_chain.proofs.way.Way.begin.Goals as goal

pub returns-clause-behind : goal.returns-clause-behind
returns-clause-behind g c config before now moments rests le =
    let past = endings config moments in
    let none = ap (λ (s : SenderParts). s.held) c.begin.ensures in
    let sent : HasSent config (start_of config past) past c.begin.new.self c.clear_messages.new.self =
    grind (arith, common_steps, c.clear_messages.ensures, none) in
    let ends : EndAt config now moments = record {
      endings_end = end_later ended_tick before now past le rests.at.ends.endings_end;
      closings_end = λ event.
          let all = All-from_recursion (λ closed. closed ≤ before) _ (rests.at.ends.closings_end event) in
          recursion_from_All (λ closed. closed ≤ now) _ (λ k d less. omega (arith, le, all k d less));
    } in
    search (rules, c.begin.ensures, rests.rest.sender, sent, ends)
