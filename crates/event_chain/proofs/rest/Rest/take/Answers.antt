use Rattle.event_chain.proofs.Names.{ap, rules, ◌∙◌, Item, endings, Rest}
use Rattle.event_chain.proofs.RestLemmas.{source_same}
use Rattle.event_chain.proofs.rest.Rest.take.Goals as goal

pub returns : goal.returns
returns c = record {
  ends = λ config start moments first went by begins.
      let past = endings config moments in
      let stood = went.follows in
      let known = rw (ap (λ (i : Item). i.event) c.report.view_is) at c.of-source.ensures.source
      ∙ source_same config c.args.self.now.sources c.args.report.now.event c.requires.has.source stood.sources in
      let steps = c.fate-fate.ensures.steps config moments first stood.steps by known begins in
      let others = c.fate-fate.ensures.others in
      let same = ap (λ (r : Rest). r.sender) others in
      let names = c.send.ensures.names config (rw same stood.sender) in
      let memory = c.store.ensures.memory config past first known begins.sending (rw (ap (λ (r : Rest). r.memory) others) stood.memory) in
      let sent = c.send.ensures.sends config start past first (rw same stood.sender) known begins.sending (rw same went.sent) in
      search (rules, stood, steps, others, names, memory, sent);
  late = search rules;
  one = search rules;
  counted = search rules;
  has = search rules;
}
