use Rattle.event_chain.proofs.Names.{rules, length, sym, ap, ◌∙◌, arith, length-map, all_kept, fresh_slot, aggregating_in}
use Rattle.event_chain.proofs.SoundLemmas.{kept_fresh, sound_made}
use Rattle.event_chain.proofs.event_chain.EventChain.watched.Goals as goal

pub invariant_of-result-2 : goal.invariant_of-result-2
invariant_of-result-2 g c =
    sound_made c.args.config.now _ c.parts-parts.ensures.valid c.in_ok-make.ensures (c.windows.view_is ∙ c.in_ok-windows.ensures.slots)
    c.in_ok-make-2.ensures.follows (c.in_ok-aggregating.ensures ∙ ap aggregating_in (sym c.windows.view_is)) c.internal.ensures

pub aggregating-requires : goal.aggregating-requires
aggregating-requires g c =
    let count = length-map c.args.config.now.events (λ event. fresh_slot {C = g.row.B.Denot} event.aggregate) in
    omega (arith, ap length c.in_ok-windows.ensures.slots, count, c.parts-parts.ensures.valid.count.most)

pub returns-clause-kept : goal.returns-clause-kept
returns-clause-kept g c = ap all_kept (c.windows.view_is ∙ c.in_ok-windows.ensures.slots) ∙ kept_fresh c.args.config.now.events

pub returns-clause-stands : goal.returns-clause-stands
returns-clause-stands g c = record { way = search rules; limited = search rules; internal = search rules }
