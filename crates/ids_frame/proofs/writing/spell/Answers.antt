use Rattle.ids_frame.proofs.Names.{◌≡◌, ◌++◌, refl, option_copied, arith, common_steps, context_part, signature_part, spelling, stamp_part}
use Rattle.ids_frame.proofs.writing.spell.Goals as goal

-- the four parts, one after the other
pub returns : goal.returns
returns g c =
    let both = g.met.R.Room.both in
    let whole : c.event_of.result ++ stamp_part c.stamp.result ++ context_part c.context.result
    ++ signature_part (option_copied c.signature.result) ≡ spelling c.args.message.now =
    rw (c.event_of.ensures, c.stamp.ensures, c.context.ensures.value, c.signature.ensures.value) refl in
    grind (arith, common_steps, common_steps)
