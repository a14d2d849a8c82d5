use Rattle.chain_plain.proofs.Names.{most_grows, parcel_short, room_of, ◌≤◌, arith, length, rules}
use Rattle.filter_chain.specs.Turning.{most_sent}
use Rattle.filter_chain.proofs.ParcelLemmas.{parcels_keep}
use Rattle.chain_plain.proofs.TurningLemmas.{bytes_few}
use Rattle.chain_plain.proofs.desk.Desk.turn.Goals as goal

-- there is room for the largest turn, and so for this one
pub judge-requires-clause-fits : goal.judge-requires-clause-fits
judge-requires-clause-fits g c = search (rules, c.requires.items.few, bytes_few _ _ _ c.requires.items, c.requires.fits)

-- the output has room for it
pub judge-requires-clause-out : goal.judge-requires-clause-out
judge-requires-clause-out g c =
    let items = c.args.self.now.items.items in
    let events = g.C.Chain.events c.args.chain.now in
    let room : most_sent 1024 (length items) events ≤ room_of c.args.self.now.out =
    omega (arith, most_grows 1024 (length items) 1024 events c.requires.items.few, c.requires.room.sent_room) in
    search (rules, room, c.requires.items, c.requires.kept)

-- what is kept is short
pub returns-clause-kept : goal.returns-clause-kept
returns-clause-kept g c =
    (parcels_keep _ _ _ _ _ _ (λ k d low. parcel_short _ _ _ (c.requires.items.acts k d low)) c.requires.kept c.judge.ensures.parcels).1
