use Rattle.filter_chain.proofs.Names.{◌≡◌, ◌∷◌, ◌++◌, [], take, room_after, bytes_in, turn_by}
use Rattle.filter_chain.proofs.logging.record_turn.Given as goal

-- the first entries are added
abbrev pub invariant-loop-entry : goal.invariant-loop-entry
invariant-loop-entry g l =
    let held = g.B.Parcel.held in
    let first = take l.entry-index l.items in
    record {
      turns : l.history.turns ≡ l.fn.history.turns ++ turn_by held l.head first ∷ [];
      room : l.history.room ≡ room_after l.fn.history.room 1 l.entry-index (bytes_in held first);
    }
