pub mod Calls
pub mod Closing
pub mod Hands
pub mod Live
pub mod Logs
pub mod Making
pub mod Moves
pub mod Names
pub mod Order
pub mod Places
pub mod Rule
pub mod Seats
pub mod Steps
pub mod Told
pub use Rattle.permit_ring.specs.Calls.{ClaimTells, ReapTells, reaps_all, ReapsToEnd, TriesTell, OfferTells, OffersAll, claimed_at, ticket_got, vacant_after, tried, last_word}
pub use Rattle.permit_ring.specs.Closing.{AreAllBack, AreAllSwept, IsAllReaped, IsWholeLog, ReleasedGoOn, IsSettled, marks_back, swept_of}
pub use Rattle.permit_ring.specs.Hands.{hand_from, filled_then, AllAdmitted}
pub use Rattle.permit_ring.specs.Live.{after_moves, asks, finds_none, reads_mark, finds_unready, AllTakenOrHeld, led, state_before, HasGivenBack, left_and_since}
pub use Rattle.permit_ring.specs.Logs.{fate_of, start_of, end_of, RisesFrom, end_from, got_of, taken_by, undecided, SeesRests, IsOrdered, GoesOn}
pub use Rattle.permit_ring.specs.Making.{IsUntouched, made_memo, IsNewSeat, AreNewSeats, IsNewRing}
pub use Rattle.permit_ring.specs.Moves.{found_at, move, Leads, is_of_seat, is_of_keeper, by_seat, by_keeper}
pub use Rattle.permit_ring.specs.Names.{SeatView, Step, Look, Claim, Finish, See, Read, Offer, Mark, Sweep, Split, Join, Resume, PermitWord, Key, KeeperMemo, Move, Outcome, Lost, Got, Rest, SeatMemo, Slot, Empty, Offered, Finished, View, Sits, Keeps, Spent, Ring, Seat, ℕ, IsTrue, IsFalse, None, length, take, drop, sum, IfOk, IfErr, all_free, field_of, step, none, false, Some, is_none, marks_of, [], map, replicate, OnOk, packed, some, get_elem?, seat_at, Holds, true}
pub use Rattle.permit_ring.specs.Order.{is_claim, gets_ticket, ticket_at, tickets_got, AreCounted, AreInOrder, HaveOneOrder}
pub use Rattle.permit_ring.specs.Places.{ShowsRing, SitsThere, CameBack, IsMemoThere, IsOneSeats, IsHeldOnce, IsLoggedOnce, HasOnePlace, IsNotedAs, IsInOrder, IsAdmittedSlot}
pub use Rattle.permit_ring.specs.Rule.{IsKey, first_view, words_of, StandsIn, Counts, AreFates, IsSeatMemo, IsKeeperMemo, Home, HasFinished, HasOffered, IsOut, IsSlot, AreSlots, IsViewAt, IsSomewhere, Runs, RunningRing}
pub use Rattle.permit_ring.specs.Seats.{machine_ticket, ring_positions, ring_seats, ring_terms, seat_memo, seat_number, seat_calls, seat_ticket, keeper_memo, vacant_of, filled_of, IsKeeping, HasInHand, KeepsInHand, IsSeatOf, IsHeldAs, IsNextHeld, IsKeeperOf, IsSized}
pub use Rattle.permit_ring.specs.Steps.{and_move, ticket_in, and_lost, new_memo, looks, claims, finishes, adds_mark, first_memo, waits, reaps, reads, offers_all, misses, sweeps, makes, ended, welcomes, first_back, resumes, resumed, Releases}
pub use Rattle.permit_ring.specs.Told.{IsWord, seat_in, keeper_in, on_keeper, split_right, join_both, release_left, release_right, Known, ready, first_slot, saw_word, marked_loss, swept_loss, read_word, tried_offer, claimed_word, finished_value, saw_mark}
