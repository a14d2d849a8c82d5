pub mod HandLemmas
pub mod Holding
pub mod KeeperSteps
pub mod ListLemmas
pub mod LiveLaws
pub mod Lives
pub mod LogLemmas
pub mod Names
pub mod NewRings
pub mod Orders
pub mod RunLemmas
pub mod RuleLaws
pub mod SeatSteps
pub mod Settled
pub mod States
mod WorkedLive
pub use Rattle.permit_ring.proofs.HandLemmas.{in_front, none_filled, ready_is, hand_reaped, hand_offered, turned_more, hand_length, turned_to, vacant_fit, one_more_filled}
pub use Rattle.permit_ring.proofs.Holding.{blanks_allowed, releases_allowed, first_at, rested_ordered}
pub use Rattle.permit_ring.proofs.KeeperSteps.{see_ready, offer_ready, read_ready, sweep_ready}
pub use Rattle.permit_ring.proofs.ListLemmas.{at_length, there, at_end}
pub use Rattle.permit_ring.proofs.Lives.{splits_allowed, joins_allowed}
pub use Rattle.permit_ring.proofs.LogLemmas.{got_from, taken_in}
pub use Rattle.permit_ring.proofs.Names.{arith, rules, ap, ◌∙◌, Offered, machine_ticket, seat_in, sym, common_steps, [], refl, mod-eq_of_lt, KeepsInHand, add-mod_right, ℕ, add-one, keeper_in, IsNewSeat, made_memo, ◌+◌, Empty, keeper_memo, first_slot, mod-add-mod, ◌%◌, ap₂, ◌≡◌, true, is_idle, seat_memo, length_push, Finished}
pub use Rattle.permit_ring.proofs.NewRings.{opens_running, untouched, new_ordered, one_seat_more}
pub use Rattle.permit_ring.proofs.RuleLaws.{fate_of, logged_is_claimed, machine_holds, open_of, place_from, memo_known, one_port, records_rise, noted_as}
pub use Rattle.permit_ring.proofs.RunLemmas.{OnlyReaps, only_reaps, reaps_push, end_steps, Gave, gave_of}
pub use Rattle.permit_ring.proofs.SeatSteps.{mark_ready, finish_ready, look_ready, claim_ready}
pub use Rattle.permit_ring.proofs.Settled.{some_there, more_fronts, offer_keeps_back, offer_keeps_order, offer_keeps_settled}
pub use Rattle.permit_ring.proofs.States.{ring_of, one_turn_ahead}
