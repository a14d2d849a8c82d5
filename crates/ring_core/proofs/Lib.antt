pub mod Bounds
pub mod Changes
pub mod Claims
pub mod Finishes
pub mod Keeps
pub mod Lives
pub mod Names
pub mod Nexts
pub mod Opens
pub mod RingLaws
pub mod Runs
pub mod SeatLemmas
pub mod Sizes
pub mod Turns
pub mod WordLemmas
pub use Rattle.ring_core.proofs.Bounds.{small}
pub use Rattle.ring_core.proofs.Names.{take, opening, arith, rules, Resume, Split, Finish, Claim, Look, Mark, Join}
pub use Rattle.ring_core.proofs.Nexts.{see_takes_next, see_waits_next, offer_takes_next, offer_misses_next}
pub use Rattle.ring_core.proofs.Opens.{opens}
pub use Rattle.ring_core.proofs.RingLaws.{word_packs, seen_packs, missed_field_falls, all_claimed, all_but_a_turn_reaped, armed_leaves_field, step_of_next}
pub use Rattle.ring_core.proofs.Runs.{after_keeps, next_of_possible, next_keeps, one_more, run_stops, IsReached, step_sound}
pub use Rattle.ring_core.proofs.SeatLemmas.{idle_parts, live_is_made, SameHolders, seat_at-here, seat_at-else, holders_stay, holders_stay_push}
pub use Rattle.ring_core.proofs.Sizes.{same_sizes, after_sizes}
pub use Rattle.ring_core.proofs.Turns.{one_turn, same_position}
pub use Rattle.ring_core.proofs.WordLemmas.{unpacked-packed, packed_apart, packed-claimed, other_word}
