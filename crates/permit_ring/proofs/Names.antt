-- The names of other crates and of this crate's specs that more than one of its proofs stands on.
pub use Rattle.std.proofs.Common.{◌≡◌, ℕ, zero, suc, ◌+◌, ◌-◌, ◌%◌, ◌<◌, ◌≤◌, List, [], ◌∷◌, ◌++◌, map, length, replicate, take, drop, get_or, refl, sym, ◌∙◌, ap, ap₂, subst, inl, inr, arith, ◌≢◌, ◌^◌, true, false, eqb, set, slice_index, sum, Option, Some, le_refl, mod-lt, ◌⊎◌, ⊎_elim, cond, None, eq-eqb, ne_eqb, Bool, eqb-true, mod-eq_of_lt, is_some, ◌==◌, sum_by, add_assoc, add-zero, rules, add-one, eq-zero-or-pos, ◌*◌}
pub use Rattle.std.proofs.lemmas.Bool.{cases_eq, lt-ltb, le-ltb, cases_lt, false≢true, cases_Bool}
pub use Rattle.std.proofs.lemmas.Grind.{common_steps}
pub use Rattle.std.proofs.lemmas.List.{append_assoc, length-map, length-append, length-replicate, replicate_more, map_push, take_at, drop_at, take_more, drop_more, length_push, length-set, set-get_or, append-nil, nil_from_length, take-take}
pub use Rattle.std.proofs.lemmas.List.Sums.{fold_push, sum_by-cons, sum_by_push}
pub use Rattle.atomic_table.proofs.Lists.{at_snoc, at_set, at_longer, set_here, set_else, set_again, at_last, at_map}
pub use Rattle.atomic_table.specs.Table.{turned, rest, State, Act, Valid, step, keeps, takes, gives, chain, put_back, carried_after, homes_after, Allows, Joins, Splits}
pub use Rattle.ring_core.proofs.{small, see_takes_next, see_waits_next, offer_takes_next, offer_misses_next, word_packs, seen_packs, missed_field_falls, next_keeps, same_position, other_word, packed_apart, SameHolders, holders_stay_push, live_is_made, holders_stay, seat_at-here, seat_at-else, step_of_next, after_keeps, after_sizes, same_sizes, all_claimed, armed_leaves_field, next_of_possible, idle_parts, unpacked-packed, packed-claimed, all_but_a_turn_reaped, one_turn, opens}
pub use Rattle.ring_core.specs.declared.seat.Ticket0.{Ticket0}
pub use Rattle.ring_core.specs.{HasSizes, opening, seat_at, mark_at, next, offered_to, IsRing, packed, after, all_free, Holds, possible, served, looked, marks_of, marked, unpacked, IsPackable, IsReadable, nobody, field_of, new_seat, is_idle, with_seat, armed_count, loss_at}
pub use Rattle.ring_core.specs.Machine.{Machine}
pub use Rattle.permit_ring.specs.{Slot, Empty, Offered, hand_from, filled_then, ready, KeepsInHand, SeatView, Step, See, Read, Offer, Sweep, PermitWord, Key, KeeperMemo, SeatMemo, Move, Finished, View, Keeps, AllAdmitted, found_at, is_of_seat, is_of_keeper, by_seat, Known, IsWord, keeper_in, saw_mark, read_word, tried_offer, swept_loss, words_of, StandsIn, AreSlots, Counts, IsSeatMemo, Runs, and_move, waits, reaps, reads, offers_all, misses, sweeps, Split, Join, Resume, Sits, Spent, Leads, by_keeper, join_both, on_keeper, split_right, release_left, release_right, first_back, resumes, resumed, IsHeldAs, IsSomewhere, ended, new_memo, makes, welcomes, Outcome, Lost, Got, Rest, SeesRests, GoesOn, start_of, end_of, RisesFrom, end_from, got_of, taken_by, and_lost, Ring, Seat, IsOrdered, made_memo, IsNewSeat, AreNewSeats, IsUntouched, first_memo, HasOffered, IsKey, first_view, AreFates, SitsThere, CameBack, IsMemoThere, IsHeldOnce, HasOnePlace, IsNotedAs, IsInOrder, IsAdmittedSlot, IsOneSeats, Home, IsSlot, Look, Claim, Finish, Mark, seat_in, saw_word, claimed_word, marked_loss, finished_value, looks, claims, adds_mark, finishes, OfferTells, AreAllBack, IsAllReaped, IsSettled, IsWholeLog, marks_back, TriesTell, keeper_memo, IsKeeperOf, first_slot, IsKeeping, machine_ticket, seat_memo, reaps_all, ReapsToEnd, OffersAll, after_moves, finds_none, finds_unready, AllTakenOrHeld, state_before, HasGivenBack, left_and_since, move, led, fate_of, last_word, tried, HaveOneOrder, swept_of, gets_ticket, ticket_at, tickets_got, AreCounted, AreInOrder}
pub use Rattle.ids_types.proofs.FatesLemmas.{decided_on, fates_in_order, fate_within}
pub use Rattle.ids_types.specs.{lost, AreAllDecided}
pub use Rattle.std.specs.Prelude.{count_ones, vec_capacity}
pub use lib.ListN.{get_elem?}
pub use mathlib.Core.Option.{some, none, some-ne-none, Option as Maybe}
pub use native.Mathlib.Nat.{add-mod_right, mod-add-mod}
pub use Rattle.ring_core.proofs.SeatLemmas.{one_ticket, one_if, sums_after}
