-- The names of other crates and of this crate's specs that more than one of its proofs stands on.
pub use Rattle.std.proofs.Common.{filter, ◌≡◌, ℕ, suc, zero, ◌<◌, Bool, true, false, List, [], ◌∷◌, ◌++◌, length, Option, Some, None, option_to_list, option_and_then, sym, subst, append_assoc, arith, ◌≤◌, map, IfSome, option_map, refl, IsSome, ◌+◌, not, nat_le, rules, inl, inr, is_some, slice_set, slice_index_or}
pub use Rattle.std.proofs.lemmas.Bool.{cases_eq, cases_lt}
pub use Rattle.std.proofs.lemmas.List.{append-nil, get_or-map, get_or-set_same, get_or-set_other, length-set, length-map, get_or_past, map-set}
pub use Rattle.std.specs.List.{All, AllByRecursion, list_any}
pub use Rattle.chain_spec.specs.{Item, is_of, item_at, told_of, told_by, Moment, closes, EndBy, Window, opened, windows_of, newest_where}
pub use Rattle.chain_spec.specs.OpenWindows.{closing_item, closing_of, closing_ticks}
pub use Rattle.ids_config.specs.Parts.{Event, Parts, event_at, plain_event}
pub use Rattle.ids_config.specs.declared.parts.Aggregate.{Aggregate}
pub use Rattle.ids_types.specs.declared.event.Qualified.{Qualified}
pub use Rattle.filter_aggregate.specs.{fresh_slot, slot_at, held_in, has_passed, item_due, slot_closed, after_closing, keeps_last, kept_of, spare_of, slot_with, after_arrival, HaveIntervals, is_due, window_with, slot_by, slots_by, slot_after, slot_of, Stands, kept_window}
pub use Rattle.filter_aggregate.specs.declared.open.Open.{Open}
pub use Rattle.filter_aggregate.specs.declared.slot.Slot.{Slot}
pub use Rattle.std.proofs.lemmas.Bool.Decides.{nat_tests}
