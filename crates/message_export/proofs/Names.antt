-- The names of other crates that several files of this crate cite.
pub use Rattle.ids_frame.proofs.DecodeLemmas.{Front, are_bytes, decode_tells}
pub use Rattle.ids_frame.specs.{IsByte, AreBytes, MessageParts, IsJoined, joined, AreMessages, messages_read, spelling, CauseOf, ContextPart, FitsContext, FitsMessage}
pub use Rattle.std.proofs.Common.{◌≡◌, ◌+◌, ◌-◌, ◌<◌, ◌==◌, ◌∷◌, ◌++◌, ℕ, List, [], Ok, Err, arith, false, true, length, drop, refl, sym, ap, ◌∙◌, append_assoc, ◌^◌, Bool, not, Option, Some, None, get_or, inr, ◌≤◌, map, take, min, rules}
pub use Rattle.std.proofs.lemmas.Grind.{common_steps, flat_map-append}
pub use Rattle.std.proofs.lemmas.List.{append-nil, length-append, nil_from_length, append_cancel_right, get_or_past, append_cancel_left, drop_at, length-take, take_all, take_at}
pub use Rattle.std.proofs.lemmas.Result.{IfOk-equal}
pub use Rattle.std.specs.Int.{w64, to_be_bytes, w32, from_be_bytes}
pub use Rattle.std.specs.List.{join_with_byte, list_all, slice_split, AllByRecursion}
pub use Rattle.std.specs.Prelude.{IfSome, decimal, codes, if◌then◌else◌}
pub use Rattle.text_spec.specs.Words.{line_feed}
pub use Rattle.message_export.specs.Capture.{Told, exported_pcap, kept, packet, packets, time_after, told_of, nanoseconds_of, seconds_of, capture_front, no_time}
pub use Rattle.message_export.specs.declared.capture.Time.{Time}
pub use Rattle.message_export.specs.JsonLines.{byte_members, comma, context_members, signature_members, stamp_members, form_word, hexadecimal, json_line, members, or_null, quoted, json_lines, continued, object, number, event_members}
pub use Rattle.ids_frame.proofs.MessageLemmas.{one_message_lem, read_of}
