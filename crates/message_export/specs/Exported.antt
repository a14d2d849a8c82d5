-- Messages in a format for other programs.
use Rattle.std.specs.Prelude.{ℕ, List, [], ◌∷◌, ◌++◌}
use Rattle.ids_frame.specs.{MessageParts, spelling}
use Rattle.message_export.specs.declared.exporting.Format.{Format}
use Rattle.message_export.specs.declared.exporting.Format.TheVariants.{Json, Pcap}
use Rattle.text_spec.specs.Words.{line_feed}
use Rattle.message_export.specs.declared.capture.Time.{Time}
use Rattle.message_export.specs.Capture.{capture_front, exported_pcap, packet}
use Rattle.message_export.specs.JsonLines.{exported_json, json_line}

-- the messages in this format
abbrev pub exported : Format → List MessageParts → List ℕ
exported Json messages = exported_json messages
exported Pcap messages = exported_pcap messages

-- what stands before all messages
abbrev pub front_of : Format → List ℕ
front_of Json = []
front_of Pcap = capture_front

-- what tells a message that stands after so many bytes, where its packet has this time
abbrev pub piece : Format → ℕ → Time → MessageParts → List ℕ
piece Json at time m = json_line at m ++ line_feed ∷ []
piece Pcap at time m = packet time (spelling m)
