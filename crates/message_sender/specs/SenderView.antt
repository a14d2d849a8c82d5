-- What contracts see of a `Sender`, and what holds of its fields.
use Rattle.std.specs.Prelude.{◌≤◌, ◌^◌}
use Rattle.ids_frame.specs.Message.{IsKnown}
use Rattle.message_sender.specs.declared.sender.Sender.TheInside.{Inside}
use Rattle.message_sender.specs.Sender.{SenderParts}

-- the sender that the fields hold
abbrev pub sender_of : Inside → SenderParts
sender_of s = record { profile = s.profile; instance = s.instance; limited = s.limited; held = s.held }

-- there is a layout of the profile, with room for the instance, and not too many are held back
pub record IsSoundSender (s : Inside) : Type 0 where
  pub known : IsKnown s.profile
  pub ten_bits : s.instance ≤ 1023
  pub few : s.held ≤ 2 ^ 45
