-- The parts of a message, and what they may be.
-- After the event message of the AUTOSAR PRS Intrusion Detection System; the limits are those of
-- "IDS message profile 1" and "2", which are this project's own.
use Rattle.std.specs.Prelude.{ℕ, ◌^◌, ◌<◌, ◌≤◌, List, length, Option, IfSome}
use Rattle.ids_types.specs.declared.names.Stamp.{Stamp}
use Rattle.ids_frame.specs.Bytes.{AreBytes}
use Rattle.ids_frame.specs.Context.{ContextPart, FitsContext}

-- the latest version of the layout
abbrev pub last_version : ℕ
last_version = 2

-- there is a layout of this version
abbrev pub IsKnown : ℕ → Type 0
IsKnown version = (1 ≤ version) × (version ≤ last_version)

-- a message without where its parts lie in memory; its reserved byte is the version of the context
-- data where the layout is the second
pub record MessageParts : Type 0 where
  pub version : ℕ
  pub instance : ℕ
  pub sensor : ℕ
  pub event : ℕ
  pub count : ℕ
  pub reserved : ℕ
  pub stamp : Option Stamp
  pub context : Option ContextPart
  pub signature : Option (List ℕ)

-- the layout has room for the instance, the sensor and the signature's length
pub record HasRoom (instance sensor : ℕ) (signature : Option (List ℕ)) : Type 0 where
  pub ten_bits : instance ≤ 1023
  pub six_bits : sensor ≤ 63
  pub two_bytes : IfSome signature (λ bytes. length bytes ≤ 65535)

-- the layout can say every part
pub record FitsMessage (m : MessageParts) : Type 0 where
  pub known : IsKnown m.version
  pub room : HasRoom m.instance m.sensor m.signature
  pub event : m.event < 2 ^ 16
  pub count : m.count < 2 ^ 16
  pub reserved : m.reserved < 2 ^ 8
  pub stamp : IfSome m.stamp (λ s. s.0 < 2 ^ 64)
  pub context : IfSome m.context FitsContext
  pub signature : IfSome m.signature AreBytes
