-- The context of a message: some bytes, in a short or a long form.
-- After the AUTOSAR PRS Intrusion Detection System; the limits are those of
-- "IDS message profile 1" and "2", which are this project's own.
use Rattle.std.specs.Prelude.{ℕ, ◌-◌, ◌^◌, ◌≤◌, List, length, nat_le, if◌then◌else◌}
use Rattle.ids_frame.specs.Bytes.{AreBytes}
use Rattle.ids_frame.specs.declared.context.Form.{Form}
use Rattle.ids_frame.specs.declared.context.Form.TheVariants.{Short, Long}

-- a context without where it lies in memory
pub record ContextPart : Type 0 where
  pub form : Form
  pub bytes : List ℕ

-- how many bytes a context of this form has at most
abbrev pub most_bytes : Form → ℕ
most_bytes Short = 127
most_bytes Long = 2 ^ 31 - 1

-- these are bytes, and no more than the form can say
pub record FitsContext (c : ContextPart) : Type 0 where
  pub size : length c.bytes ≤ most_bytes c.form
  pub bytes : AreBytes c.bytes

-- the context that the manager sends for these bytes
abbrev pub context_of : List ℕ → ContextPart
context_of bytes = record { form = if nat_le (length bytes) 127 then Short else Long; bytes = bytes }
