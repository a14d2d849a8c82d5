-- Sources: the messages of each manager, and of which instance they are.
use Rattle.std.specs.Prelude.{◌≡◌, ◌≢◌, ℕ, ◌+◌, ◌-◌, ◌^◌, ◌≤◌, ◌==◌, List, [], ◌∷◌, length, take, slice_get, slice_index, slice_index_or, option_to_list, if◌then◌else◌, Result, Ok, Err}
use Rattle.std.specs.List.{list_all}
use Rattle.ids_frame.specs.{MessageParts, Held, joined}
use Rattle.ids_reporter.specs.declared.index.Index.{Index}
use Rattle.ids_reporter.specs.declared.index.Instance.{Instance}
use Rattle.ids_reporter.specs.declared.index.Instance.TheVariants.{Empty, One, Mixed}
use Rattle.ids_reporter.specs.declared.source.SourceFault.{SourceFault}
use Rattle.ids_reporter.specs.declared.source.SourceFault.TheVariants.{Bad, NoMemory}

-- each source's messages
abbrev pub Sources : Type 0
Sources = List (List MessageParts)

-- the instance of which all messages are
abbrev pub instance_of : List MessageParts → Instance
instance_of [] = Empty
instance_of (m ∷ messages) = if list_all (λ n. n.instance == m.instance) messages then One m.instance else Mixed

-- the spelling of a message by its number; no bytes where there is none
abbrev pub spelling_at : List MessageParts → ℕ → List ℕ
spelling_at messages i = joined (option_to_list (slice_get messages i))

-- where each message begins, then where the last one ends; and their instance
pub record IsIndexOf (index : Index) (messages : List MessageParts) : Type 0 where
  pub count : length index.places.items ≡ length messages + 1
  pub places : (i : ℕ) → i ≤ length messages → slice_index index.places.items i ≡ length (joined (take i messages))
  pub instance : index.instance ≡ instance_of messages

-- where the last message ends
abbrev pub end_of : Index → ℕ
end_of index = slice_index index.places.items (length index.places.items - 1)

-- the bytes are these messages, and the index is theirs
pub record IsIndexed (bytes : List ℕ) (index : Index) (messages : List MessageParts) : Type 0 where
  pub whole : bytes ≡ joined messages
  pub indexed : IsIndexOf index messages

-- the messages of a source by its number
abbrev pub source_at : Sources → ℕ → List MessageParts
source_at sources s = slice_index_or sources s []

-- how many messages it has
abbrev pub count_at : Sources → ℕ → ℕ
count_at sources s = length (source_at sources s)

-- no source has more messages than a feeder can put
abbrev pub AreSmall : Sources → Type 0
AreSmall sources = (s : ℕ) → count_at sources s ≤ 2 ^ 40

-- each source is of one instance, and no two of the same
pub record AreApart (sources : Sources) : Type 0 where
  pub pure : (s : ℕ) → instance_of (source_at sources s) ≢ Mixed
  pub differ : (r s i : ℕ) → instance_of (source_at sources r) ≡ One i → instance_of (source_at sources s) ≡ One i → r ≡ s

-- what the bytes hold: the messages that were read, or the fault that was told
abbrev pub IsRead : Held → Result (List MessageParts) SourceFault → Type 0
IsRead held (Ok messages) = held ≡ Ok messages
IsRead held (Err (Bad fault)) = held ≡ Err fault
IsRead held (Err NoMemory) = Unit {0}
