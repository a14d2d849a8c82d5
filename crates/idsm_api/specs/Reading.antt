-- What reading the event memory and the late buffers answers.
use Rattle.std.specs.Prelude.{◌≡◌, ℕ, ◌-◌, ◌≤◌, ◌<◌, ◌^◌, List, length, min, reverse, slice_index_or, Option, Some, None}
use Rattle.ids_types.specs.MemoryRow.{Row}
use Rattle.ids_types.specs.Turns.{Turn}
use Rattle.ids_types.specs.declared.mode.Mode.{Mode}
use Rattle.ids_types.specs.declared.names.EventIndex.{EventIndex}
use Rattle.ids_config.specs.Parts.{Parts}
use Rattle.chain_spec.specs.{mode_at, moments, state_at}
use Rattle.buffer_classes.specs.Givers.{late_of}
use Rattle.event_memory.specs.Held.{no_row}
use Rattle.filter_chain.specs.History.{count_of, last_tick, rows_of}
use Rattle.main_function.specs.{AreSumsOf, held_of}
use Rattle.report_api.specs.Passes.{sizes_of}
use Rattle.idsm_api.specs.declared.answer.Answer.{Answer}
use Rattle.idsm_api.specs.declared.answer.Answer.TheVariants.{Done, OutOfRange, SmallBuffer}
use Rattle.idsm_api.specs.declared.manager.Manager.{Manager}
use Rattle.idsm_api.specs.declared.reading.RowTold.{RowTold}
use Rattle.idsm_api.specs.declared.reading.Status.{Status}
use Rattle.idsm_api.specs.Roles.{StandsFor, manager_shares}
use Rattle.idsm_api.specs.Writing.{IsWritten}

-- what a record tells
abbrev pub row_in : Row → RowTold
row_in row = record {
  key = row.key;
  occurrences = row.occurrences;
  first = row.first;
  last = row.last;
  stamp = row.stamp;
  bytes = length row.context;
}

-- record i, from the one stored longest ago on
abbrev pub row_at : List Row → ℕ → Row
row_at rows i = slice_index_or rows i no_row

-- each answer of a reading of these records with its cause, the record, and the buffer after it
abbrev pub RowTells : List Row → ℕ → List ℕ → Answer → Option RowTold → List ℕ → Type 0
RowTells rows i buffer OutOfRange told after = (length rows ≤ i) × (told ≡ None) × (after ≡ buffer)
RowTells rows i buffer SmallBuffer told after =
    (i < length rows) × (length buffer < length (row_at rows i).context) × (told ≡ Some (row_in (row_at rows i))) × (after ≡ buffer)
RowTells rows i buffer Done told after =
    (i < length rows) × (told ≡ Some (row_in (row_at rows i))) × IsWritten (row_at rows i).context buffer after
RowTells rows i buffer other told after = ⊥

-- how many buffers of a class are late, where there is such a class
abbrev pub LateTells : Manager → ℕ → Option ℕ → Type 0
LateTells port class (Some late) = (class < length (sizes_of (manager_shares port))) × (late ≡ late_of port.manager.desk.givers class)
LateTells port class None = length (sizes_of (manager_shares port)) ≤ class

-- what these turns did
pub record StatusTells (config : Parts) (turns : List Turn) (status : Status) : Type 0 where
  pub turns_are : status.turns ≡ length turns
  pub tick_is : status.tick ≡ last_tick turns
  pub sums : AreSumsOf turns (record { entries = status.entries; lost_events = status.lost_events; lost_contexts = status.lost_contexts })
  pub messages_are : status.messages ≡ min (count_of config turns) (2 ^ 64 - 1)
  pub limited_are : status.limited ≡ min (held_of config turns) (2 ^ 64 - 1)
  pub records_are : status.records ≡ length (rows_of config turns)
  pub state_is : status.state ≡ state_at config (moments config (reverse turns))

-- the reporting mode of an event, if there is one, as the turns left it
abbrev pub ModeTells : Manager → EventIndex → Option Mode → Type 0
ModeTells port event (Some mode) = (event.0 < (manager_shares port).terms.events)
    × ((config : Parts) (turns : List Turn) → StandsFor config turns port → mode ≡ mode_at config event.0 (moments config (reverse turns)))
ModeTells port event None = (manager_shares port).terms.events ≤ event.0
