-- What a `Reader` stands for.
use Rattle.std.specs.Prelude.{◌≡◌, ℕ, ◌<◌, ◌^◌}
use Rattle.std.specs.BTreeSet.{contains as set_contains}
use Rattle.std.specs.Ordering.{nat_cmp}
use Rattle.ids_config.specs.Parts.{Parts}
use Rattle.text_spec.specs.JournalFaults.{Past, has_pair}
use Rattle.journal.specs.Answers.{told}
use Rattle.journal.specs.declared.reader.Reader.{Reader}

-- the lines that were read
abbrev pub past_of : Reader → Past
past_of r = record { told = told r.history.turns r.losses.items; tick = r.tick; entries = r.entries; calls = r.calls; pair = r.pair }

-- the configuration that it reads by
abbrev pub config_of : Reader → Parts
config_of r = r.config.now

-- the set has the pairs of entries, as far as losses may have them
abbrev pub Knows : Reader → Type 0
Knows r = (p : ℕ) → p < 2 ^ 48 → set_contains nat_cmp r.pairs p ≡ has_pair r.history.turns p
