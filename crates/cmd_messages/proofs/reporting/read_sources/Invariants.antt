use Rattle.cmd_steps.proofs.Names.{AreApart, AreSmall, CanReport, List, Reads, Result, Shelved, Sources, Stop, [], drop, length, map, sources_in, string_bytes, vec_capacity, ℕ, ◌≡◌, ◌≤◌}
use Rattle.cmd_messages.proofs.reporting.read_sources.Given as goal

-- the files before this one were read, and gave these sources: what is left to be read ends all
abbrev pub invariant-loop-name : goal.invariant-loop-name
invariant-loop-name g l = record {
  rest : (answer : Result Sources (Stop (List ℕ))) (new : Shelved)
      → Reads (sources_in l.sources.items (map string_bytes (drop l.name-index l.names.sources.now))) answer (g.H.Shelf.shows l.shelf) new
      → Reads (sources_in [] (map string_bytes l.names.sources.now)) answer (g.H.Shelf.shows l.fn.shelf) new;
  count : length l.sources.items ≡ l.name-index;
  room : length l.names.sources.now ≤ vec_capacity l.sources;
  small : AreSmall l.sources.items;
  apart : AreApart l.sources.items;
  can : CanReport l.names;
}
