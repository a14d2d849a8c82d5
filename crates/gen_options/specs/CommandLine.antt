-- The command `gen` as clap is told of it: four options that take a number each, and three names.
-- Source: docs/COMMANDS.md.
use Rattle.std.specs.Prelude.{[], ◌∷◌, Some, true, codes}
use Rattle.clap.specs.Words.{App, Rule, Text, new_app, new_rule, with_rule}
use Rattle.clap.specs.declared.builder.value_parser.ValueParser.TheVariants.{Unsigned}

-- an option that takes a number of 64 bits, and has this value where it is not given
abbrev pub a_number : Text → Text → Rule
a_number name default = record (new_rule name) {
  long = Some name;
  defaults = default ∷ [];
  parser = Some (Unsigned 0 18446744073709551615);
}

-- a word that has to be there
abbrev pub a_name : Text → Rule
a_name name = record (new_rule name) { required = true }

-- the command, its options, and the names in their order
abbrev pub command_line : App
command_line =
    with_rule (with_rule (with_rule
    (with_rule (with_rule (with_rule (with_rule (new_app (codes "gen"))
    (a_number (codes "start") (codes "1"))) (a_number (codes "callers") (codes "6")))
    (a_number (codes "rounds") (codes "2000"))) (a_number (codes "events") (codes "40")))
    (a_name (codes "CONFIG"))) (a_name (codes "TRACE"))) (a_name (codes "JOURNAL"))
