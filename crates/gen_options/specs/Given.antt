-- What words give: options, and the names of files.
use Rattle.std.specs.Prelude.{ℕ, List}
use Rattle.gen_options.specs.declared.options.Given.{Given}
use Rattle.gen_options.specs.declared.options.Options.{Options}

-- the options, and the names of the files that a recording is written to
pub record Wanted : Type 0 where
  pub options : Options
  pub config : List ℕ
  pub trace : List ℕ
  pub journal : List ℕ

-- the same with the names as their bytes
abbrev pub given_of : Given → Wanted
given_of given = record {
  options = given.options;
  config = given.config.now;
  trace = given.trace.now;
  journal = given.journal.now;
}
