pub mod CommandLine
pub mod Given
pub mod Ranges
pub mod Words
pub use Rattle.gen_options.specs.Given.{Wanted, given_of}
pub use Rattle.gen_options.specs.Ranges.{is_in_range, IsInRange}
pub use Rattle.gen_options.specs.Words.{◌>>=◌, refusals, found, number_in, number_by, options_by, given_by, unless_refused, words_give}
