pub mod ExplainedText
pub mod Hearing
pub use Rattle.chain_endings.specs.Hearing.{nothing, with_ending, IsAtMost, kept_at, AreOf, CountsMissing, turn_endings, entry_moments, is_report, told_in, Hears, silent}
pub use Rattle.chain_endings.specs.ExplainedText.{field, stored_word, fate_fields, ended_fields, letter_of, given_line, entry_lines, opening, turn_lines, turns_lines, is_missing, Pushes, named, step_fields, account_fields, account_line, explained_text, endings_along}
