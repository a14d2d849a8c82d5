-- What a turn takes from the desk.
use Rattle.std.specs.Prelude.{ℕ, ◌≤◌, List, length, map}
use Rattle.std.specs.List.{All}
use Rattle.main_function.specs.Names.{ReapsToEnd, Entry, Act, AdmitsItem, DeskMemo}
use Rattle.buffer_classes.specs.Buffers.{Buffer}
use Rattle.report_queue.specs.declared.cargo.Item.{Item}
use Rattle.report_api.specs.declared.terms.ReportTerms.{ReportTerms}

-- the item that an entry was
abbrev pub item_of : Entry Buffer → Item Act
item_of entry = record { caller = entry.caller; call = entry.call; payload = entry.act }

-- all items that entries were
abbrev pub items_of : List (Entry Buffer) → List (Item Act)
items_of taken = map item_of taken

-- the items of the next tickets were taken, in order, up to one that was not ready
pub record Took (terms : ReportTerms) (most : ℕ) (old : DeskMemo) (taken : List (Entry Buffer)) (new : DeskMemo) : Type 0 where
  pub run : ReapsToEnd (items_of taken) old new
  pub few : length taken ≤ most
  pub admitted : All (AdmitsItem terms) (items_of taken)
