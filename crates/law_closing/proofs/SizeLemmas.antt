-- The classes that are too small, where sizes rise.
use Rattle.law_closing.proofs.Names.{◌≡◌, ℕ, sym, ◌∙◌, Classes, Parts, HaveSizes, sizes_in, too_small}
use Rattle.history_spec.proofs.AskOrderLemmas.{small_is}
use Rattle.buffer_classes.specs.Classes.{AreClasses, class_sizes, first_fitting}
use Rattle.report_api.proofs.{first_in}

pub first_is_small : (config : Parts) (classes : Classes) (bytes : ℕ) → AreClasses classes → HaveSizes config classes
    → first_fitting bytes (class_sizes classes) ≡ too_small config bytes
first_is_small config classes bytes are sizes = rw sizes ((first_in bytes 0 (sizes_in config) (rw sizes at are.rise)).0 ∙ sym (small_is config bytes))
