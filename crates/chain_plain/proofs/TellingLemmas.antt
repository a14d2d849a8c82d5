-- What is told of turns, with one turn more.
use Rattle.chain_plain.proofs.Names.{Parts, Output, ◌≡◌, ℕ, List, [], ◌∷◌, ◌++◌, reverse, sym, Turn, newest_first, transcript_more, Sends, handed_of, reverse_onto}
use Rattle.chain_spec.specs.Chain.{handed, handed_on}
use Rattle.chain_plain.specs.Telling.{Tallies, Tells}
use Rattle.chain_plain.specs.declared.tally.Tally.{Tally}

-- with this turn it tells of these turns and this one
pub tells_more : {config : Parts} {turns : List Turn} {turn : Turn} {old new : Tally} {out : Output} {limited : ℕ}
    → limited ≡ handed_of config (turns ++ turn ∷ []) → Tells config turns old → Sends config turns turn out → Tallies out limited old new
    → Tells config (turns ++ turn ∷ []) new
tells_more {config} {turns} {turn} is tells sends tallies = record {
  transcript = transcript_more tells.transcript sends tallies.transcript;
  numbers = rw (tallies.handed, tells.numbers, is, newest_first turns turn)
      (sym (reverse_onto (handed config (reverse turns)) (handed_on config (turn ∷ reverse turns)) []));
}
