-- What turns sent, with one turn more.
use Rattle.filter_chain.proofs.Names.{◌≡◌, ◌+◌, ◌≤◌, ◌<◌, List, [], ◌∷◌, ◌++◌, length, reverse, sym, ap, ◌∙◌, arith, length-append, Turn, Sends, count_of, last_tick, messages_of, newest_tick, Adds, IsTranscript, ends_of}
use Rattle.std.proofs.lemmas.List.{reverse-append}
use Rattle.std.proofs.lemmas.Grind.{reverse_onto}
use Rattle.ids_types.specs.Output.{Output}
use Rattle.ids_config.specs.Parts.{Parts}
use Rattle.chain_spec.specs.{messages, ends, moments, sent, Item, spelled}
use Rattle.filter_chain.specs.declared.transcript.Transcript.{Transcript}

-- with one turn more the newest is this one
pub newest_first : (turns : List Turn) (turn : Turn) → reverse (turns ++ turn ∷ []) ≡ turn ∷ reverse turns
newest_first turns turn = reverse-append turns (turn ∷ [])

-- the tick of the last turn
pub last_of : (turns : List Turn) (turn : Turn) → last_tick (turns ++ turn ∷ []) ≡ turn.head.tick
last_of turns turn = ap newest_tick (newest_first turns turn)

-- there are no more messages than bytes
spelled_few : (config : Parts) (items : List Item) → length items ≤ length (spelled config items)
spelled_few config [] = omega arith
spelled_few config (item ∷ before) =
    let own : 0 < length (spelled config (item ∷ [])) = omega arith in
    let whole : length (spelled config (item ∷ before)) ≡ length (spelled config before) + length (spelled config (item ∷ [])) =
    length-append (spelled config before) (spelled config (item ∷ [])) in
    omega (arith, own, whole, spelled_few config before)

-- where turns end, with one turn more
ends_more : (config : Parts) (turns : List Turn) (turn : Turn)
    → ends_of config (turns ++ turn ∷ []) ≡ ends_of config turns ++ length (messages_of config (turns ++ turn ∷ [])) ∷ []
ends_more config turns turn = rw (newest_first turns turn)
    (reverse_onto (ends config (reverse turns)) (length (messages config (turn ∷ reverse turns))) [])

-- it is what these turns and this one send
pub transcript_more : {config : Parts} {turns : List Turn} {turn : Turn} {old new : Transcript} {out : Output}
    → IsTranscript config turns old → Sends config turns turn out → Adds out old new → IsTranscript config (turns ++ turn ∷ []) new
transcript_more {config} {turns} {turn} {old} {new} {out} was sends adds =
    let bytes : new.sent.items ≡ messages_of config (turns ++ turn ∷ []) =
    adds.bytes ∙ ap (λ bytes. bytes ++ out.sent) was.sent ∙ sym sends.bytes in
    let few : count_of config (turns ++ turn ∷ []) ≤ length (messages_of config (turns ++ turn ∷ [])) =
    spelled_few config (sent config (moments config (reverse (turns ++ turn ∷ [])))) in
    record {
      sent = bytes;
      ends = adds.end ∙ rw (was.ends, bytes) (sym (ends_more config turns turn));
      messages = omega (arith, adds.count, was.messages, sends.number, few, adds.fits, ap length bytes);
    }
