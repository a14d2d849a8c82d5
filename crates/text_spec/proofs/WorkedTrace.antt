-- A small trace, and its text as it stands in a file.
use Rattle.text_spec.proofs.Names.{◌≡◌, ◌∷◌, Off, trace_in, Round, reports, changes, sets, trace_text, List, [], refl, Ok, Err, codes, None, decode_pairs, encode_with, Parts}
use Rattle.ids_config.specs.Parts.{plain_event}
use Rattle.ids_config.proofs.Plain.{instance_18}
use Rattle.std.specs.Fmt.{digits}
use Rattle.text_spec.specs.Lines.{after_pieces}

-- two callers, and one event that a sensor reports
abbrev config : Parts
config = record (instance_18 (plain_event 42 3 ∷ [])) { callers = 2 }

-- a round with two ticks beside its calls, and one without any call
abbrev rounds : List Round
rounds =
    record {
      beside = 4 ∷ 5 ∷ [];
      lines = (reports (record { 0 = 0 }) 1 None (161 ∷ 178 ∷ []) ∷ changes 7 ∷ []) ∷ (sets (record { 0 = 0 }) Off ∷ []) ∷ [];
      after = 9;
    }
    ∷ record { beside = []; lines = [] ∷ [] ∷ []; after = 9 }
    ∷ []

its_text : trace_text rounds ≡ codes "N 4 5\nR 0 0 1 - a1b2\nS 0 7\nM 1 0 OFF\nE 9\nN\nE 9\n"
unfolding digits encode_with
its_text = refl

its_reading : trace_in config (codes "N 4 5\nR 0 0 1 - a1b2\nM 1 0 OFF\nS 0 7\nE 9\nN\nE 9\n") ≡ Ok rounds
unfolding after_pieces decode_pairs
its_reading = refl

an_open_round : trace_in config (codes "N\n") ≡ Err (record { line = 2; fault = 2 })
unfolding after_pieces
an_open_round = refl
