use Rattle.cmd_spec.proofs.Names.{Does, Err, IsOfBytes, List, Ok, Refusal, Refused, Refuses, Task, Work, ap, packs, seals, subst, sym, unpacks, unseals, ℕ, ◌≡◌}
use Rattle.frame_auth.proofs.OneAnswer.{one_sealing_lem, one_unsealing_lem}
use Rattle.ids_bundle.proofs.PackLemmas.{one_pack_answer_lem}
use Rattle.ids_bundle.proofs.UnpackLemmas.{one_unpack_answer_lem}
use Rattle.cmd_spec.proofs.RunLemmas.{Only, did_work, served_ends, stop_ends}
use Rattle.cmd_spec.proofs.laws.files_decide_the_answer.Goals as goal

-- what cannot be done is neither done nor refused for another reason
one_end : (task : Task) (a : Refusal (List ℕ)) → IsOfBytes task → Refuses task a
    → ((b : Refusal (List ℕ)) → Refuses task b → b ≡ a) × ((work : Work) → Does task work → ⊥)
one_end (seals target key start bytes) a fits x = (
  λ b y. cc (one_sealing_lem key start bytes (Err x.0) (Err y.0) fits x.1 y.1, x.2, y.2),
  λ work is. absurd (cc (one_sealing_lem key start bytes (Ok is.out) (Err x.0) fits is.copies x.1)),
)
one_end (unseals target key start bytes) a fits x = (
  λ b y. cc (one_unsealing_lem key start bytes (Err x.0) (Err y.0) fits x.1 y.1, x.2, y.2),
  λ work is. absurd (cc (one_unsealing_lem key start bytes (Ok is.out) (Err x.0) fits is.copies x.1)),
)
one_end (packs target size bytes) a fits x = (
  λ b y. cc (one_pack_answer_lem size bytes (Err x.0) (Err y.0) fits x.1 y.1, x.2, y.2),
  λ work is. absurd (cc (one_pack_answer_lem size bytes (Ok is.runs) (Err x.0) fits is.packed x.1)),
)
one_end (unpacks target bytes) a fits x = (
  λ b y. cc (one_unpack_answer_lem bytes (Err x.0) (Err y.0) x.1 y.1, x.2, y.2),
  λ work is. absurd (cc (one_unpack_answer_lem bytes (Ok is.runs) (Err x.0) is.unpacked x.1)),
)
one_end other a fits x = absurd x

pub returns : goal.returns
returns c = record {
  refused = λ command status old new before after reason ran told deserved.
      stop_ends command status old new before after told reason (λ refusal judged. cc (judged, deserved))
      (λ task judged. absurd (cc (judged, deserved))) ran.answer ran.ends ran.puts;
  unfit = λ command status old new before after task refusal ran told serves bytes refuses.
      let one = one_end task refusal bytes refuses in
      stop_ends command status old new before after told (Refused refusal) (λ other judged. absurd (cc (judged, serves)))
      (λ other judged.
      let same : task ≡ other = cc (sym judged, serves) in
      subst (Only command status old new before after told (Refused refusal)) same (λ b is. ap Refused (one.0 b is), one.1, λ can. can refusal refuses))
      ran.answer ran.ends ran.puts;
  served = λ command status old new before after task ran told serves can.
      served_ends command status old new before after told task serves ran.answer can ran.ends ran.puts;
  done = λ command old new before after task ran told serves.
      did_work command old new before after told task serves ran.answer ran.ends ran.puts;
}
