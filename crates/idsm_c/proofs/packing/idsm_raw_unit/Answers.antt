use Rattle.idsm_c.proofs.Names.{refl, Ok, Err}
use Rattle.idsm_c.proofs.packing.idsm_raw_unit.Goals as goal

pub returns-in-Ok : goal.returns-in-Ok
returns-in-Ok c =
    let p = c.in-Ok.ensures.put in
    record { answer = Ok p.0; puts = p.1; code_is = c.code.ensures; bytes_is = p.2; taken_is = p.3; new_is = rw p.2 at p.4 }

pub returns-in-Err : goal.returns-in-Err
returns-in-Err c = record {
  answer = Err c.in-Err.fault;
  puts = c.in-Err.ensures.lacks;
  code_is = rw (← c.refused-answer.ensures) c.code-in-Err.ensures;
  bytes_is = rw (← c.refused-answer.ensures);
  taken_is = refl;
  new_is = c.in-Err.ensures.nothing;
}
