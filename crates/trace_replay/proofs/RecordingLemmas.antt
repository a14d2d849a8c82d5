-- What was gathered, with one turn more, and with those of one list of ticks after those of another.
use Rattle.trace_replay.proofs.Names.{Adds, Advances, Buffer, Continues, DeskMemo, Gathered, Giver, IsMadeFor, IsManagerOf, IsRecordOf, List, Manager, Parts, PassMemo, Recorder, RestedTurn, Sends, Shared, Stands, Turn, Turned, TurnsAtRest, [], all_append, all_then, ap, append_assoc, arith, came, desk_memo, entries_of, false, gathers, last_from, length, length-append, length-map, map-append, plain_item, refl, rests_told, subst, sym, turns_in, ℕ, ◌++◌, ◌+◌, ◌∙◌, ◌∷◌, ◌≡◌}
use Rattle.filter_chain.proofs.TranscriptLemmas.{newest_first, transcript_more}
use Rattle.filter_chain.specs.declared.transcript.Transcript.{Transcript}

pub last_on : (low : ℕ) (ticks more : List ℕ) → last_from low (ticks ++ more) ≡ last_from (last_from low ticks) more
last_on low [] more = refl
last_on low (tick ∷ ticks) more = last_on tick ticks more

-- what the log noted is the last turn of the history, also where the desk then moved on
pub noted_turn : {C : Type 0} (old mid : Manager C Gathered) (turn : Turn) {m : Manager C Gathered} → m ≡ record mid { desk = m.desk } → gathers old.log turn mid.log → m.log.missed ≡ false
    → m.log.history.turns ≡ old.log.history.turns ++ turn ∷ []
noted_turn {C} old mid turn is_mid noted there =
    let log = ap (λ (x : Manager C Gathered). x.log) is_mid in
    ap (λ (log : Gathered). log.history.turns) log ∙ noted (sym (ap (λ (log : Gathered). log.missed) log) ∙ there)

module _ {C : Type 0} {stands : C → Parts → List Turn → Type 0} {events : C → ℕ} {kept : C → List Buffer} {shared : Shared} where
  -- turns after turns
  pub made_more : {ticks more : List ℕ} {old mid new : Recorder C} → Continues stands events kept shared ticks old mid
      → Continues stands events kept shared more mid new → Continues stands events kept shared (ticks ++ more) old new
  made_more {ticks} {more} {old} first then =
      let one = first.advances in let other = then.advances in
      record {
        advances = record {
          manager_is = other.manager_is;
          turns = one.turns ++ other.turns;
          turns_are = rw (other.turns_are, one.turns_are) (append_assoc (turns_in old) one.turns other.turns);
          ticks_are = rw (map-append, one.ticks_are, other.ticks_are) refl;
          small = all_append _ one.turns other.turns one.small other.small;
          records = λ config was. other.records config (one.records config was);
          rests_are = other.rests_are ∙ one.rests_are;
          last_is = rw (other.last_is, one.last_is, last_on _ ticks more) refl;
          count_is = omega (arith, other.count_is, one.count_is, length-append ticks more);
        };
        back_is = then.back_is ∙ first.back_is;
        released_is = then.released_is ∙ first.released_is;
        classes_are = all_then first.classes_are then.classes_are (λ i old mid new one more. more ∙ one);
      }

  module _ {old : Recorder C} {m : Manager C Gathered} {t : Transcript} (is : IsManagerOf events kept shared old.manager)
      (now : IsManagerOf events kept shared m) (adds : Adds m.out old.transcript t) (there : m.log.missed ≡ false) where
    -- a turn that was made and gathered, also where the desk then moved on
    pub advances : {tick : ℕ} {desk : DeskMemo} {givers : List Giver} {mid : Manager C Gathered} → m ≡ record mid { desk = m.desk }
        → ((config : Parts) (turns : List Turn) → Stands stands config mid turns → Stands stands config m turns)
        → Turned stands gathers kept tick desk givers old.manager mid → Advances stands events kept shared (tick ∷ []) old (record { manager = m; transcript = t })
    advances {tick = tick} {mid = mid} is_mid stands_on turned =
        let before = turns_in old in
        let history : m.log.history.turns ≡ before ++ turned.turn ∷ [] = noted_turn old.manager mid turned.turn is_mid turned.noted_is there in
        record {
          manager_is = now;
          turns = turned.turn ∷ [];
          turns_are = history;
          ticks_are = ap (λ tick. tick ∷ []) turned.tick_is;
          small = (record { head_is = turned.small; few = rw (turned.makes.entries_are, length-map, ← is.positions_are) turned.makes.few }, tt);
          records = λ config was. record {
            stands_for = subst (Stands stands config m) (sym history) (stands_on config _ (turned.stands_then config before was.stands_for));
            transcript = rw history (transcript_more was.transcript
                (subst (λ out. Sends config before turned.turn out) (sym (ap (λ (x : Manager C Gathered). x.out) is_mid)) (turned.sends config before was.stands_for)) adds);
            causal = rw (history, newest_first before turned.turn) (turned.limited_is config before was.stands_for, was.causal);
          };
          rests_are = ap rests_told (ap (λ (x : Manager C Gathered). x.rests) is_mid ∙ turned.rests_are);
          last_is = ap (λ (x : Manager C Gathered). x.head.tick) is_mid ∙ ap (λ head. head.tick) turned.head_is ∙ turned.tick_is;
          count_is = ap (λ (x : Manager C Gathered). x.turns) is_mid ∙ turned.turns_are;
        }

    -- and one that was made at a rest
    pub at_rest : {tick : ℕ} (passes nows : List PassMemo) → length passes ≡ length (desk_memo old.manager.desk).back → RestedTurn stands gathers kept shared tick passes nows old.manager m
        → TurnsAtRest stands events kept shared tick passes nows old (record { manager = m; transcript = t })
    at_rest passes nows all rested =
        record {
          advances = advances rested.new_is rested.stands_then rested.closed.turned;
          as_many = rested.moved.as_many ∙ ap length rested.closed.are_back ∙ length-map passes came ∙ all;
          rested = rested;
          gathered = noted_turn old.manager rested.mid rested.closed.turned.turn rested.new_is rested.closed.turned.noted_is there;
        }

  -- how much had been offered when the passes were held
  pub offered_is : {tick : ℕ} {passes nows : List PassMemo} {old new : Recorder C} {config : Parts} (turn : TurnsAtRest stands events kept shared tick passes nows old new)
      → IsMadeFor config shared → IsRecordOf stands config old → (desk_memo turn.rested.mid.desk).offered ≡ length (entries_of (turns_in new)) + config.ring
  offered_is {old = old} {new = new} {config = config} turn made_for was =
      let shows = (turn.rested.stands_then config _ (turn.rested.closed.turned.stands_then config (turns_in old) was.stands_for)).reports_show.items_are in
      let now = turn.advances.manager_is in
      rw turn.gathered (omega (
        arith,
        ap (λ (k : DeskMemo). k.offered) turn.rested.moved.memo_is,
        now.offered_is,
        now.positions_are,
        made_for.positions_are,
        ap length shows,
        length-map (desk_memo new.manager.desk).notes plain_item,
      ))
