-- Packing: the greedy cut is one, and has the fewest runs; messages are judged, cut and written, one at a time.
use Rattle.ids_bundle.proofs.Names.{◌≡◌, ℕ, ◌+◌, ◌-◌, ◌↔◌, ◌<◌, ◌≤◌, List, [], ◌∷◌, ◌++◌, length, length-append, take, drop, Ok, Err, ap, subst, arith, append-nil, append_assoc, AllByRecursion, Result, w16, to_be_bytes, AreBytes, Reads, MessageParts, joined, spelling, Run, load, unit, units, common_steps, refl, sym, ◌∙◌, IsRun, IsCutFor, IsFullBefore, AreFull, IsPacked, all_of, FitsIn, BeginsLong, StopsAt, ArePacked, Packs, again, read_of, one_message_lem}
use Rattle.ids_frame.specs.Reading.{Begun, message_at}
use Rattle.ids_frame.proofs.PartLemmas.{behind_bytes}
use Rattle.ids_bundle.specs.declared.fault.PackFault.{PackFault}
use Rattle.ids_bundle.specs.declared.fault.PackFault.TheVariants.{Bad, TooLarge, NoMemory}
use Rattle.ids_bundle.specs.declared.fault.UnitFault.{UnitFault}
use Rattle.ids_bundle.specs.declared.fault.UnitFault.TheVariants.{SmallSize, NoMessages, First, Short}
use Rattle.ids_bundle.specs.FirstUnit.{IsFirstRun, Lacks, Puts}
use Rattle.ids_bundle.proofs.UnitLemmas.{all_parts, cases_list, one_answer, load-append, no_message, split}

-- a run that holds a full one and the message after it is too long
too_long : (size : ℕ) (front full : Run) (behind : List MessageParts) (next : MessageParts) (more rest : List MessageParts) (run : Run)
    → IsFullBefore size full behind → behind ≡ next ∷ rest → run ≡ (front ++ full) ++ next ∷ more → load run ≤ size → ⊥
too_long size front full behind next more rest run is_full e whole few = grind (arith, common_steps, load-append)

-- no cut has fewer runs, also where some messages stand before the greedy one's
pub fewest : (size : ℕ) (packed runs : List Run) (front : Run) → AllByRecursion (IsRun size) packed → AreFull size packed
    → AllByRecursion (IsRun size) runs → front ++ all_of packed ≡ all_of runs → length packed ≤ length runs
fewest size [] runs front each full each_run e = omega arith
fewest size (p ∷ packed) [] front each full each_run e = grind (arith, common_steps, ap (λ l. length l) e)
fewest size (p ∷ packed) (r ∷ runs) front each full each_run e =
    grind (arith, common_steps, split (front ++ p) (all_of packed) r (all_of runs), too_long, fewest size packed runs)

-- a run is no longer than a full one that it begins with
same_front : (size : ℕ) (run full more : Run) (rest behind : List MessageParts) → IsFullBefore size full behind → load run ≤ size
    → run ≡ full ++ more → more ++ rest ≡ behind → (run ≡ full) × (rest ≡ behind)
same_front size run full [] rest behind is_full few same e = (same ∙ append-nil full, e)
same_front size run full (next ∷ more) rest behind is_full few same e = grind (arith, common_steps, too_long)

-- two greedy cuts are one
pub one_cut : (size : ℕ) (packed others : List Run) → AllByRecursion (IsRun size) packed → AreFull size packed
    → AllByRecursion (IsRun size) others → AreFull size others → all_of packed ≡ all_of others → packed ≡ others
one_cut size [] [] each full each_other full_other e = refl
one_cut size (p ∷ packed) (q ∷ others) each full each_other full_other e =
    grind (arith, common_steps, split p (all_of packed) q (all_of others) e, same_front, too_long, one_cut size packed others)
one_cut size packed others each full each_other full_other e = grind (arith, common_steps, ap (λ l. length l) e)

-- no cut has fewer runs than the greedy one
pub fewest_lem : (size : ℕ) (messages : List MessageParts) (packed runs : List Run) → IsPacked size messages packed
    → IsCutFor size messages runs → length packed ≤ length runs
fewest_lem size messages packed runs p r =
    fewest size packed runs [] p.cut.each p.full r.each (p.cut.whole ∙ sym r.whole)

-- there is one greedy cut
pub one_packing_lem : (size : ℕ) (messages : List MessageParts) (packed others : List Run) → IsPacked size messages packed
    → IsPacked size messages others → packed ≡ others
one_packing_lem size messages packed others p o = grind (arith, common_steps, one_cut)

-- ---- where packing stops

-- why packing stops there, by what is read there
abbrev fault_by : ℕ → Begun → PackFault
fault_by place (Ok x) = TooLarge place
fault_by place (Err fault) = Bad (record { at = place; fault = fault })

-- that is the fault
fault_read : (size : ℕ) (fault : PackFault) (place : ℕ) (rest : List ℕ) → AreBytes rest → StopsAt size fault place rest
    → fault ≡ fault_by place (message_at rest)
fault_read size (Bad bad) place rest bytes stops = grind (arith, read_of rest (Err bad.fault) bytes stops.1)
fault_read size (TooLarge at) place rest bytes stops = grind (arith, common_steps, again)
fault_read size NoMemory place rest bytes stops = absurd stops

-- bytes that begin with a message that fits begin with one of its length
begins_long : (size : ℕ) (m : MessageParts) (bytes more : List ℕ) → FitsIn size m → bytes ≡ spelling m ++ more
    → BeginsLong bytes (length (spelling m))
begins_long size m bytes more fits e = record { message = m; rest = more; begins = record { fits = fits.fits; whole = e }; long = refl }

-- where packing stops a message would be too long
stop_is_long : (size : ℕ) (fault : PackFault) (place : ℕ) (rest : List ℕ) → AreBytes rest → StopsAt size fault place rest
    → (len : ℕ) → BeginsLong rest len → size < len
stop_is_long size (Bad bad) place rest bytes stops len b =
    absurd (cc (read_of rest (Err bad.fault) bytes stops.1, ap message_at b.begins.whole, again b.message b.rest b.begins.fits))
stop_is_long size (TooLarge at) place rest bytes stops len b = grind (arith, common_steps, one_message_lem)
stop_is_long size NoMemory place rest bytes stops len b = absurd stops

-- so none that fits stands there
stop_is_stuck : (size : ℕ) (fault : PackFault) (place : ℕ) (rest : List ℕ) → AreBytes rest → StopsAt size fault place rest
    → (m : MessageParts) (more : List ℕ) → FitsIn size m → rest ≡ spelling m ++ more → ⊥
stop_is_stuck size fault place rest bytes stops m more fits e =
    omega (arith, fits.few, stop_is_long size fault place rest bytes stops _ (begins_long size m rest more fits e))

-- ---- the first run

-- bytes that begin with a first run begin with a message that fits
first_message : (size : ℕ) (bytes : List ℕ) (run : Run) → IsFirstRun size bytes run
    → (m : MessageParts) × (more : List ℕ) × FitsIn size m × (bytes ≡ spelling m ++ more)
first_message size bytes run first = grind (arith, common_steps, cases_list run, first)

-- two runs at the front are one, also where so many bytes of messages stand before each
one_run : (size before : ℕ) (run other : Run) (a b : List ℕ) → AllByRecursion (FitsIn size) run → AllByRecursion (FitsIn size) other
    → before + load run ≤ size → before + load other ≤ size → joined run ++ a ≡ joined other ++ b
    → ((len : ℕ) → BeginsLong a len → size < before + load run + len) → ((len : ℕ) → BeginsLong b len → size < before + load other + len)
    → run ≡ other
one_run size before [] [] a b fit fit_other few few_other e full full_other = refl
one_run size before (m ∷ run) [] a b fit fit_other few few_other e full full_other =
    let apart = sym e ∙ append_assoc (spelling m) (joined run) a in
    absurd (omega (arith, length-append (spelling m) (joined run), few, full_other _ (begins_long size m b (joined run ++ a) fit.0 apart)))
one_run size before [] (n ∷ other) a b fit fit_other few few_other e full full_other =
    let apart = e ∙ append_assoc (spelling n) (joined other) b in
    absurd (omega (arith, length-append (spelling n) (joined other), few_other, full _ (begins_long size n a (joined other ++ b) fit_other.0 apart)))
one_run size before (m ∷ run) (n ∷ other) a b fit fit_other few few_other e full full_other =
    let apart = sym (append_assoc (spelling m) (joined run) a) ∙ e ∙ append_assoc (spelling n) (joined other) b in
    let same = one_message_lem m n (joined run ++ a) (joined other ++ b) fit.0.fits fit_other.0.fits apart in
    let long = ap (λ x. length (spelling x)) same.0 in
    let sum = length-append (spelling m) (joined run) in
    let sum_other = length-append (spelling n) (joined other) in
    let more = one_run size (before + length (spelling m)) run other a b fit.1 fit_other.1 (omega (arith, few)) (omega (arith, few_other)) same.1
    (λ len x. omega (arith, full len x)) (λ len x. omega (arith, full_other len x)) in
    cc

-- bytes have one first run
pub one_first_lem : (size : ℕ) (bytes : List ℕ) (run other : Run) → IsFirstRun size bytes run → IsFirstRun size bytes other → run ≡ other
one_first_lem size bytes run other f g =
    one_run size 0 run other f.rest g.rest f.fit g.fit (omega (arith, f.is_run.few)) (omega (arith, g.is_run.few)) (sym f.whole ∙ g.whole)
    (λ len b. omega (arith, f.full len b)) (λ len b. omega (arith, g.full len b))

-- with the next message the run of a greedy cut would be too long
full_before : (size : ℕ) (run : Run) (next : List MessageParts) (len : ℕ) → AllByRecursion (FitsIn size) next
    → IsFullBefore size run next → BeginsLong (joined next) len → size < load run + len
full_before size run [] len fit full b = absurd (no_message b.message b.rest b.begins.fits b.begins.whole)
full_before size run (m ∷ next) len fit full b = grind (arith, common_steps, one_message_lem)

-- and where any would, it is that of one
full_after : (size : ℕ) (run : Run) (next : List MessageParts) → AllByRecursion (FitsIn size) next
    → ((len : ℕ) → BeginsLong (joined next) len → size < load run + len) → IsFullBefore size run next
full_after size run [] fit full = tt
full_after size run (m ∷ next) fit full = full _ (begins_long size m _ (joined next) fit.0 refl)

-- a greedy cut is the first run and a greedy cut of the rest
pub first_lem : (size : ℕ) (bytes : List ℕ) (run : Run) (runs : List Run) → ArePacked size bytes (run ∷ runs)
    ↔ (IsFirstRun size bytes run × ArePacked size (drop (load run) bytes) runs)
first_lem size bytes run runs = (
  λ p.
      let parts = all_parts (FitsIn size) run (all_of runs) (grind (arith, common_steps)) in (
        record {
          fit = parts.0;
          is_run = p.packed.cut.each.0;
          rest = joined (all_of runs);
          whole = grind (arith, common_steps);
          full = λ len b. full_before size run (all_of runs) len parts.1 p.packed.full.0 b;
        },
        record {
          messages = all_of runs;
          read = record { fit = parts.1; whole = grind (arith, common_steps) };
          packed = record { cut = record { each = p.packed.cut.each.1; whole = refl }; full = p.packed.full.1 };
        },
      ),
  λ w.
      let f = w.0 in
      let p = w.1 in
      let left : f.rest ≡ joined (all_of runs) = grind (arith, common_steps) in
      record {
        messages = run ++ p.messages;
        read = record { fit = grind (arith, common_steps); whole = grind (arith, common_steps) };
        packed = record {
          cut = record { each = (f.is_run, p.packed.cut.each); whole = grind (arith, common_steps) };
          full = (full_after size run (all_of runs) (grind (arith, common_steps)) (rw left at f.full), p.packed.full);
        };
      },
)

-- messages at the front are filled into a run
pub record IsFilling (size : ℕ) (bytes : List ℕ) (number total : ℕ) : Type 0 where
  pub run : Run
  pub fit : AllByRecursion (FitsIn size) run
  pub is_run : IsRun size run
  pub rest : List ℕ
  pub whole : bytes ≡ joined run ++ rest
  pub count : number ≡ length run
  pub weight : total ≡ load run

-- the first one
pub filling_begins : (size : ℕ) (bytes : List ℕ) (len : ℕ) → BeginsLong bytes len → len ≤ size → IsFilling size bytes 1 len
filling_begins size bytes len b few = record {
  run = b.message ∷ [];
  fit = grind (arith, common_steps);
  is_run = grind (arith, common_steps);
  rest = b.rest;
  whole = grind (arith, common_steps);
  count = refl;
  weight = grind (arith, common_steps);
}

-- one more, which fits
pub filling_more : (size : ℕ) (bytes : List ℕ) (number total len : ℕ) → IsFilling size bytes number total
    → BeginsLong (drop total bytes) len → len ≤ size - total → IsFilling size bytes (number + 1) (total + len)
filling_more size bytes number total len p b few = record {
  run = p.run ++ b.message ∷ [];
  fit = grind (arith, common_steps, load-append);
  is_run = grind (arith, common_steps, load-append);
  rest = b.rest;
  whole = grind (arith, common_steps, load-append);
  count = grind (arith, common_steps, load-append);
  weight = grind (arith, common_steps, load-append);
}

-- the next one does not
pub filling_ends : (size : ℕ) (bytes : List ℕ) (number total place : ℕ) (fault : PackFault) → IsFilling size bytes number total
    → AreBytes bytes → StopsAt (size - total) fault place (drop total bytes)
    → (run : Run) × IsFirstRun size bytes run × (number ≡ length run) × (total ≡ load run)
filling_ends size bytes number total place fault p are_bytes stops =
    let left : drop total bytes ≡ p.rest = grind (arith, common_steps) in
    let fits = behind_bytes (joined p.run) p.rest (subst AreBytes p.whole are_bytes) in
    let long = stop_is_long (size - total) fault place p.rest fits (rw left at stops) in (
      p.run,
      record { fit = p.fit; is_run = p.is_run; rest = p.rest; whole = p.whole; full = λ len b. omega (arith, p.weight, long len b) },
      p.count,
      p.weight,
    )

-- ---- packing run by run

-- the units of runs at the front were written, and these bytes are left
pub record IsPacking (size : ℕ) (bytes out rest : List ℕ) : Type 0 where
  pub front : List Run
  pub fit : AllByRecursion (FitsIn size) (all_of front)
  pub whole : bytes ≡ joined (all_of front) ++ rest
  pub made : out ≡ units front
  pub goes_on : (runs : List Run) → ArePacked size rest runs → ArePacked size bytes (front ++ runs)

-- one unit more
pub packing_more : (size : ℕ) (bytes out rest out_now behind text : List ℕ) (number total : ℕ) → IsPacking size bytes out rest
    → (run : Run) × IsFirstRun size rest run × (number ≡ length run) × (total ≡ load run) → text ≡ take total rest → behind ≡ drop total rest
    → out_now ≡ out ++ (to_be_bytes w16 number ++ to_be_bytes w16 (length text) ++ text) → IsPacking size bytes out_now behind
packing_more size bytes out rest out_now behind text number total p first is_text is_behind written = record {
  front = p.front ++ first.0 ∷ [];
  fit = grind (arith, common_steps);
  whole = grind (arith, common_steps);
  made = grind (arith, common_steps);
  goes_on = λ runs packed. grind (arith, common_steps, first_lem, p.goes_on (first.0 ∷ runs));
}

-- nothing is left
pub packing_ends : (size : ℕ) (bytes out rest : List ℕ) → IsPacking size bytes out rest → rest ≡ []
    → (runs : List Run) × ArePacked size bytes runs × (out ≡ units runs)
packing_ends size bytes out rest p none = (p.front ++ [], p.goes_on [] (grind (arith, common_steps)), grind (arith, common_steps, append-nil))

-- ---- one answer

-- messages are read in one way
one_read : (size : ℕ) (bytes : List ℕ) → AreBytes bytes → (one other : Result (List MessageParts) PackFault)
    → Reads spelling (FitsIn size) (StopsAt size) bytes one → Reads spelling (FitsIn size) (StopsAt size) bytes other → one ≡ other
one_read size bytes fits = one_answer spelling (FitsIn size) (StopsAt size) bytes (record {
  free = λ x y a b fits_x fits_y e. one_message_lem x y a b fits_x.fits fits_y.fits e;
  none = λ m more fits_m e. no_message m more fits_m.fits e;
  stuck = λ fault place front rest e stops. stop_is_stuck size fault place rest (behind_bytes front rest (subst AreBytes e fits)) stops;
  one = λ f g place front rest e a b. grind (arith, fault_read, behind_bytes front rest (subst AreBytes e fits));
})

-- there is one answer
pub one_pack_answer_lem : (size : ℕ) (bytes : List ℕ) (one other : Result (List Run) PackFault) → AreBytes bytes
    → Packs size bytes one → Packs size bytes other → one ≡ other
one_pack_answer_lem size bytes (Ok p) (Ok q) fits a b =
    grind (arith, common_steps, one_cut, one_read size bytes fits (Ok a.messages) (Ok b.messages) a.read b.read)
one_pack_answer_lem size bytes (Ok p) (Err g) fits a b = absurd (cc (one_read size bytes fits (Ok a.messages) (Err g) a.read b))
one_pack_answer_lem size bytes (Err f) (Ok q) fits a b = absurd (cc (one_read size bytes fits (Ok b.messages) (Err f) b.read a))
one_pack_answer_lem size bytes (Err f) (Err g) fits a b = cc (one_read size bytes fits (Err f) (Err g) a b)

-- where a run is the first there is something
first_is_some : (size : ℕ) (bytes : List ℕ) (run : Run) → IsFirstRun size bytes run → 1 ≤ length bytes
first_is_some size bytes run first = grind (arith, common_steps, first_message size bytes run first)

-- and packing does not stop
first_goes_on : (size : ℕ) (bytes : List ℕ) (run : Run) (fault : PackFault) → IsFirstRun size bytes run → AreBytes bytes
    → StopsAt size fault 0 bytes → ⊥
first_goes_on size bytes run fault first fits stops =
    let m = first_message size bytes run first in
    stop_is_stuck size fault 0 bytes fits stops m.0 m.1 m.2 m.3

-- and all that is lacking is room
first_lacks_room : (size room : ℕ) (bytes : List ℕ) (run : Run) (fault : UnitFault) → AreBytes bytes → 64 ≤ size
    → IsFirstRun size bytes run → Lacks size room bytes fault → (room < length (unit run)) × (fault ≡ Short (length (unit run)))
first_lacks_room size room bytes run SmallSize fits most first lacks = absurd (omega arith)
first_lacks_room size room bytes run NoMessages fits most first lacks =
    absurd (omega (arith, first_is_some size bytes run first, ap (λ l. length l) lacks.1))
first_lacks_room size room bytes run (First fault) fits most first lacks = absurd (first_goes_on size bytes run fault first fits lacks.2)
first_lacks_room size room bytes run (Short wanted) fits most first lacks =
    let long : wanted ≡ length (unit run) = lacks.2.2 ∙ ap (λ x. length (unit x)) (one_first_lem size bytes lacks.2.0 run lacks.2.1 first) in
    (omega (arith, lacks.1, long), ap Short long)

-- there is one first unit, or one reason for none
pub one_unit_answer_lem : (size room : ℕ) (bytes : List ℕ) (one other : Result Run UnitFault) → AreBytes bytes
    → Puts size room bytes one → Puts size room bytes other → one ≡ other
one_unit_answer_lem size room bytes (Ok run) (Ok other) fits a b = ap Ok (one_first_lem size bytes run other a.2 b.2)
one_unit_answer_lem size room bytes (Ok run) (Err fault) fits a b =
    absurd (omega (arith, a.1, first_lacks_room size room bytes run fault fits a.0 a.2 b))
one_unit_answer_lem size room bytes (Err fault) (Ok run) fits a b =
    absurd (omega (arith, b.1, first_lacks_room size room bytes run fault fits b.0 b.2 a))
one_unit_answer_lem size room bytes (Err fault) (Err other) fits a b = ap Err (one_lack fault other a b)
  where
    one_lack : (f g : UnitFault) → Lacks size room bytes f → Lacks size room bytes g → f ≡ g
    one_lack (Short v) g a b = cc (a.2.2, (first_lacks_room size room bytes a.2.0 g fits a.0 a.2.1 b).1)
    one_lack f (Short w) a b = cc (b.2.2, (first_lacks_room size room bytes b.2.0 f fits b.0 b.2.1 a).1)
    one_lack (First f) (First g) a b = ap First (fault_read size f 0 bytes fits a.2 ∙ sym (fault_read size g 0 bytes fits b.2))
    one_lack f g a b = grind (arith, common_steps)
