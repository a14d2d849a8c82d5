-- What the lines so far of a journal are after some of a history: where they await the rest of it, that has no fault.
use Rattle.trace_text.proofs.Names.{◌≡◌, ℕ, suc, ◌+◌, ◌<◌, ◌≤◌, ◌^◌, ◌++◌, List, [], ◌∷◌, length, length-append, map, get_or, refl, sym, subst, ◌∙◌, append_assoc, arith, length-set, Ok, AllByRecursion, flat_map, eq-eqb, le-leb, lt-ltb, append-nil, Turn, begun, entries_of, Parts, Entry, Loss, calls_of, KeepUpFrom, LossesFrom, RiseFrom, Past, fault_of, next, pair_of, IsHeld, journal_grammar, Line, begins, enters, loses, turn_told, AreFaultless, common_steps, entries_of-with_entry, flat_map-push, length_with_entry}
use Rattle.trace_text.proofs.LineLemmas.{Entries, EntryFits, LossFits, TurnFits}

-- the lines so far await these entries of the turn that has begun, and then these turns, which are the rest of all entries
pub record Awaits (all : Entries) (past : Past) (entries : Entries) (turns : List Turn) : Type 0 where
  pub callers : length past.calls ≡ 32
  pub no_losses : past.told.losses ≡ []
  pub has_begun : 0 < length entries → 0 < length past.told.turns
  pub few : past.entries + length entries ≤ 1024
  pub calls_rise : (caller : ℕ) → RiseFrom (get_or past.calls caller 0) (calls_of caller (entries ++ entries_of turns))
  pub ticks_keep_up : KeepUpFrom past.tick (map (λ turn. turn.head.tick) turns)
  pub are_all : entries_of past.told.turns ++ (entries ++ entries_of turns) ≡ all
  pub no_pair : past.pair ≡ 0

module _ (config : Parts) (all : Entries) where
  -- what each of these lines tells can be held, and none has a fault after the lines so far
  abbrev pub AreTaken : Past → List Line → Type 0
  AreTaken past lines = AllByRecursion IsHeld lines × AreFaultless (journal_grammar config) past lines

  -- ---- one line

  -- an entry that is awaited
  entry_taken : (past : Past) (e : Entry (List ℕ)) (entries : Entries) (turns : List Turn) → EntryFits config e
      → Awaits all past (e ∷ entries) turns
      → (fault_of config past (enters e) ≡ Ok tt) × Awaits all (next past (enters e)) entries turns
  entry_taken past e entries turns fits awaits =
      let begun : 0 < length past.told.turns = awaits.has_begun (omega arith) in
      let within : e.caller < length past.calls = grind (arith, fits.place, awaits.callers) in
      let least = (rw (eq-eqb e.caller e.caller refl) at (awaits.calls_rise e.caller)).0 in
      let few : past.entries < 1024 = omega (arith, awaits.few) in (
        rw (awaits.no_losses, lt-ltb 0 _ begun, fits.place, fits.ranges, fits.event, le-leb _ _ least, lt-ltb _ 1024 few) refl,
        grind (arith, common_steps, length-set, append_assoc, length_with_entry, entries_of-with_entry, within, begun, awaits),
      )

  -- the head of a turn that is awaited
  head_taken : (past : Past) (turn : Turn) (turns : List Turn) → TurnFits config turn → Awaits all past [] (turn ∷ turns)
      → (fault_of config past (begins turn.head) ≡ Ok tt) × Awaits all (next past (begins turn.head)) turn.entries turns
  head_taken past turn turns fits awaits =
      let same = flat_map-push (λ (t : Turn). t.entries) past.told.turns (begun turn.head) ∙ append-nil _ in (
        grind (arith, awaits.no_losses, fits.head, awaits.ticks_keep_up.0),
        grind (arith, length-append, fits.few, same, awaits),
      )

  -- ---- all lines

  -- losses in order, after all entries
  pub losses_taken : (past : Past) (caller call : ℕ) (losses : List Loss) → past.pair ≡ pair_of caller call → call ≤ 2 ^ 40
      → entries_of past.told.turns ≡ all → LossesFrom caller call losses → AllByRecursion (LossFits all) losses
      → AreTaken past (map loses losses)
  losses_taken past caller call [] pair small are order fits = (tt, tt)
  losses_taken past caller call (loss ∷ losses) pair small are order fits =
      let rest = losses_taken (next past (loses loss)) loss.caller (suc loss.call) losses (omega arith) (grind (arith, fits.0.place)) are order.1 fits.1 in
      grind (arith, pair, small, order, fits, are, rest)

  -- entries that are awaited, and some lines after them
  entries_taken : (past : Past) (entries : Entries) (turns : List Turn) (rest : List Line) → AllByRecursion (EntryFits config) entries
      → Awaits all past entries turns → ((now : Past) → Awaits all now [] turns → AreTaken now rest)
      → AreTaken past (map enters entries ++ rest)
  entries_taken past [] turns rest fits awaits then = then past awaits
  entries_taken past (e ∷ entries) turns rest fits awaits then =
      let one = entry_taken past e entries turns fits.0 awaits in
      let more = entries_taken (next past (enters e)) entries turns rest fits.1 one.1 then in
      ((fits.0.held, more.0), (one.0, more.1))

  -- turns that are awaited, and some lines after them
  pub turns_taken : (past : Past) (turns : List Turn) (rest : List Line) → AllByRecursion (TurnFits config) turns
      → Awaits all past [] turns → ((now : Past) → Awaits all now [] [] → AreTaken now rest)
      → AreTaken past (flat_map turn_told turns ++ rest)
  turns_taken past [] rest fits awaits then = then past awaits
  turns_taken past (turn ∷ turns) rest fits awaits then =
      let one = head_taken past turn turns fits.0 awaits in
      let later = flat_map turn_told turns ++ rest in
      let more = entries_taken (next past (begins turn.head)) turn.entries turns later fits.0.entries one.1
      (λ now behind. turns_taken now turns rest fits.1 behind then) in
      let both = subst (AreTaken (next past (begins turn.head))) (sym (append_assoc (map enters turn.entries) (flat_map turn_told turns) rest)) more in
      (((tt, (tt, (tt, (tt, (tt, tt))))), both.0), (one.0, both.1))
