-- What is told of moments, the lines of a turn by that, and the accounts; with the names that the proofs stand on.
pub use Rattle.chain_plain.specs.{CanTake, RiseFrom, IsReady, turn_with}
pub use Rattle.chain_spec.specs.{account_by, account_of, all_steps, number_at, place_of, since_given, by_window, ends_at, Ending, Item, is_stored, endings, is_of, Moment, ending_at, act_moment, with_all, turn_moments, moments}
pub use Rattle.event_chain.specs.{bare, ending_of, StandsWatched}
pub use Rattle.ids_config.specs.Parts.{Parts, event_at, plain_event}
pub use Rattle.ids_types.specs.{Turn, turn_at, entries_of, plain_entry}
pub use Rattle.ids_types.specs.declared.entry.Act.TheVariants.{State}
pub use Rattle.ids_types.specs.declared.entry.Entry.{Entry}
pub use Rattle.ids_types.specs.declared.entry.Act.{Act}
pub use Rattle.std.proofs.Common.{◌≡◌, ℕ, suc, ◌+◌, ◌≤◌, ◌<◌, ◌==◌, Bool, not, List, [], ◌∷◌, ◌++◌, length, map, filter, reverse, take, if◌then◌else◌, refl, sym, ◌∙◌, arith, rules, ◌-◌, drop, Option, is_some, option_to_list, ap, append_assoc, get_or, subst, flat_map, inl, inr}
pub use Rattle.std.proofs.lemmas.Bool.{cases_Bool, cases_lt}
pub use Rattle.std.proofs.lemmas.Grind.{common_steps, elements}
pub use Rattle.std.proofs.lemmas.List.{length-map, reverse-reverse, length-take-le, drop-map, drop_at, map-append, take-map, take_at, reverse-append, append-nil, take_all, get_or-replicate, map_more, get_or_default, drop_all, drop_more, map_push, length-take, get_or_past, take_more, flat_map_more}
pub use Rattle.std.specs.List.{All, AllByRecursion, range_with_len}
pub use Rattle.text_spec.proofs.WordsLemmas.{text_of-append, one_more, text_of-map}
pub use Rattle.text_spec.specs.{text_of, line_feed, enters, line_for, loses, begins}
pub use Rattle.chain_endings.specs.{AreOf, CountsMissing, IsAtMost, nothing, kept_at, with_ending, is_missing, told_in, ended_fields, entry_lines, opening, endings_along, entry_moments, is_report, turn_endings, turns_lines, Hears, turn_lines, given_line, account_line}
pub use Rattle.filter_chain.specs.{last_tick, IsShort}
use native.Mathlib.Numerals.{unary_clauses}
use Rattle.std.proofs.lemmas.List.Elements.{filter-append}
use Rattle.std.proofs.lemmas.List.Sums.{count_by-le-length, length-filter}
use Rattle.std.specs.Prelude.{slice_index_or, slice_set}
use Rattle.chain_spec.specs.declared.fate.Fate.{Fate}
use Rattle.chain_spec.specs.declared.fate.Fate.TheVariants.{AtMode}
use Rattle.chain_spec.specs.declared.account.Account.{Account}

-- with all moments that come
told_with : (config : Parts) (before rest : List Moment)
    → told_in config (with_all before rest) ≡ told_in config before ++ map bare (endings_along config before rest)
told_with config before [] = sym (append-nil (told_in config before))
told_with config before (moment ∷ rest) = grind (arith, common_steps, told_with config (moment ∷ before) rest)

-- in two parts
pub along_append : (config : Parts) (before first rest : List Moment)
    → endings_along config before (first ++ rest)
    ≡ endings_along config before first ++ endings_along config (with_all before first) rest
along_append config before [] rest = refl
along_append config before (moment ∷ first) rest = grind (arith, append_assoc, along_append config (moment ∷ before) first rest)

-- what was heard before is no longer than what is heard after a turn, and what follows it there is what came in the turn
pub heard_since : {A : Type 0} (f : A → Ending) (config : Parts) (before : List Moment) (turn : Turn) (old new : List A)
    → map f old ≡ told_in config before → map f new ≡ told_in config (with_all before (turn_moments config turn))
    → (length old ≤ length new) × (map f (drop (length old) new) ≡ map bare (turn_endings config before turn))
heard_since f config before turn old new was is =
    let own = map bare (turn_endings config before turn) in
    let all : map f new ≡ map f old ++ own = is ∙ told_with config before (turn_moments config turn) ∙ ap (λ told. told ++ own) (sym was) in
    grind (arith, common_steps, all, ap length all, drop-map f (length old) new, drop_at (map f old) own (length old), length-map old f, length-map new f)

-- ---- the lines of a turn, by the endings that are told of it

-- as many endings as reports
reports_end : (config : Parts) (tick : ℕ) (before : List Moment) (entries : List (Entry (List ℕ)))
    → length (endings_along config before (entry_moments tick entries)) ≡ length (filter (λ entry. is_report entry.act) entries)
reports_end config tick before [] = refl
reports_end config tick before (entry ∷ entries) =
    grind (arith, common_steps, reports_end config tick (act_moment tick entry.act ∷ before) entries)

-- what is printed of a turn's entries, and the lines and endings that are left, are all
pub record Left (config : Parts) (tick : ℕ) (entries : List (Entry (List ℕ))) (told : List Ending) (out all : List ℕ) : Type 0 where
  pub now : List Moment
  pub endings_left : told ≡ map bare (endings_along config now (entry_moments tick entries))
  pub text_left : out ++ text_of (entry_lines config tick now entries) ≡ all

-- one entry more was printed
pub left_next : {config : Parts} {tick : ℕ} {entry : Entry (List ℕ)} {entries : List (Entry (List ℕ))} {told rest : List Ending}
    {out new all : List ℕ} → Left config tick (entry ∷ entries) told out all
    → ((ended : Option Ending) (more : List Ending) → is_some ended ≡ is_report entry.act
    → told ≡ map bare (option_to_list ended) ++ more
    → (rest ≡ more) × (new ≡ out ++ ((line_for (enters entry) ++ ended_fields config ended) ++ line_feed ∷ [])))
    → Left config tick entries rest new all
left_next {config} {tick} {entry} {entries} left step =
    let moment = act_moment tick entry.act in
    let ended = ending_at config left.now moment in
    let both = step ended _ (grind arith) (left.endings_left ∙ map-append bare (option_to_list ended) _) in
    record { now = moment ∷ left.now; endings_left = both.0; text_left = grind (arith, common_steps, left.text_left, both.1) }

-- the endings of a turn in two parts: before its entries, and of its reports
pub turn_parts : {A : Type 0} (f : A → Ending) (config : Parts) (before : List Moment) (turn : Turn) (told : List A) (reports : ℕ)
    → map f told ≡ map bare (turn_endings config before turn)
    → reports ≡ length (filter (λ entry. is_report entry.act) turn.entries)
    → let opens = opening config turn in
    (map f (take (length told - reports) told) ≡ map bare (endings_along config before opens))
    × (map f (drop (length told - reports) told) ≡ map bare (endings_along config (with_all before opens) (entry_moments turn.head.tick turn.entries)))
turn_parts f config before turn told reports is count =
    let opens = opening config turn in
    let first = map bare (endings_along config before opens) in
    let own = endings_along config (with_all before opens) (entry_moments turn.head.tick turn.entries) in
    let n = length told - reports in
    let all : map f told ≡ first ++ map bare own = is ∙ ap (map bare) (along_append config before opens (entry_moments turn.head.tick turn.entries)) ∙ map-append bare _ own in
    let ends = reports_end config turn.head.tick (with_all before opens) turn.entries in
    let at : length first ≡ n = grind (arith, common_steps, count, ends, ap length all, length-map told f) in
    rw (← take-map f n told, ← drop-map f n told, all) (take_at first (map bare own) n at, drop_at first (map bare own) n at)

-- ---- the endings of one event

-- what is not told of endings decides nothing
filter_bare : (test : Ending → Bool) (es : List Ending) → filter test (map bare es) ≡ map bare (filter (λ e. test (bare e)) es)
filter_bare test [] = refl
filter_bare test (e ∷ es) = grind (arith, filter_bare test es)

since_bare : (es : List Ending) → since_given (map bare es) ≡ map bare (since_given es)
since_bare [] = refl
since_bare (e ∷ es) = grind (arith, since_bare es)

-- so the account of an event is that of all that is told
pub told_account : (config : Parts) (k : ℕ) (moments : List Moment) {told : List Ending} → told ≡ told_in config moments
    → account_by config (filter (λ one. is_of k one.item) (reverse told)) ≡ account_of config k moments
told_account config k moments is = rw (is, reverse-reverse) (simp (filter_bare, since_bare, length-map))

-- ---- the accounts of all events

-- no more elements pass than there are
pub filter_few : {A : Type 0} (p : A → Bool) (xs : List A) → length (filter p xs) ≤ length xs
filter_few p xs = rw length-filter (count_by-le-length p xs)

-- one more at its step
counted_more : (fate : Fate) (told : List Ending) (item : Item) (first : Fate)
    → map (λ step. number_at step (record { item = item; first = first; fate = fate } ∷ told)) all_steps
    ≡ slice_set (map (λ step. number_at step told) all_steps) (place_of fate) (number_at fate told + 1)
counted_more AtMode told item first = simp unary_clauses refl
counted_more _ told item first = simp unary_clauses refl

-- the account with an ending more
account_more : (config : Parts) (e : Ending) (es : List Ending)
    → account_by config (e ∷ es) ≡ with_ending (is_stored config e) e (account_by config es)
account_more config e es = rw (counted_more e.fate es e.item e.first) (grind arith)

-- one number grows by one, and none is more than one above the greatest before
one_counted : (numbers : List ℕ) (n place : ℕ) → ((k : ℕ) → slice_index_or numbers k 0 ≤ n)
    → (k : ℕ) → slice_index_or (slice_set numbers place (slice_index_or numbers place 0 + 1)) k 0 ≤ n + 1
one_counted numbers n place few k = grind (arith, common_steps, few k, few place)

-- so with an ending more
pub at_most_more : (n : ℕ) (stored : Bool) (e : Ending) (account : Account) → IsAtMost n account → IsAtMost (n + 1) (with_ending stored e account)
at_most_more n stored e account most =
    grind (arith, most, one_counted account.ended n (place_of e.fate) most.ended)

-- with one ending more
pub accounts_more : {config : Parts} {old new : List Account} {es : List Ending} (e : Ending) (stored : Bool) → stored ≡ is_stored config e
    → length new ≡ length old
    → ((k : ℕ) → k < length old → kept_at new k ≡ (if e.item.event == k then with_ending stored e (kept_at old k) else kept_at old k))
    → AreOf config es old → AreOf config (e ∷ es) new
accounts_more {config} {old} {new} {es} e stored is count each of = record {
  events = count ∙ of.events;
  each = λ k less.
      let there : k < length old = omega (arith, less, count) in
      let was = of.each k there in
      rw (each k there, is) (elim (cases_Bool (e.item.event == k)) [
        | inl own ↦ rw (own, was) (sym (account_more config e (filter (λ (one : Ending). is_of k one.item) es)))
        | inr other ↦ rw other was
      ]);
}

-- one piece more of those that are put, and the others are left
pub pieces_left : {A : Type 0} (f : A → List ℕ) (xs : List A) (i : ℕ) (d : A) (out : List ℕ) {new all : List ℕ} → i < length xs
    → out ++ flat_map f (drop i xs) ≡ all → new ≡ out ++ f (get_or xs i d) → new ++ flat_map f (drop (i + 1) xs) ≡ all
pieces_left f xs i d out less was is = grind (arith, append_assoc, was, is, drop_more xs i d less)

-- ---- context data that are missing

-- some of all entries are counted, and these are left
pub record Counted (events : ℕ) (all left : List (Entry (List ℕ))) (missing : List ℕ) : Type 0 where
  pub done : List (Entry (List ℕ))
  pub whole : done ++ left ≡ all
  pub counts : CountsMissing done missing
  pub count : length missing ≡ events

-- no number is above that of all entries
pub count_few : {events : ℕ} {all left : List (Entry (List ℕ))} {missing : List ℕ} (entry : Entry (List ℕ))
    → Counted events all (entry ∷ left) missing → (k : ℕ) → k < length missing → slice_index_or missing k 0 < length all
count_few entry was k less =
    grind (arith, common_steps, was.counts k less, filter_few (λ (e : Entry (List ℕ)). is_missing k e.act) was.done, ap length was.whole)

-- with one entry more
pub count_next : {events : ℕ} {all left : List (Entry (List ℕ))} {old new : List ℕ} (entry : Entry (List ℕ)) → length new ≡ length old
    → ((k : ℕ) → k < length old → slice_index_or new k 0
    ≡ (if is_missing k entry.act then slice_index_or old k 0 + 1 else slice_index_or old k 0))
    → Counted events all (entry ∷ left) old → Counted events all left new
count_next entry count each was = record {
  done = was.done ++ entry ∷ [];
  whole = grind (arith, common_steps, was.whole);
  counts = λ k less. grind (arith, common_steps, count, each k, was.counts k, filter-append (λ (e : Entry (List ℕ)). is_missing k e.act) was.done (entry ∷ []));
  count = count ∙ was.count;
}
