use Rattle.cmd_steps.proofs.Names.{AreApart, List, MessageParts, Ok, Sources, [], apart_more, arith, clashes, drop, drop_all, drop_more, false, get_or, goes_on, instance_of, is_of, left_reading, length, list_any, map, read_none, rules, small_more, source_at, sources_in, stops_early, string_bytes, suc, zero, ℕ, ◌++◌, ◌+◌, ◌<◌, ◌∷◌, ◌≡◌}
use Rattle.ids_reporter.specs.declared.index.Instance.TheVariants.{One}
use Rattle.cmd_messages.proofs.reporting.read_sources.Goals as goal

-- ---- sources that do not clash

none_of : (sources : Sources) (i s : ℕ) → list_any (λ source. is_of i (instance_of source)) sources ≡ false
    → instance_of (source_at sources s) ≡ One i → ⊥
none_of [] i s none one = absurd (cc one)
none_of (source ∷ sources) i zero none one = grind (arith, none, one)
none_of (source ∷ sources) i (suc s) none one = none_of sources i s (grind (arith, none)) one

apart_with : (sources : Sources) (messages : List MessageParts) → AreApart sources
    → clashes sources (instance_of messages) ≡ false → AreApart (sources ++ messages ∷ [])
apart_with sources messages apart fits =
    apart_more sources messages apart (grind (arith, fits)) (λ s i one own. none_of sources i s (rw own at fits) one)

-- ---- names

-- the next of the names that are left
next_named : {A : Type 0} (f : A → List ℕ) (items : List A) (i : ℕ) (item : A) (name : List ℕ) → i < length items
    → item ≡ get_or items i item → name ≡ f item → map f (drop i items) ≡ name ∷ map f (drop (i + 1) items)
next_named f items i item name within at is = grind (arith, drop_more items i item within, at, is)

-- ---- the answers

pub returns-in_err-source-clause-reads : goal.returns-in_err-source-clause-reads
returns-in_err-source-clause-reads g c =
    let words = c.args.names.sources.now in
    let i = c.loop-name.name-index in
    let next = next_named string_bytes words i c.name-item.result c.as_str.result.now c.loop-name-test.true c.name-item.is c.as_str.ensures.value in
    let after = λ (own : List MessageParts). sources_in (c.loop-name.sources.items ++ own ∷ []) (map string_bytes (drop (i + 1) words)) in
    left_reading _ _ _ c.in_err-source.field-0.0 _ _ c.from_residual-in_err-source.ensures.1
    (c.loop-name.invariant.rest _ _ (rw next (stops_early _ after _ _ _ (rw c.deref.ensures.value at c.in_err-source.ensures.reads))))

pub loop-name-preserved : goal.loop-name-preserved
loop-name-preserved g c =
    let was = c.loop-name.invariant in
    let words = c.args.names.sources.now in
    let i = c.loop-name.name-index in
    let sources = c.loop-name.sources.items in
    let next = next_named string_bytes words i c.name-item.result c.as_str.result.now c.loop-name-test.true c.name-item.is c.as_str.ensures.value in
    let after = λ (own : List MessageParts). sources_in (sources ++ own ∷ []) (map string_bytes (drop (i + 1) words)) in
    let read = rw c.deref.ensures.value at c.in_ok-source.ensures.reads in
    let more = c.push_reserved.ensures.items in
    record {
      rest = λ answer new then. was.rest answer new (rw next (goes_on _ after _ _ _ _ read answer (rw more at then)));
      count = search rules;
      room = search rules;
      small = rw more (small_more sources c.in_ok-source.source was.small (omega (arith, c.in_ok-source.ensures.small)));
      apart = rw more (apart_with sources c.in_ok-source.source was.apart (rw c.deref.ensures.value at c.in_ok-source.ensures.fits));
      can = was.can;
    }

pub returns-clause-reads : goal.returns-clause-reads
returns-clause-reads g c =
    c.loop-name.invariant.rest (Ok c.loop-name.sources.items) (g.H.Shelf.shows c.loop-name.shelf)
    (rw (drop_all c.loop-name.name-index c.args.names.sources.now c.loop-name-test.false) (read_none _ _))
