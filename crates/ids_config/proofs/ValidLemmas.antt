-- A configuration without a fault of value is valid.
use Rattle.std.proofs.Common.{◌≡◌, ◌&&◌, ℕ, suc, List, [], ◌∷◌, Option, IfSome, Ok, length, arith}
use Rattle.std.proofs.lemmas.Bool.{leb-true}
use Rattle.std.specs.Prelude.{Result, nat_le}
use Rattle.std.specs.List.{AllByRecursion}
use Rattle.ids_types.specs.declared.class_spec.ClassSpec.{ClassSpec}
use Rattle.ids_config.specs.declared.fault.ConfigPlace.TheVariants as places
use Rattle.ids_config.specs.declared.parts.Window.{Window}
use Rattle.ids_config.specs.Parts.{Event, Parts}
use Rattle.ids_config.specs.{◌>>◌, in_range, capped, IsWithin, IsWindow, AreClasses, IsEvent, AreInternal, IsValid}
use Rattle.ids_config.specs.Values
use Rattle.ids_config.proofs.StepLemmas.{both_ok, asks_ok, asked, at_ok, in_range_ok, each_ok}

-- a number in its range, and searches after it without fault
ranged : {A : Type 0} (number low high n : ℕ) (next : Result A ℕ) (x : A)
    → in_range number low high n >> next ≡ Ok x → IsWithin low high n × (next ≡ Ok x)
ranged number low high n next x e = let (here, others) = both_ok _ _ _ e in (in_range_ok number low high n here, others)

-- a window without fault
window_ok : (fault least most : ℕ) (window : Option Window)
    → Values.window_value fault least most window ≡ Ok tt → IfSome window (IsWindow least most)
window_ok fault least most window e = grind (arith, e)

-- classes without fault
classes_ok : (index above : ℕ) (classes : List ClassSpec)
    → Values.each_class index above classes ≡ Ok tt → AreClasses above classes
classes_ok index above [] e = tt
classes_ok index above (class ∷ classes) e = grind (arith, e, classes_ok (suc index) class.size classes)

-- an event without fault
event_ok : (profile : ℕ) (event : Event)
    → Values.event_value profile event ≡ Ok tt → IsEvent profile event
unfolding Values.event_value
event_ok profile event e =
    let (id, others) = ranged 20 0 65535 event.id _ _ e in
    let (sensor, others) = ranged 21 0 63 event.sensor _ _ others in
    let (version, others) = ranged 26 0 (Values.most_version profile) event.version _ _ others in
    let (block, others) = asked 22 (nat_le (length event.block) 16 && Values.rises 0 event.block) _ _ others in
    let (nth, others) = ranged 23 1 65535 event.nth _ _ others in
    let (aggregate, threshold) = both_ok (Values.aggregate_value event.aggregate) _ _ others in
    grind (arith, id, sensor, version, block, nth, aggregate, window_ok 23 1 65535 event.threshold threshold)

-- internal events without fault
internal_ok : (config : Parts) → Values.internal_value config ≡ Ok tt → AreInternal config
internal_ok config e = let all = asks_ok 24 _ e in grind (arith, all)

-- a configuration without fault
pub parts_ok : (config : Parts) → Values.parts_value config ≡ Ok tt → IsValid config
unfolding Values.parts_value
parts_ok config e =
    let (numbers, others) = both_ok _ _ _ e in
    let (classes, others) = both_ok _ _ _ others in
    let (rate, others) = both_ok _ _ _ others in
    let (traffic, others) = both_ok _ _ _ others in
    let (events, internal) = both_ok _ _ _ others in
    let (profile, numbers) = ranged 25 1 2 config.profile _ _ (at_ok places.Top _ numbers) in
    let (instance, numbers) = ranged 9 0 1023 config.instance _ _ numbers in
    let (callers, numbers) = ranged 10 1 32 config.callers _ _ numbers in
    let (ring, numbers) = ranged 11 1 1024 config.ring _ _ numbers in
    let (memory, state) = ranged 12 0 256 config.memory _ _ numbers in
    let (few_classes, classes) = both_ok _ _ _ classes in
    let (count, events) = both_ok _ _ _ events in
    let each : AllByRecursion (IsEvent config.profile) config.events = each_ok (IsEvent config.profile) _ 0 config.events
    (λ i event found. event_ok config.profile event (at_ok (places.Event (capped i)) _ found)) events in
    assumption (
      in_range_ok 13 0 255 config.state state,
      leb-true (length config.classes) 4 (asks_ok 14 _ (at_ok places.Top _ few_classes)),
      classes_ok 0 0 config.classes classes,
      window_ok 18 0 4294967295 config.rate (at_ok places.Top _ rate),
      window_ok 18 0 4294967295 config.traffic (at_ok places.Top _ traffic),
      in_range_ok 19 1 256 (length config.events) (at_ok places.Top _ count),
      internal_ok config (at_ok places.Top _ internal),
    )
