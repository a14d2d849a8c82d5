use Rattle.idsm_c.proofs.Names.{get_or-map, length-map, Handle, is_some, ◌<◌, ◌∙◌, arith, length, refl, sym, Option, contents_of}
use Rattle.std.proofs.Math.Seq.{map-set_same}
use Rattle.std.proofs.lemmas.List.Folds.{list_any_at, list_any_more}
use Rattle.idsm_api.specs.declared.role.Role.{Role}
use Rattle.idsm_c.proofs.making.is_any_taken.Goals as goal

pub returns-then-has_any : goal.returns-then-has_any
returns-then-has_any c =
    let old = c.loop-i.handles in
    let i = c.loop-i.i in
    let d = c.index-handles-i.result in
    let low : i < length old = omega arith in
    let any = list_any_at (λ (c : Option Role). is_some c) (contents_of old) i d.content (rw length-map low)
    (rw (get_or-map (λ (h : Handle). h.content) old i d d.content low, ← c.has_any.ensures.told) c.if-has_any.true) in
    record { told = rw (← c.loop-i.invariant.0) (sym any); same = map-set_same (λ (h : Handle). h.content) old i c.has_any.new.self d c.has_any.ensures.same ∙ c.loop-i.invariant.0 }

pub loop-i-preserved : goal.loop-i-preserved
loop-i-preserved c =
    let old = c.loop-i.handles in
    let i = c.loop-i.i in
    let d = c.index-handles-i.result in
    let low : i < length old = omega arith in
    let same = map-set_same (λ (h : Handle). h.content) old i c.has_any.new.self d c.has_any.ensures.same in
    let more = list_any_more (λ (c : Option Role). is_some c) (contents_of old) i d.content (rw length-map low) in
    (same ∙ c.loop-i.invariant.0, rw (same, more, c.loop-i.invariant.1, get_or-map (λ (h : Handle). h.content) old i d d.content low, ← c.has_any.ensures.told, c.if-has_any.false) refl)
