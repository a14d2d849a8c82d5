use Rattle.idsm_c.proofs.Names.{append_assoc, drop-set, length_push, length-map, length-set, map-append, map-set, Handle, ◌<◌, ◌≡◌, ◌∙◌, ◌∷◌, [], ap, arith, length, rules, Some, Global, IsFit, contents_of, roles_in, All-pop, Role}
use Rattle.std.specs.declared.boxed.Box.{Box}
use Rattle.idsm_c.proofs.making.put_all.Goals as goal

pub put-requires : goal.put-requires
put-requires c =
    let rest = c.pop.new.self.items in
    let roles = ap roles_in c.in-Some.ensures.items ∙ map-append (λ (box : Box Role Global). box.value) rest (c.in-Some.role ∷ []) in
    (All-pop IsFit (roles_in c.loop-role.roles.items) (roles_in rest) (Some c.in-Some.role.value) roles c.loop-role.invariant.2).1

pub loop-role-preserved : goal.loop-role-preserved
loop-role-preserved c =
    let rest = c.pop.new.self.items in
    let role = c.in-Some.role in
    let old = c.loop-role.handles in
    let long = ap length c.in-Some.ensures.items ∙ length_push rest role in
    let roles = ap roles_in c.in-Some.ensures.items ∙ map-append (λ (box : Box Role Global). box.value) rest (role ∷ []) in
    let was = simp (map-append, append_assoc) at (rw (roles, long) at c.loop-role.invariant.0) in
    let low : length rest < length old = omega (arith, long, c.loop-role.invariant.1) in
    let many : c.len.result ≡ length rest = search rules in
    rw (many, map-set (λ (h : Handle). h.content) old (length rest) c.put.new.self, c.put.ensures, drop-set (contents_of old) (length rest) (Some role.value) (rw length-map low)) (
      was,
      simp length-set (omega (arith, low)),
      (All-pop IsFit (roles_in c.loop-role.roles.items) (roles_in rest) (Some role.value) roles c.loop-role.invariant.2).0,
    )
