-- The names of other crates and of this crate's specs that more than one of its proofs stands on.
pub use Rattle.core.proofs.alloc.Calls.{Goes-blank, handle_tells, Al}
pub use Rattle.core.proofs.alloc.Shapes.{after}
pub use Rattle.core.proofs.atomic.Steps.{fm}
pub use Rattle.core.proofs.cell.Inside.{Good, one}
pub use Rattle.idsm_c.specs.Held.{held}
pub use Rattle.idsm_c.specs.Making.{caller_roles, contents_of, is_taken, roles_in}
pub use Rattle.idsm_c.specs.declared.handle.Handle.{Handle}
pub use Rattle.idsm_c.specs.declared.making.Roles.{Roles}
pub use Rattle.idsm_api.specs.Handled.{IsFit}
pub use Rattle.std.proofs.Common.{List, [], ap, arith, false, length, lit<, refl, rules, subst, sym, take, ℕ, ◌++◌, ◌+◌, ◌∙◌, ◌∷◌, ◌≡◌, ◌≤◌, zero, suc, vec_len, vec_capacity, ◌<◌}
pub use Rattle.std.proofs.raw_atomic.Walks.{leaves, proved_at, proved}
pub use Rattle.std.specs.List.{All}
pub use Rattle.std.specs.Prelude.{None, Option, Some, Result, Ok, Err, IfSome, is_some}
pub use Rattle.std.specs.declared.alloc.Global.{Global}
pub use Rattle.std_alloc.proofs.BoxSteps.Steps.{box_in, box_out}
pub use Rattle.std_alloc.proofs.ResultValues.{and_tt}
pub use Rattle.std_alloc.specs.Box.Ownership.{box_owns}
pub use base.Fml.{flft, ftrue, fsep}
pub use base.Fraction.{full_share}
pub use base.Logic.{SProp, emp, ent, fst∗, id⊢, never, guard_i, snd∗, via}
pub use contract.Monad.{fact, fact_i, fact_use}
pub use contract.Running.{tables}
pub use denote.Builtin.{RawPtr, unit}
pub use denote.Exit.{no}
pub use denote.Memory.{lone}
pub use denote.Param.{bounded, layout, param}
pub use denote.Param.Laws.{param_laws, Laws}
pub use denote.RattleType.{RattleType, owns, Valss}
pub use denote.RawPtr.{Ptr, block_ptr, in_a_block, null_ptr, ptr_val, lies_at, Testable, tests_null}
pub use denote.Signature.{plain, types_at, Slot, type_at}
pub use denote.Steps.{heard, nothing, only}
pub use denote.Struct.Owning.{shape, fields, to}
pub use denote.Triple.Entry.{alive}
pub use denote.Triple.Spec.{triple_of}
pub use denote.Triple.Walked.{Stays, stay_dropped, walk_of, Goes-dropped}
pub use mir.MapTy.{inst_fn}
pub use mir.Syntax.{a_type, dcons, dnil, impl, tnil}
pub use mir.Val.{Val, of_list, vcons, vnil, vptr, vstruct, has_ty, WT}
pub use prog.Wp.{WpFn}
pub use types.ByLocal.{alloc_all, env, free_all, get, get_in, look_at, pass_all, sets, lands_last, lands_as, sets_last}
pub use types.Kit.{ !, at_ret, await, by, feq_i, feq_l, fjoin, fpick, fsplit, join, keep, later, move, pick, qed, rewrite, some, split, split3, suffices, use0, use1, ‵, ◌$◌, ◌∵◌, ◌⊛◌, given, learn, Item, Goal, Seq, Step, step, drop, fpack, raw}
pub use types.Logic.{sem, Logic}
pub use types.Part.{agg, sub, whole}
pub use types.Run.{and_then, enter, exec, first, fld, lit, no_more, of_opd, returns, stop, blocks, bin, branches}
pub use Rattle.idsm_api.specs.declared.role.Role.{Role}
pub use Rattle.std.proofs.lemmas.List.{append_assoc, drop-replicate, drop-set, get_or-map, length_push, length-map, length-set, map-append, map-set}
pub use Rattle.std.proofs.lemmas.List.Elements.{All-map, All-pop}
pub use Rattle.std.specs.contracts.impls.GlobalAllocator.TheImpl.{ghosts}
pub use denote.Struct.Struct.{within, exits_of}
pub use denote.Triple.Call.{calls_at_last, calls_at}
pub use mir.Raw.{raw as bare}
