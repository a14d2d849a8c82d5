-- The names of other crates and of this crate's specs that more than one of its proofs stands on.
pub use Rattle.cmd_files.specs.Names.{Append, Err, Files, IsTrue, List, MemoryRefused, Ok, Result, SameFiles, Shelved, Some, WriteFault, [], length, map, take, ℕ, ⊤, ◌++◌, ◌∷◌, ◌≡◌, ◌≤◌, ◌⊎◌}
pub use Rattle.cmd_files.specs.Writing.{Adds, AreUntouched, CanWrite, Cuts, IsNoneOf, Output, SameBut, StandUpTo, WriteFails, Writes, names_of, output_of}
pub use Rattle.ids_outside.specs.{WriteCause, AppendMakes, Changes}
pub use Rattle.std.proofs.Common.{ap, arith, drop, inl, inr, refl, subst, sym, ◌+◌, ◌-◌, ◌∙◌}
pub use Rattle.std.proofs.lemmas.Grind.{common_steps}
pub use Rattle.std.proofs.lemmas.List.{drop_more, length-take, take-take}
pub use Rattle.std.specs.Result.{IsErrAnd}
