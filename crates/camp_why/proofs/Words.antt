-- The words that most proofs of this crate use.
pub use Rattle.std.proofs.Common.{◌&&◌, ◌++◌, ◌+◌, ◌-◌, ◌<◌, ◌||◌, ◌∙◌, ◌∷◌, ◌≡◌, ◌≢◌, ◌≤◌, Bool, Err, List, None, Ok, Option, Result, Some, [], ap, append_assoc, arith, bytes_eq, cond, drop, false, length, length-append, nat_le, nat_lt, not, refl, rules, slice_get, subst, suc, sym, take, true, zero, ℕ}
pub use Rattle.std.proofs.lemmas.Bool.{and_parts, false≢true, ltb-false, ltb-true, not-false, not-true}
pub use Rattle.std.proofs.lemmas.List.{drop-drop, drop_all, drop_at, length-drop, length-take-le, take-append-drop}
pub use Rattle.std.proofs.lemmas.Option.{none-some, same_Some, slice_get_read, slice_get_past}
pub use Rattle.std.proofs.lemmas.Slice.Eq.{bytes_eq-Decides}
pub use Rattle.std.specs.FinMap.{get, insert}
pub use Rattle.std.specs.Option.{option_map_or}
pub use Rattle.camp_base.specs.Trees.{Files, Lines, SplicesLines}
pub use Rattle.camp_branch.specs.Laws.{AppliesEach}
pub use Rattle.camp_prim.proofs.Applied.{Applies-from_applied, applied-from_Applies}
pub use Rattle.camp_prim.specs.Applied.{applied}
pub use Rattle.camp_prim.specs.Effect.{Applies, InRange}
pub use Rattle.camp_prim.specs.Hunks.{Edit}
pub use Rattle.camp_prim.specs.Commuting.{path_of}
pub use Rattle.camp_prim.specs.declared.primitives.Primitive.{Primitive}
pub use Rattle.camp_prim.specs.declared.primitives.Primitive.TheVariants.{Add, Hunk, Remove}
pub use Rattle.camp_why.specs.Misfits.{IsMisfit, find_misfit, other_line}
pub use Rattle.camp_why.specs.declared.misfits.Misfit.{Misfit}
pub use Rattle.camp_why.specs.declared.misfits.Misfit.TheVariants.{EndsBefore, FileIsThere, HasLines, NoFile, OtherLine}
