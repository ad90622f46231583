-- The words that most proofs about primitives use.
pub use Rattle.std.proofs.Common.{Bool, Err, IfErr, IsTrue, List, None, Ok, Option, Ordering, Result, Some, [], ap, append_assoc, arith, bytes_eq, cond, drop, false, inl, inr, is_some, length, length-append, not, option_and_then, option_map, refl, subst, sym, take, true, ℕ, ◌++◌, ◌+◌, ◌-◌, ◌<◌, ◌^◌, ◌↔◌, ◌∙◌, ◌∷◌, ◌≡◌, ◌≢◌, ◌≤◌, ◌⊎◌}
pub use Rattle.camp_base.specs.Trees.{Adds, Files, Lines, Removes, Splices, SplicesLines}
pub use Rattle.camp_prim.specs.Applied.{AppliedIsApplies, InverseLeadsBack, applied, is_cut, is_empty_file, spliced}
pub use Rattle.camp_prim.specs.Effect.{Applies, InRange, Leads, flipped, inverse_of, inverted}
pub use Rattle.std.proofs.lemmas.Bool.{and_from, and_parts, cases_lt, cond-true, eq-eqb, eqb-true}
pub use Rattle.std.proofs.lemmas.Cmp.{nat_list_cmp_total, on_total, then_total}
pub use Rattle.std.proofs.lemmas.Option.{cond_some, none-some, same_Some}
pub use Rattle.std.proofs.lemmas.Slice.Eq.{bytes_eq-Decides, slice_eq-Decides}
pub use Rattle.std.specs.Cmp.{Equal-is, IsTotalOrder, bool_cmp_total, nat_cmp_total, tied_itself}
pub use Rattle.std.specs.Cmp.Lexicographic.{pointwise, slice_cmp}
pub use Rattle.std.specs.FinMap.{IsAntisymmetric, get, get-insert, get-remove, get_tied, insert, nat_cmp-IsAntisymmetric, remove, same_map, slice_cmp-IsAntisymmetric}
pub use Rattle.std.specs.Ordering.{bool_cmp, eq_by_cmp, is_eq, is_lt, nat_cmp, ordering_reverse, ordering_then}
pub use Rattle.std.specs.declared.cmp.Ordering.TheVariants.{Equal, Greater, Less}
pub use Rattle.camp_prim.specs.Hunks.{Edit, IsInRange}
pub use Rattle.camp_prim.specs.Labels.{SameKey, key_cmp, key_of, label_cmp, label_of, opposite}
pub use Rattle.camp_prim.specs.Laws.{BothCommuteAlike, Inverse, OwnInverse, SameEffect, SixOrders, Square, CommuteIsUnique, CommuteLaws}
pub use Rattle.camp_prim.specs.Commuting.{PrimitivesCommute, GapAllowsCommute, Commute, CommuteAnywhere, CommutesAbove, CommutesBelow, CommutesOnTwoPaths, at_line, path_of}
pub use Rattle.camp_prim.specs.declared.named.Named.{Named}
pub use Rattle.camp_prim.specs.declared.primitives.Primitive.{Primitive}
pub use Rattle.camp_prim.specs.declared.primitives.Primitive.TheVariants.{Add, Hunk, Remove}
pub use Rattle.camp_base.specs.Answers.{Answers, FindsPair}
pub use Rattle.camp_prim.specs.Inside.Targets.{CommutesInRange, IsTargetLine, moved, commuted_to_targets}
pub use Rattle.camp_prim.specs.declared.commuting.Targets.{Targets}
