-- The words that most proofs of this crate use.
pub use Rattle.std.proofs.Common.{Bool, Err, List, None, Ok, Option, Result, Some, T, [], ap, append_assoc, append-nil, arith, bytes_eq, cond, drop, false, get_or, inl, inr, is_some, length, map, not, refl, rules, subst, suc, sym, take, true, true≢false, zero, ℕ, ◌&&◌, ◌++◌, ◌+◌, ◌-◌, ◌/◌, ◌<◌, ◌==◌, ◌||◌, ◌∙◌, ◌∷◌, ◌≡◌, ◌≢◌, ◌≤◌, ◌⊎◌, Ordering, Less, Equal, Greater, nat_cmp}
pub use Rattle.camp_share.specs.Maps.{map_of}
pub use Rattle.std.proofs.lemmas.Option.{none-some, same_Some}
pub use Rattle.std.proofs.lemmas.Slice.Eq.{bytes_eq-Decides}
pub use Rattle.std.proofs.lemmas.Cmp.{nat_list_cmp_total}
pub use Rattle.std.specs.Cmp.Lexicographic.{slice_cmp}
pub use Rattle.std.specs.FinMap.{contains_key, contains_key-keys, entries, entries_sorted, get}
pub use Rattle.std.specs.List.{list_any, slice_get}
pub use Rattle.std.specs.Ordering.{eq_by_cmp, is_lt, ordering_then}
pub use Rattle.camp_base.specs.Trees.{Files, Lines}
