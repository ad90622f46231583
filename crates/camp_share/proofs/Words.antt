-- The words that most proofs about lists and maps in parts use.
pub use Rattle.std.proofs.Common.{All, Bool, Bor, Equal, Err, Greater, IfErr, IfOk, IsTrue, Less, List, None, Ok, Option, Ordering, Result, Some, T, Vec, [], add-zero, ap, append-nil, append_assoc, arith, cond, drop, drop-drop, drop_at, false, get_or, get_or-append-add, get_or-drop, insert, is_eq, is_lt, length, length-append, length-drop, not, option_copied, refl, remove, rules, set, slice_get}
pub use Rattle.std.proofs.Common.{slice_range, subst, suc, sym, take, take-append-drop, take_all, true, true≢false, vec_len, zero, ℕ, ◌&&◌, ◌++◌, ◌+◌, ◌-◌, ◌<◌, ◌↔◌, ◌∙◌, ◌∷◌, ◌≡◌, ◌≤◌}
pub use Rattle.std.proofs.Math.Seq.{drop-append-add, take-append-add, take-nil}
-- where a search is slow, goals that only `grind` proves are given to `grind` directly
pub use Rattle.std.proofs.lemmas.Grind.{common_steps, elements, flat_map-append}
pub use Rattle.std.proofs.lemmas.List.{drop-append-le, drop_all, drop_more, get_or_append_left, get_or_default, set_split, take-append-le, take_more}
pub use Rattle.std.proofs.lemmas.List.Elements.{All-append, All-drop, All-tail, All-take, recursion_from_All}
pub use Rattle.std.proofs.lemmas.Result.{IfOk-weaker}
pub use Rattle.std.specs.Cmp.{IsTotalOrder, alike_right, eq_by_cmp_equiv, tied_back, tied_itself}
pub use Rattle.std.specs.Cmp.Lexicographic.{pointwise}
pub use Rattle.std.specs.FinMap.{IsAntisymmetric, empty_of_len, entries-from_sorted, entries-insert, entries_sorted, from_sorted, get-from_sorted, get-remove, get-retain_keys, get_tied, is_sorted, len-entries, same_entries_map, same_map}
pub use Rattle.std.specs.FinMap.Entries.{below_all, find, find-where_key, is_sorted-put, is_sorted-where_key, put, where_key}
pub use Rattle.std.specs.Map.Iter.{TakesFirst, deref}
pub use Rattle.std.specs.Ordering.{eq_by_cmp, ordering_index, ordering_reverse}
pub use Rattle.std_collections.proofs.IterRuns.{shows_in_order}
pub use Rattle.camp_share.specs.Inside.Parts.{IsPart, IsPlace, joined, offset}
pub use Rattle.camp_share.specs.Inside.Places.{IsAbove, IsAt, WouldBeAt}
pub use Rattle.camp_share.specs.Maps.{map_of}
