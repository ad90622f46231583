-- The words that most proofs about patches in context use.
pub use Rattle.std.proofs.Common.{Bool, Contains, Less, List, MatchOption, None, Option, Ordering, Some, T, [], ap, append_assoc, arith, cond, drop, false, filter, fold, get_or, inl, inr, is_eq, is_lt, length, map, nat_cmp, option_map, refl, rules, slice_get, subst, suc, sym, take, take_all, tests, true, unwrap_or, zero, ℕ, ◌&&◌, ◌++◌, ◌+◌, ◌-◌, ◌<◌, ◌∙◌, ◌∷◌, ◌≡◌, ◌≤◌, ◌⊎◌}
pub use Rattle.std.proofs.lemmas.List.{drop_more, length-map, nil_from_length, same_lists, take_more, take_rest}
pub use Rattle.std.proofs.lemmas.Option.{none-some, same_Some, get_or_from_slice_get, slice_get-map, slice_get_cases, slice_get_within, unwrap_or-slice_get}
pub use Rattle.std.specs.Cmp.{Equal-is, IsTotalOrder, nat_cmp_total, tied_itself}
pub use Rattle.std.specs.FinMap.{IsAntisymmetric, contains_key, empty, entries, entries-insert, entries_sorted, from_sorted, get, get-empty, get-entries, get-from_sorted, get-insert, get-remove, insert, is_sorted, len, len-empty, len-entries, nat_cmp-IsAntisymmetric, remove, same_entries_map, same_map, slice_cmp-IsAntisymmetric}
pub use Rattle.std.specs.FinMap.Entries.{below_all, find, find-append, put}
pub use Rattle.std.specs.Ordering.{eq_by_cmp}
pub use Rattle.camp_base.specs.Trees.{Files, Lines}
pub use Rattle.camp_prim.proofs.Inverses.{inverse_of-inverse_of, leads_back}
pub use Rattle.camp_prim.proofs.LabelOrder.{key_ties, key_total, label_ties, label_total}
pub use Rattle.camp_prim.proofs.CommuteDecided.{Decided, decided_by, same_or_not, swap_or_not}
pub use Rattle.camp_prim.proofs.CommuteUnique.{same_hunk, same_named, swap_unique}
pub use Rattle.camp_prim.specs.Effect.{Applies, inverse_of}
pub use Rattle.camp_prim.specs.Labels.{key_cmp, key_of, label_cmp, label_of, opposite}
pub use Rattle.camp_prim.specs.Commuting.{Commute}
pub use Rattle.camp_prim.specs.declared.labels.Key.{Key}
pub use Rattle.camp_prim.specs.declared.labels.Label.{Label}
pub use Rattle.camp_prim.specs.declared.named.Named.{Named}
pub use Rattle.camp_seq.proofs.ListResults.{one_clean_merge, one_front, one_order, one_pass, one_split}
pub use Rattle.camp_seq.proofs.ListsDecided.{TwoOrNone, clean_merge_or_not, passes_or_not, splits_or_not}
pub use Rattle.camp_seq.proofs.MergeGrid.{merge_is_symmetric, passes_row}
pub use Rattle.camp_seq.proofs.OwnOrders.{chain_is_ordered, front_of_chain}
pub use Rattle.camp_seq.specs.Merging.{CleanMerge}
pub use Rattle.camp_seq.specs.NormalOrder.{Norm, Splits}
pub use Rattle.camp_seq.specs.Passing.{Fronts, Parts, Passes}
pub use Rattle.camp_seq.specs.Running.{AppliesAll}
pub use Rattle.camp_share.specs.Maps.{map_of}
pub use Rattle.camp_ctx.specs.Adding.{AddsToContext, AddsAll, Cancels, FromLast, HasNoResult, Keeps, PassesBy, PassesByAll, cancel, commute, keep}
pub use Rattle.camp_ctx.specs.Conflicts.{Conflict, MergesCleanlyAfterCommon, common_labels, has_label}
pub use Rattle.camp_ctx.specs.Contexts.{AreKeyed, ChangesAt, ContextedPatch, ContextedPatches, EachMember, Valid, context_key, only, patch_key, whole, with_member}
pub use Rattle.camp_ctx.specs.Inside.Links.{Links}
pub use Rattle.camp_ctx.specs.Laws.{AlwaysHasResult, HasAtMostOneResult, KeepsMembersValid, KeepsValid}
