-- The words that most proofs about catches use.
pub use Rattle.std.proofs.Common.{Bool, Contains, IfOk, IsTrue, List, None, Option, Result, Some, [], ap, append-nil, arith, cond, drop, eqb-true, false, get_or, inl, inr, is_some, length, map, not, refl, rules, set, slice_index_or, subst, suc, sym, take, tests, true, ℕ, ◌&&◌, ◌++◌, ◌+◌, ◌-◌, ◌<◌, ◌==◌, ◌↔◌, ◌∙◌, ◌∷◌, ◌≡◌, ◌≢◌, ◌≤◌, ◌⊎◌}
pub use Rattle.std.proofs.lemmas.List.{append_assoc, drop-set, drop_all, drop_at, drop_more, get_or-set_same, length-append, length-take-le, length_push, map-append, nil_from_length, take-append-drop, take_all, take_at, take_more_set, take_rest, with_items_is}
pub use Rattle.std.proofs.lemmas.Option.{same_Some}
pub use Rattle.std.proofs.lemmas.Result.{IfOk-weaker}
pub use Rattle.std.specs.Cmp.Lexicographic.{slice_cmp}
pub use Rattle.std.specs.FinMap.{FinMap, contains_key, contains_key-keys, empty, empty_of_len, entries, get, get-empty, get-insert, get-remove, insert, keys, len, len-empty, len-insert, nat_cmp-IsAntisymmetric, remove, slice_cmp-IsAntisymmetric}
pub use Rattle.std.specs.Ordering.{eq_by_cmp, nat_cmp}
pub use Rattle.camp_share.specs.Maps.{map_of}
pub use Rattle.camp_base.specs.Answers.{FindsPair}
pub use Rattle.camp_base.specs.Trees.{Files}
pub use Rattle.camp_prim.proofs.Applied.{applies_once}
pub use Rattle.camp_prim.proofs.Inverses.{inverse_of-inverse_of, leads_back}
pub use Rattle.camp_prim.proofs.LabelOrder.{key_total}
pub use Rattle.camp_prim.proofs.Moving.{told_not}
pub use Rattle.camp_prim.proofs.CommuteDecided.{Decided, decided_by, le_or_not, swap_or_not}
pub use Rattle.camp_prim.proofs.CommuteUnique.{swap_unique}
pub use Rattle.camp_prim.specs.Effect.{Applies, inverse_of}
pub use Rattle.camp_prim.specs.Labels.{key_cmp, key_of, label_of}
pub use Rattle.camp_prim.specs.Commuting.{Commute}
pub use Rattle.camp_prim.specs.declared.labels.Key.{Key}
pub use Rattle.camp_prim.specs.declared.named.Named.{Named}
pub use Rattle.camp_seq.proofs.ListEquivalence.{after_one, all_passed, before, behind, equal_are, fronted, joined, ordered, passed, split, swapped}
pub use Rattle.camp_seq.proofs.ListResults.{one_front, one_order, one_pass, one_pass_of_all, one_split}
pub use Rattle.camp_seq.proofs.ListRuns.{cut_run, equivalent_run, joined_runs, runs_back}
pub use Rattle.camp_seq.proofs.ListSteps.{at_last, at_next, drop_next, take_last, turned_right, whole}
pub use Rattle.camp_seq.proofs.ListsDecided.{all_pass_or_not, among_or_not, passes_or_not, splits_or_not}
pub use Rattle.camp_seq.proofs.MergeGrid.{cell_is_symmetric, merge_closes, passes_row, row_passes}
pub use Rattle.camp_seq.proofs.PassingSteps.{one_precedes, passes_push, precedes_back}
pub use Rattle.camp_seq.proofs.RoomSteps.{room_before, room_behind, room_of_equivalent}
pub use Rattle.camp_seq.specs.Equivalence.{backwards, through, ◌~◌}
pub use Rattle.camp_seq.specs.Inside.InPlace.{CommutesBeforeAll}
pub use Rattle.camp_seq.specs.Merging.{Merges, MergesOne}
pub use Rattle.camp_seq.specs.NormalOrder.{Norm, Splits}
pub use Rattle.camp_seq.specs.Passing.{Fronts, Passes, PassesAll}
pub use Rattle.camp_seq.specs.Room.{HasRoom}
pub use Rattle.camp_seq.specs.Running.{AppliesAll, inverse_all}
pub use Rattle.camp_ctx.proofs.AddResults.{add_exists, add_of_all_exists, front_as_or_not, one_add, one_add_of_all, one_passing_by, one_passing_of_all, passing_by_or_not, same_in_context, same_key_of_sum}
pub use Rattle.camp_ctx.proofs.AddValid.{run_along, valid_by_adding, valid_by_adding_all, valid_by_passing, valid_by_passing_all}
pub use Rattle.camp_ctx.proofs.ConflictLaws.{conflict_is_symmetric, merge_behind_is_symmetric, one_merge_behind}
pub use Rattle.camp_ctx.proofs.ContextsDecided.{conflict_or_not, contexts_or_not, in_context_or_not, keys_or_not, list_passes_by_or_not, lists_or_not, merge_behind_or_not, only_or_not, same_alone}
pub use Rattle.camp_ctx.proofs.NamedDecided.{both_or_not, bytes_or_not, named_or_not}
pub use Rattle.camp_ctx.proofs.SetChanges.{members_change, members_valid, one_change_of_members}
pub use Rattle.camp_ctx.specs.Adding.{AddsToContext, AddsAll, PassesBy, PassesByAll}
pub use Rattle.camp_ctx.specs.Conflicts.{Conflict, MergesCleanlyAfterCommon, common_labels}
pub use Rattle.camp_ctx.specs.Contexts.{AreValid, ContextedPatch, ContextedPatches, EachMember, Valid, bare, context_key, only, patch_key, with_member}
pub use Rattle.camp_ctx.specs.Laws.{AlwaysHasResult, HasAtMostOneResult, KeepsValid}
pub use Rattle.camp_catch.specs.Arranging.{Align, AlignIsBlocked, Arrange, ArrangeIsBlocked, ArrangesAfter, CatchCommutesBeforeAll, CatchMovesToFront, DoNotCommute, IsOf, IsBlockedAfter, IsBlockedByKey}
pub use Rattle.camp_catch.specs.Cases.{CasesExclude, MergeCasesExclude}
pub use Rattle.camp_catch.specs.Catches.{Fits, FitsAll, IsSeenFrom, catch_key}
pub use Rattle.camp_catch.specs.Commuting.{BothPlain, CommuteCatch, CommuteConflictors, CommutePlainConflictor, ConflictDissolves, ConflictorPastPlain, EffectsPass, OneOfSeveralConflicts, OnlyConflictGoes, PlainLeavesTheSet, PlainPastConflictor, TwoConflictorsApart, labels_undone}
pub use Rattle.camp_catch.specs.Conflictors.{Becomes, against, in_conflict_with, joined_by, with_effect, without}
pub use Rattle.camp_catch.specs.Inside.InPlace.{CatchMovesToFrontInPlace, FirstWithKey, LacksKey, MergesInto}
pub use Rattle.camp_catch.specs.Laws.{CatchCommuteIsUnique, CommuteKeepsEffects, KeepLabels, KeysAlign, KeysPart, ListsKeepEffects, CatchMergeIsSymmetric, MergeIsUnique, MergeKeepsEffects, keys_of}
pub use Rattle.camp_catch.specs.ListLaws.{ArrangeByMembers, CatchesAreDecided, FrontsFollowFronts, GivesOnePair, HasPair, ListsAreUnique, ListsSucceedOrAreBlocked, OneOf, BlockersAreIncluded}
pub use Rattle.camp_catch.specs.Merging.{Clean, FirstConflict, JoinsWhere, MergeCatch, MergePlainConflictor, Mirror, PlainBesideConflictor, PlainJoinsConflictor, TwoConflictors}
pub use Rattle.camp_catch.specs.MergingLists.{DoNotMerge, MergeLists, MergeIsBlocked, MergesWithAll, IsBlockedWithin}
pub use Rattle.camp_catch.specs.declared.catches.Catch.{Catch}
pub use Rattle.camp_catch.specs.declared.catches.Catch.TheVariants.{Plain}
pub use Rattle.camp_catch.specs.declared.catches.Conflictor.{Conflictor}
