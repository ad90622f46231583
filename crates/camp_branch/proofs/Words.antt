-- The words that most proofs about branches use.
pub use Rattle.camp_branch.specs.Agreeing.{Agree}
pub use Rattle.std.proofs.Common.{Bool, Contains, Err, List, None, Ok, Option, Result, Some, T, [], ap, arith, bytes_eq, cond, drop, false, filter, flat_map, get_or, inl, inr, is_some, length, map, not, refl, rules, slice_index_or, slice_range, subst, suc, sym, take, tests, true, true≢false, zero, ℕ, ◌&&◌, ◌++◌, ◌+◌, ◌-◌, ◌<◌, ◌==◌, ◌||◌, ◌∙◌, ◌∷◌, ◌≡◌, ◌≤◌, ◌⊎◌}
pub use Rattle.camp_base.specs.Trees.{Files}
pub use Rattle.camp_share.specs.Maps.{map_of}
pub use Rattle.camp_prim.proofs.LabelOrder.{key_ties, key_total}
pub use Rattle.camp_catch.proofs.Fitting.{one_runs, plain_fits, run_once}
pub use Rattle.camp_ctx.proofs.SetSteps.{count_of_members, members_of}
pub use Rattle.camp_seq.proofs.ListRuns.{cut_run, joined_runs, runs_back}
pub use Rattle.camp_seq.specs.Running.{AppliesAll, inverse_all}
pub use Rattle.camp_ctx.specs.Contexts.{AreKeyed, ContextedPatch, ContextedPatches, context_key}
pub use Rattle.camp_catch.proofs.KeptLabels.{keep_labels}
pub use Rattle.camp_prim.specs.Effect.{Applies, inverse_of}
pub use Rattle.std.proofs.Math.Bool.{and-true, and_comm, or-false, or_assoc, or_comm, or_self}
pub use Rattle.camp_branch.specs.Branches.{AreDistinct, HasPatches, IsLawfulBranch, IsSized, LeadsTo, Patch, each_once, first_lacked, has_patch, is_among, labels_from, labels_of, name_of, names_of, patch_names, recorded}
pub use Rattle.camp_branch.specs.Conflicting.{AreConflicts, ConflictsWith, IsBefore}
pub use Rattle.std.proofs.lemmas.Bool.{and_from, and_right, cond-false, cond-true, cond_both, false_from_ne_true, false≢true, ne_eqb, or_from, or_left, or_right}
pub use Rattle.camp_prim.specs.declared.labels.Key.{Key}
pub use Rattle.camp_catch.proofs.ListEffects.{lists_keep_effects}
pub use Rattle.camp_catch.proofs.ListResults.{arrange_by_members, lists_are_unique, lists_succeed_or_are_blocked}
pub use Rattle.camp_prim.specs.declared.named.Named.{Named}
pub use Rattle.std.proofs.lemmas.List.{append-nil, append_assoc, drop_all, drop_more, flat_map_more, get_or-map, length-append, length-drop, length-map, length-take-le, map-append, take-append-drop, take-append-le, take_all}
pub use Rattle.camp_branch.specs.Fields.{has_name, names_in}
pub use Rattle.camp_branch.specs.Inside.Collecting.{names_against, names_within, ordered_by, pair_of, pairs_in}
pub use Rattle.std.proofs.lemmas.List.Elements.{All-append, All-cons, All-contains_itself, All-filter, All-from_recursion, All-nil, All-weaker, Contains-append_cases, Contains-append_left, Contains-append_right, Contains-get_or, Decides-contains, filter-append, recursion_from_All}
pub use Rattle.camp_prim.specs.declared.primitives.Primitive.{Primitive}
pub use Rattle.camp_catch.proofs.MoveSteps.{names_decide, stands_at}
pub use Rattle.camp_catch.specs.Arranging.{Align, AlignIsBlocked, Arrange, ArrangeIsBlocked, ArrangesAfter, CatchMovesToFront, IsOf, IsBlockedAfter}
pub use Rattle.std.proofs.lemmas.List.Folds.{list_any-append}
pub use Rattle.camp_branch.specs.Inside.Fronts.{front_before, front_of}
pub use Rattle.camp_branch.specs.Inside.Stages.{DependsIn, DivergesFrom, DivergesIn, DoesNotMerge}
pub use Rattle.std.proofs.lemmas.Map.Text.{is_eq-slice_cmp}
pub use Rattle.camp_catch.specs.Catches.{FitsAll, catch_key, effect_of}
pub use Rattle.camp_catch.specs.Laws.{KeysPart, keys_of}
pub use Rattle.std.proofs.lemmas.Map.Views.{Contains-from_any, list_any-from_Contains, tells_apart}
pub use Rattle.std.specs.Cmp.{IsTotalOrder, both_tied, eq_by_cmp_equiv, on_total, then_total, tied_itself}
pub use Rattle.std.specs.Cmp.Lexicographic.{nat_list_cmp_total, slice_cmp, texts_ties}
pub use Rattle.std.specs.FinMap.{FinMap, IsAntisymmetric, contains_key, contains_key-keys, empty, entries, entries_sorted, from_entries, get, get-empty, get-entries, get-from_entries, get-insert, get-remove, insert, keys, len, nat_cmp-IsAntisymmetric, remove, slice_cmp-IsAntisymmetric, values}
pub use Rattle.std.specs.List.{All, AllByRecursion, dedup, list_any, slice_get, splice}
pub use Rattle.std.specs.Ordering.{eq_by_cmp, nat_cmp, ordering_reverse, ordering_then}
pub use Rattle.std.specs.Prelude.{AllPairs, IfOk, ◌↔◌}
pub use Rattle.std.specs.declared.cmp.Ordering.{Ordering}
pub use Rattle.std.specs.declared.cmp.Ordering.TheVariants.{Equal, Greater, Less}
pub use Rattle.camp_catch.specs.MergingLists.{MergeLists, MergeIsBlocked}
pub use Rattle.camp_catch.specs.declared.catches.Catch.{Catch}
pub use Rattle.camp_catch.specs.declared.catches.Catch.TheVariants.{Plain}
pub use Rattle.camp_branch.specs.Laws.{AppliesEach, ConflictsAreDetermined, ExactlyOne, ObliteratesKeepLawful, OutcomesAreDetermined, PullsBeginWithOwn, PullsKeepLawful, RecordsKeepLawful, TreesAreDetermined, others_of, those_of}
pub use Rattle.camp_branch.specs.Obliterating.{ObliterateGives, other_names}
pub use Rattle.camp_branch.specs.Pulling.{DiffersAt, MergedLast, MergesAfterCommon, Outcome, PullBy, PullGives, SameThen, StepThen, common_names}
pub use Rattle.camp_branch.specs.declared.faults.Blocked.{Blocked}
