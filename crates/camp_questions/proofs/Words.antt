-- The words that most proofs of this crate use.
pub use Rattle.std.proofs.Common.{Bool, Err, List, None, Ok, Option, Result, Some, [], ap, append-nil, arith, bytes_eq, cond, drop, false, filter, get_or, inl, inr, length, map, not, refl, replicate, rules, string_bytes, subst, suc, sym, take, true, true≢false, zero, ℕ, ◌&&◌, ◌++◌, ◌+◌, ◌-◌, ◌<◌, ◌==◌, ◌||◌, ◌∙◌, ◌∷◌, ◌≡◌, ◌≢◌, ◌≤◌, ◌⊎◌, set}
pub use Rattle.std.proofs.lemmas.Fn.{filter_same}
pub use Rattle.std.proofs.lemmas.List.{flat_map_more, append_assoc, drop-drop, drop_all, drop_at, drop_more, length-append, length-drop, length-replicate, length-take-le, map-append, take-append-drop, take_at, take_more, drop-append-le, get_or-map, get_or-reverse, get_or-set_same, get_or-take, get_or_append_left, get_or_default, get_or_past, get_or_push, length-map, length-reverse, length-set, length_push, reverse-append, reverse-reverse, take_all, with_items_is}
pub use Rattle.std.proofs.lemmas.List.Folds.{list_any-append}
pub use Rattle.std.proofs.lemmas.Option.{none-some, same_Some, IfSome_then}
pub use Rattle.std.proofs.lemmas.Slice.Eq.{bytes_eq-Decides}
pub use Rattle.std.specs.Cmp.Lexicographic.{slice_cmp, pointwise}
pub use Rattle.std.specs.FinMap.{contains_key, empty, find, get, get-empty, get-from_entries, get-insert, insert, keys, same_map, FinMap, entries, entries_sorted, get-entries, len, values}
pub use Rattle.std.specs.List.{All, AllByRecursion, flat_map, list_any, slice_range, splice, AllZip, fold}
pub use Rattle.std.specs.Ordering.{eq_by_cmp, is_eq, nat_cmp}
pub use Rattle.std.specs.Prelude.{Contains, codes, ◌↔◌, IfOk, MatchOption, OnOk, if◌then◌else◌, is_some, nat_lt, reverse, slice_get, ◌%◌, ◌*◌}
pub use Rattle.camp_base.specs.Trees.{Files, Lines, Splices, SplicesLines}
pub use Rattle.camp_branch.proofs.NameSets.{and_false, and_true, has_listed, or_none}
pub use Rattle.camp_branch.proofs.Names.{each_among, all_append, is_among_is, name_itself, not_among, or_parts, or_true, passes_is_kept, same_name, all_filter, distinct_append, filter_image, filter_within, has_image, other_way}
pub use Rattle.camp_branch.proofs.NamesKept.{among_kept, among_once, among_others, among_common}
pub use Rattle.camp_branch.specs.Branches.{first_lacked, AreDistinct, HasPatches, IsLawfulBranch, LeadsTo, Patch, has_patch, is_among, labels_from, labels_of, name_of, names_of, patch_names, recorded, IsSized}
pub use Rattle.camp_branch.specs.Conflicting.{AreConflicts}
pub use Rattle.camp_branch.specs.Fields.{names_in, has_name}
pub use Rattle.camp_catch.specs.Arranging.{Arrange, ArrangeIsBlocked, ArrangesAfter, CatchCommutesBeforeAll, IsBlockedAfter, IsBlockedByKey, Align, CatchMovesToFront, DoNotCommute, IsOf}
pub use Rattle.camp_catch.specs.Catches.{FitsAll, effect_of, IsSeenFrom, catch_key}
pub use Rattle.camp_catch.specs.declared.catches.Catch.{Catch}
pub use Rattle.camp_object.specs.declared.objects.Decided.TheVariants.{Answer, Next}
pub use Rattle.camp_prim.proofs.LabelOrder.{key_ties, key_total}
pub use Rattle.camp_prim.specs.Hunks.{Edit, IsInRange}
pub use Rattle.camp_prim.specs.Labels.{key_cmp, key_of, label_of, SameKey}
pub use Rattle.camp_prim.specs.declared.labels.Key.{Key}
pub use Rattle.camp_prim.specs.declared.named.Named.{Named}
pub use Rattle.camp_prim.specs.declared.primitives.Primitive.{Primitive}
pub use Rattle.camp_prim.specs.declared.primitives.Primitive.TheVariants.{Add, Hunk, Remove}
pub use Rattle.camp_questions.specs.Answers.{AnswerOf, ReportsAnswer, OfBranch, OfPatches, ReportsAnswerOrMemory}
pub use Rattle.camp_questions.specs.Inside.Finding.{IsFound}
pub use Rattle.camp_questions.specs.declared.annotations.Annotated.{Annotated}
pub use Rattle.camp_questions.specs.declared.faults.Unanswered.{Unanswered}
pub use Rattle.camp_questions.specs.Annotations.{Known, annotated, known_after_all, known_after_catches, known_after_change, known_after_hunk, new_line_names, names_of_lines, nothing_known, Annotates, own_names}
pub use Rattle.camp_questions.specs.Dependencies.{AreAdded, AreGrown, DependsOnTakenOut, CanBeTakenOut, CanMoveToFront, HeldBy, Needs, AreBlockedBy, in_order}
pub use Rattle.camp_questions.specs.Differences.{IsMissing, missing_in}
pub use Rattle.camp_questions.specs.Graphs.{Drawn, IsGraph, Needing, NeedsThese, goes_between, needs_directly, needs_other, node_of}
pub use Rattle.camp_questions.specs.Inside.Graphing.{NeedEach, needing, AreKnown, AreMarkedBelow, AreReached, IsInverted, marked, marked_in_both}
pub use Rattle.camp_questions.specs.Inside.Walking.{AppliesWithNames, AreKnownIn, EffectAppliesWithNames, LiesWithin, kept_in, known_in, lines_or_none}
pub use Rattle.camp_questions.specs.Showing.{changes_of, patch_in, changes_in}
pub use Rattle.camp_questions.specs.declared.graphs.Node.{Node}
pub use Rattle.camp_repo.proofs.ByMembers.{AreAlike, obliterate_alike}
pub use Rattle.camp_repo.proofs.Effects.{accepted_calls}
pub use Rattle.camp_repo.specs.Laws.{Effect, Has}
pub use Rattle.camp_repo.specs.States.{Branches, Contents, after, catches_of, stands, with_catches, tree_of}
pub use Rattle.camp_repo.specs.Steps.{catches_named, is_empty, step, Decision, becomes, changed, has_long_file, is_full_with, is_too_large, led_to, record_leads, refused, refused_if, then_from, wanted}
pub use Rattle.camp_share.specs.Maps.{map_of}
pub use Rattle.camp_branch.specs.Laws.{ExactlyOne, AppliesEach}
pub use Rattle.camp_branch.specs.Obliterating.{ObliterateGives, other_names}
pub use Rattle.camp_prim.specs.Effect.{Applies, flipped, InRange, Leads, inverse_of}
pub use Rattle.camp_questions.specs.GraphTexts.{arrow_text, conflict_text, node_text}
pub use Rattle.camp_questions.specs.Laws.{AreAmong, Arrow, ArrowsAreDirectNeeds, GrewFrom, HeldCanBeTakenOut, HeldIsDetermined, IsPlain, IsReached, LinesHaveNames, MissingIsPulled, NeedsAreDetermined, NeedsAreLeast, NeedsAreReached, NeedsComeFirst, NeedsDirectly, NeedsPatch, RecordedIsShown, WasAddedOnWay, along, itself, AlongIsEnough, AnnotateAlike, ArrowsLeadBackwards, RepeatsRestoreLines, EachIsAddedByPatch, ForeseenHappens, IsConnected, HeldIsLeast, IsAddedByPatch, KeepFilesShort, LinesAreAddedByPatches, NeedsAndHeldAreOne, NeedsCanBePulled, OrderKeepsNames, PartsAreReached, RestoresLines, SidesApply, SidesAreAccepted, NameComesBefore}
pub use Rattle.camp_repo.proofs.DecideSteps.{conflicts_shown, pull_nothing, tree_shown}
pub use Rattle.camp_repo.proofs.NameSteps.{none_lacked}
pub use Rattle.std.proofs.lemmas.Bool.{cases_Bool, and_from, and_parts, eq-eqb, eqb-false, eqb-true, not-true, or_cases, cases_eq, cases_lt, cases_order, cond_both, false_from_ne_true, ne_eqb, or_from, true_from_ne_false}
pub use Rattle.std.proofs.lemmas.List.Elements.{All-contains, all_zip_more, filter_passes, All-append, All-drop, All-nil, All-replicate, All-take, filter-append, All-contains_itself, All-filter, All-from_recursion, All-get_or, All-head, All-tail, All-weaker, Contains-append_cases, Contains-append_right, Contains-get_or, recursion_from_All}
pub use Rattle.camp_branch.proofs.BranchFields.{Names, contains_more}
pub use Rattle.camp_branch.proofs.BranchLabels.{names_of_patches, labels_count, none_else}
pub use Rattle.camp_branch.proofs.ConflictsDetermined.{conflicts_are_determined, member_name, some_member, has_of_each, is_image, key_is_listed, listed_has_member, listed_joined}
pub use Rattle.camp_branch.proofs.SortedPairs.{IsInOrder, Pair, first_or_later, has_first, has_later, no_member, sorted_once}
pub use Rattle.camp_branch.specs.Pulling.{MergesAfterCommon, Outcome, PullGives, WantedNext, common_names}
pub use Rattle.camp_branch.specs.declared.faults.Blocked.TheVariants.{Depends}
pub use Rattle.camp_call.specs.declared.replies.Refusal.{Refusal}
pub use Rattle.camp_call.specs.declared.replies.Refusal.TheVariants.{DoesNotApply, NoBranch, NoPatch, NothingToDo, PatchExists, TooLarge}
pub use Rattle.camp_catch.proofs.KeptLabels.{keep_labels}
pub use Rattle.camp_catch.proofs.ListResults.{arrange_by_members, lists_are_unique, lists_succeed_or_are_blocked}
pub use Rattle.camp_catch.proofs.PlainArranging.{arranged_of_parts, at_end, came_plainly, comes_plainly, fronts_follow_fronts, not_both, one_at_end, room_left, blockers_are_included}
pub use Rattle.camp_catch.specs.Laws.{KeysPart, keys_of}
pub use Rattle.camp_catch.specs.declared.catches.Catch.TheVariants.{Plain}
pub use Rattle.camp_ctx.proofs.EntrySteps.{found_at, take_push}
pub use Rattle.camp_ctx.proofs.SetSteps.{count_of_members, members_of}
pub use Rattle.camp_ctx.specs.Adding.{AddsToContext, AddsAll, commute}
pub use Rattle.camp_ctx.specs.Contexts.{AreKeyed, AreValid, ContextedPatch, ContextedPatches, Valid, bare, context_key, whole, with_member}
pub use Rattle.camp_prim.specs.Commuting.{Commute, PrimitivesCommute, at_line, path_of}
pub use Rattle.camp_questions.specs.CommonLines.{added_by, common_end, common_front}
pub use Rattle.camp_questions.specs.Inside.ByPatch.{AreApart, AreOfPatch, ArePatches, ArePatchesOf, catches_in_order, names_in_order, until_next}
pub use Rattle.camp_questions.specs.Inside.ByIndex.{NoneBeforeDepends, EndAtOwnIndex, name_at_index, needs_index, node_in, indexes_below}
pub use Rattle.camp_questions.specs.Inside.ChangedFiles.{AreFilesOf, BecomeMarked, HasMarkedFiles, IsMarkedPlain, IsPlainInRange, path_hash, hash_count, is_marked, hash_after, catch_hash, HasFiles}
pub use Rattle.camp_questions.specs.Inside.Growing.{Grows, GrowsToFront, GrowsToTakeOut}
pub use Rattle.camp_questions.specs.Inside.Moving.{HunkCommutesPast, hunk_at}
pub use Rattle.camp_questions.specs.Inside.Seeing.{AllGathered, AppendsIf, AppendsIfNamed, IsGathered, first_with_key}
pub use Rattle.camp_questions.specs.Inside.Independence.{AllCommuteUnchanged, MoveBeforeAll, IsIndependent, AreBlockedAfter}
pub use Rattle.camp_questions.specs.Inside.Reporting.{IsReported}
pub use Rattle.camp_questions.specs.Inside.Inverting.{AreInverses, HaveRoom}
pub use Rattle.camp_questions.specs.Marks.{AreVersions, MakesVersion, MarksAt, is_in_pair, names_in_pairs, with_made}
pub use Rattle.camp_questions.specs.OpenConflicts.{AreUnresolvedAmong, AreUnresolvedIn, IsUnresolvedWith, is_unresolved}
pub use Rattle.camp_questions.specs.Pictures.{Picture, graph_part, is_one_or_neighbour, kept_node, part_with, whole_picture, with_needing, with_needing_one, with_needs, with_needs_of}
pub use Rattle.camp_questions.specs.MarkHunks.{File, MarkedHunk, at_range, differs_within, file_from, is_within, union_of, hunk_from, range_of, touch, with_marks, with_range}
pub use Rattle.camp_questions.specs.Sides.{AreSeen, AppendsEachNew, AppendsNew, AppendsUnless, IsSeen, IsSideAmong, IsSideIn, HaveNoContexted, has_key, labels_of_patch, contexted_in}
pub use Rattle.camp_questions.specs.declared.fast.taken_out.TakenOut.{TakenOut}
pub use Rattle.camp_questions.specs.declared.fast.patch_catches.PatchCatches.{PatchCatches}
pub use Rattle.camp_questions.specs.declared.marking.Version.{Version}
pub use Rattle.camp_questions.specs.declared.needed.Needed.{Needed}
pub use Rattle.camp_questions.specs.declared.mark_hunks.Range.{Range}
pub use Rattle.camp_seq.proofs.ListRuns.{cut_run, equivalent_run, inverse_all-append, inverse_all-cons, inverse_all-inverse_all, joined_runs, runs_back}
pub use Rattle.camp_seq.specs.Running.{AppliesAll, inverse_all}
pub use Rattle.std.proofs.lemmas.Result.{IfOk-weaker}
pub use Rattle.std.proofs.Math.Bool.{or_assoc, or_comm}
pub use Rattle.std.proofs.Math.Seq.{take-add}
pub use mathlib.Core.List.{map-id, map-map, reverse-cons}
pub use Rattle.std.proofs.lemmas.List.Concat.{flat_map-append}
pub use Rattle.camp_base.specs.Limits.{greatest_reach}
pub use Rattle.camp_branch.proofs.BranchTrees.{tree_of_effects}
pub use Rattle.camp_branch.proofs.OutcomesDetermined.{outcomes_are_determined}
pub use Rattle.camp_branch.specs.Inside.Collecting.{pair_of}
pub use Rattle.camp_catch.specs.Commuting.{BothPlain, CommuteCatch}
pub use Rattle.camp_prim.proofs.FilesAtPaths.{get-with_file, get-with_file_other, get-with_file_same, same_path, with_file}
pub use Rattle.camp_questions.specs.Inside.Alongside.{AreAfterCommon}
pub use Rattle.camp_questions.specs.Inside.OpenPairs.{unresolved_against, unresolved_in, unresolved_with, unresolved_within}
pub use Rattle.camp_seq.specs.Room.{HasRoom, here}
pub use Rattle.std.proofs.Math.ListN.{drop_of_length-le}
pub use Rattle.std.proofs.lemmas.List.Filters.{dedup_is, length-filter_both}
pub use Rattle.std.specs.Cmp.{Equal-is, both_ways, eq_by_cmp_equiv, second_so}
