-- Words that the proofs of this crate have in common: of the standard library, of definitions, and of crates below.
pub use Rattle.std.proofs.Common.{◌&&◌, ◌++◌, ◌+◌, ◌<◌, ◌||◌, ◌∙◌, ◌∷◌, ◌≡◌, ◌≤◌, Bool, Err, List, None, Ok, Option, Result, Some, [], ap, arith, bytes_eq, cond, drop, false, get_or, is_some, length, map, nat_le, nat_lt, not, position, pred, refl, slice_get, slice_set, subst, suc, sym, true, zero, zip, ℕ, IfOk, append-nil, codes, filter, if◌then◌else◌, inl, inr, option_copied, rules, take, true≢false, ◌==◌, ◌≢◌, tests}
pub use Rattle.std.proofs.lemmas.Option.{none-some, same_Some}
pub use Rattle.std.specs.Cmp.Lexicographic.{slice_cmp}
pub use Rattle.std.specs.FinMap.{contains_key, empty, entries, keys, len, len-entries}
pub use Rattle.std.specs.List.{AllByRecursion, AllZip, list_any, position_from, remove}
pub use Rattle.std.specs.Option.{option_and_then, option_map_or}
pub use Rattle.std.specs.Ordering.{nat_cmp}
pub use Rattle.camp_base.specs.Trees.{Files, Lines}
pub use Rattle.camp_branch.proofs.BranchFields.{Names}
pub use Rattle.camp_branch.proofs.ConflictsDetermined.{conflicts_are_determined}
pub use Rattle.camp_branch.proofs.NameSets.{has_listed, and_false}
pub use Rattle.camp_branch.proofs.Names.{all_append, all_filter, distinct_append, is_among_is, name_itself, or_parts, or_true, same_name}
pub use Rattle.camp_branch.proofs.NamesKept.{among_kept, among_once}
pub use Rattle.camp_branch.proofs.OutcomesDetermined.{outcomes_are_determined}
pub use Rattle.camp_branch.specs.Agreeing.{Agree}
pub use Rattle.camp_branch.specs.Branches.{first_lacked, AreDistinct, LeadsTo, has_patch, is_among, name_of, names_of, recorded}
pub use Rattle.camp_branch.specs.Fields.{names_in}
pub use Rattle.camp_branch.specs.Laws.{AppliesEach, AreLacked, others_of, those_of}
pub use Rattle.camp_branch.specs.Obliterating.{ObliterateGives}
pub use Rattle.camp_branch.specs.Pulling.{Outcome, PullGives, MergesAfterCommon, WantedNext, common_names}
pub use Rattle.camp_call.specs.declared.calls.Call.{Call}
pub use Rattle.camp_call.specs.declared.replies.Refusal.{Refusal}
pub use Rattle.camp_call.specs.declared.replies.Refusal.TheVariants.{BranchExists, NoBranch, NothingToDo, PatchExists, SameBranch, TooLarge, DoesNotApply, NoPatch}
pub use Rattle.camp_catch.proofs.MoveSteps.{stands_at}
pub use Rattle.camp_catch.specs.declared.catches.Catch.{Catch}
pub use Rattle.camp_object.specs.declared.objects.Decided.TheVariants.{Answer, Next}
pub use Rattle.camp_prim.specs.Applied.{applied}
pub use Rattle.camp_prim.specs.Commuting.{path_of}
pub use Rattle.camp_prim.specs.declared.primitives.Primitive.{Primitive}
pub use Rattle.camp_repo.specs.Beginnings.{AgreesIn, AllHold, catches_in}
pub use Rattle.camp_repo.specs.Lawful.{IsLawfulBy, IsLawfulState, names_of_branches}
pub use Rattle.camp_repo.specs.Laws.{Has, AcceptedCallsHaveEffect, ChangesOne, Copies, Effect, HistoriesAreCounted, HistoriesAreLawful, HistoriesKeepLimits, HistoriesGiveTrees, InitialIsLawful, Obliterates, OutcomesAreDefined, Pulls, Records, StepsKeepLawful, StepsKeepLimits, TreesAreAnswered}
pub use Rattle.camp_repo.specs.LimitLaws.{CanPull, DefaultLimitsHold, Holds, StatesHoldTheirLimits}
pub use Rattle.camp_repo.specs.ObjectLaws.{repositories_are_lawful}
pub use Rattle.camp_repo.specs.Outcomes.{obliterated, pulled}
pub use Rattle.camp_repo.specs.Placing.{placed, settled}
pub use Rattle.camp_repo.specs.States.{Branches, Contents, after, catches_of, new_within, stands, tree_of, with_catches, tree_after}
pub use Rattle.camp_repo.specs.Limits.{Bounds, default_bounds}
pub use Rattle.camp_repo.specs.Steps.{Decision, accepted, becomes, catches_named, changed, has_long_file, is_empty, is_full_with, is_too_large, led_to, listed, refused, shown, step, then_from, wanted, has_long_side, is_patch_sized, longest_file, record_leads, refused_if, step_obliterate, step_pull, step_record, with_branch, with_patches}
pub use Rattle.camp_share.specs.Maps.{map_of}
pub use Rattle.camp_branch.proofs.AgreedFronts.{agree_grown, agree_itself, agree_none, agreed_has, split_has}
pub use Rattle.camp_branch.proofs.BranchTrees.{left_tree, pulled_tree, recorded_tree, tree_of_effects}
pub use Rattle.camp_branch.proofs.KeepLawful.{obliterates_keep_lawful, pulls_keep_lawful, trees_are_determined}
pub use Rattle.camp_branch.proofs.Steps.{pulled_by, pulls_begin_with_own}
pub use Rattle.camp_prim.proofs.Applied.{Applies-from_applied, applied-from_Applies, applied-none}
pub use Rattle.camp_prim.specs.Effect.{Applies}
pub use Rattle.std.proofs.lemmas.Bool.{and_parts, cond_both, false_from_ne_true, leb-true, not-false, not-true}
pub use Rattle.std.proofs.lemmas.List.{length-drop, length-map, length_push, take-append-drop}
pub use Rattle.std.proofs.lemmas.Slice.Zip.{firsts-zip, seconds-zip}
pub use Rattle.std.specs.Prelude.{Contains, ◌-◌, ◌↔◌}
