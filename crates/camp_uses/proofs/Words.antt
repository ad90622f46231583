-- The words that most proofs of this crate use.
pub use Rattle.std.proofs.Common.{Bool, Err, IfOk, IfSome, IsErrAnd, IsSome, List, MatchOption, None, Ok, OnOk, Option, Result, Some, [], ap, append-nil, arith, bytes_eq, false, inl, inr, length, map, not, refl, subst, sym, true, ℕ, ◌&&◌, ◌++◌, ◌<◌, ◌∙◌, ◌∷◌, ◌≡◌, ◌≢◌, ◌≤◌, ◌⊎◌, ◌||◌}
pub use Rattle.std.proofs.lemmas.Option.{same_Some}
pub use Rattle.std.specs.List.{AllByRecursion}
pub use Rattle.camp_base.specs.Answers.{Answers, AnswersByTrial, FindsPair}
pub use Rattle.camp_base.specs.Trees.{Adds, Files, Lines, Removes}
pub use Rattle.camp_branch.specs.Branches.{first_lacked, LeadsTo, has_patch, is_among, name_of, names_of}
pub use Rattle.camp_branch.specs.Fields.{names_in}
pub use Rattle.camp_branch.specs.Obliterating.{ObliterateGives, other_names}
pub use Rattle.camp_branch.specs.Pulling.{Outcome, PullGives}
pub use Rattle.camp_call.specs.declared.calls.Call.{Call}
pub use Rattle.camp_call.specs.declared.replies.Reply.{Reply}
pub use Rattle.camp_call.specs.declared.replies.Reply.TheVariants.{Done, Tree}
pub use Rattle.camp_catch.specs.MergingLists.{MergeLists}
pub use Rattle.camp_catch.specs.declared.catches.Catch.{Catch}
pub use Rattle.camp_clients.specs.Runs.{OneByOne, lists_of}
pub use Rattle.camp_object.specs.Asking.{Caller, Says, alone_at}
pub use Rattle.camp_object.specs.Histories.{IsAnswered, IsBeginning, IsLegal, own, replay}
pub use Rattle.camp_object.specs.declared.faults.Fault.{Fault}
pub use Rattle.camp_object.specs.declared.faults.Fault.TheVariants.{Busy, Full, Memory}
pub use Rattle.camp_object.specs.declared.objects.Decided.TheVariants.{Answer, Next}
pub use Rattle.camp_prim.specs.Effect.{Applies, Leads}
pub use Rattle.camp_prim.specs.declared.primitives.Primitive.{Primitive}
pub use Rattle.camp_questions.specs.Showing.{IsShown, PatchContents, patch_in}
pub use Rattle.camp_repo.specs.Laws.{AcceptedCallsHaveEffect, Has, HistoriesGiveTrees}
pub use Rattle.camp_repo.specs.Objects.{repository}
pub use Rattle.camp_repo.specs.States.{Contents, catches_of, initial}
pub use Rattle.camp_repo.specs.Steps.{Decision, becomes, is_empty, is_full_with, pull_wanted, refused, refused_if, step, wanted, with_patches}
pub use Rattle.camp_run.specs.StoredTexts.{KeptLeadsBack, moved_to_seat_0}
pub use Rattle.camp_run.specs.Serial.{history_from}
pub use Rattle.camp_script.specs.Canonical.{ReadsBack, call_text}
pub use Rattle.camp_script.specs.Keeping.{CanBeInScript, calls_of, kept_text}
pub use Rattle.camp_script.specs.Reading.{script_of}
pub use Rattle.camp_script.specs.declared.faults.LineFault.{LineFault}
pub use Rattle.camp_seq.specs.Merging.{CleanMerge}
pub use Rattle.camp_uses.specs.Questioned.{GoesWithHeld, HasThem, IsRefusal, MayRefuse, MayRefuseFor, PullsAlong}
