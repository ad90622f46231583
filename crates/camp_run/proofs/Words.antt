-- The words that most proofs of this crate use.
pub use Rattle.std.proofs.Common.{◌++◌, ◌+◌, ◌∙◌, ◌∷◌, ◌≡◌, ◌≤◌, Err, List, None, Ok, Option, Result, Some, [], ap, arith, count_by, length, map, refl, subst, sym, ℕ}
pub use Rattle.std.proofs.lemmas.List.{append-nil}
pub use Rattle.std.proofs.lemmas.Result.{IfOk-weaker}
pub use Rattle.std.proofs.lemmas.List.Elements.{All-cons, All-nil}
pub use Rattle.std.specs.List.{All, AllByRecursion}
pub use Rattle.std.specs.Option.{option_and_then}
pub use Rattle.camp_call.specs.Calls.{is_writing}
pub use Rattle.camp_call.specs.declared.calls.Call.{Call}
pub use Rattle.camp_call.specs.declared.replies.Reply.{Reply}
pub use Rattle.camp_clients.specs.Answers.{SaysAlone}
pub use Rattle.camp_clients.specs.Runs.{IsLocked, IsShared, OneByOne, lists_of}
pub use Rattle.camp_clients.specs.Sections.{Section}
pub use Rattle.camp_object.specs.declared.faults.Fault.{Fault}
pub use Rattle.camp_object.specs.declared.objects.Decided.TheVariants.{Answer, Next}
pub use Rattle.camp_repo.specs.Limits.{Bounds}
pub use Rattle.camp_repo.specs.ObjectLaws.{repositories_are_lawful}
pub use Rattle.camp_repo.specs.Objects.{next_of, replies_to, reply_of, repository_within, state_after_decision}
pub use Rattle.camp_repo.specs.States.{Contents}
pub use Rattle.camp_repo.specs.Steps.{Decision, step}
pub use Rattle.camp_run.specs.Serial.{IsSerial, accepted_from, booked}
pub use Rattle.camp_script.specs.Outputs.{HaveTexts}

-- calls, each with the seat at which it was asked
abbrev pub Entries : Type 0
Entries = List (ℕ × Call)
