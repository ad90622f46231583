-- Words that the proofs of this crate have in common: of the standard library, of definitions, and of crates below.
pub use Rattle.std.proofs.Common.{All, Bool, Err, IfErr, IfSome, IsErrAnd, IsOk, List, MatchOption, None, Ok, OnErr, OnOk, Option, Result, Some, [], add-one, ap, arith, below_more, cond, drop, false, filter, get_or, if◌then◌else◌, inl, inr, is_ok, length, map, option_map, refl, slice_get, slice_index_or, slice_range, subst, suc, sym, take, true, vec_capacity, vec_len, zero, ℕ, ◌++◌, ◌+◌, ◌-◌, ◌<◌, ◌==◌, ◌∙◌, ◌∷◌, ◌≡◌, ◌≢◌, ◌≤◌, ◌⊎◌}
pub use Rattle.std.proofs.lemmas.Bool.{cases_lt}
-- goals that `search` fails at and `grind` proves have `grind` as their answer where the search takes long
pub use Rattle.std.proofs.lemmas.Grind.{common_steps, elements}
pub use Rattle.std.proofs.lemmas.List.{append-nil, append_assoc, drop-map, drop_all, drop_at, drop_more, length-append, length-drop, length-map, length-take-le, map-append, map_push, nil_from_length, take-append-drop, take_all, take_at, take_more, take_rest}
pub use Rattle.std.proofs.lemmas.List.Elements.{All-append, All-drop, All-map, All-push, All-rest, All-same, All-weaker}
pub use Rattle.std.proofs.lemmas.Result.{IfOk-weaker}
pub use Rattle.std.proofs.lemmas.Option.{IfSome_then, get_or_from_slice_get, same_Some, slice_get-map, slice_get_within}
pub use Rattle.std.specs.List.{range_with_len, splice}
pub use Rattle.boxcar.specs.Table.{Shelves, Shows, Where}
pub use Rattle.camp_history.specs.Inside.SeatFields.{marks_in, seat_state}
pub use Rattle.camp_history.specs.Inside.Steps.{Attempts, DecidesAt, HeadDecision, FindsMore, SeesFurther, LosesOne, Publishes, SeesMore, seen_entries, with_mark}
pub use Rattle.camp_history.specs.Seats.{Based, HeadId, IsBaseAt, IsSeatOf, SeatState, seat_and_call, caller_at, entry_of, history_of, most_listed, entry_and_call, unseen}
pub use Rattle.camp_history.specs.Snapshots.{Installs, IsMarkPrefix, ContinuesSeat, IsWithinReach, IsIn, IsMadeFrom, HaveCommon, based, bases_in, ids, ids_of, made_of, news}
pub use Rattle.camp_history.specs.declared.marks.Mark.{Mark}
pub use Rattle.camp_object.proofs.Beginnings.{begins_append, begins_through, begins_self, begins_shorter, length-beginning}
pub use Rattle.camp_object.specs.Asking.{AddsNothing, Ask, Caller, IsNotBusy, Loses}
pub use Rattle.camp_object.specs.Deciding.{Decides}
pub use Rattle.camp_object.specs.Histories.{IsAccepted, IsBeginning, IsLegal, own, replay}
pub use Rattle.camp_object.specs.Objects.{IsFirst, IsLawfulObject, Sequential, begun}
pub use Rattle.camp_object.specs.declared.faults.Fault.{Fault}
pub use Rattle.camp_object.specs.declared.faults.Fault.TheVariants.{Memory}
pub use Rattle.camp_object.specs.declared.objects.Decided.TheVariants.{Answer, Next}
pub use Rattle.camp_row.specs.Chains.{entry_count}
pub use Rattle.camp_row.specs.PassState.{IsNextEntry, FindsChain, IsSound, PassState, IsTrail, Won, drafted, new_pass, with_draft}
pub use Rattle.camp_row.specs.declared.entries.Entry.{Entry}
pub use Rattle.camp_object.proofs.Asks.{ask_done, ask_memory, ask_since, loses_more, never_busy_among_own}
pub use Rattle.camp_object.proofs.Replays.{accepted_at, begun_lawful, count-replay, initial_first, own-append, own_other, replay_accepted, replay_began, some_is_some}
