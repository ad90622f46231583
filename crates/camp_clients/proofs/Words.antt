-- Words that the proofs of this crate have in common: of the standard library, of definitions, and of crates below.
pub use Rattle.std.proofs.Common.{Err, IfOk, IsSome, List, MatchOption, None, Ok, Option, Result, Some, [], add-one, add-zero, ap, append_assoc, arith, below_more, cond, count_by, drop, eq-eqb, false, get_or, inl, inr, is_some, length, map, min, refl, replicate, subst, suc, sym, take, true, zero, zero-add, ℕ, ◌++◌, ◌+◌, ◌<◌, ◌==◌, ◌∙◌, ◌∷◌, ◌≡◌, ◌≤◌, ◌⊎◌}
pub use Rattle.std.proofs.lemmas.Bool.{cases_lt}
pub use Rattle.std.proofs.lemmas.Bool.Decides.{eqb_tells}
-- goals that `search` fails at and `grind` proves have `grind` as their answer where the search takes long
pub use Rattle.std.proofs.lemmas.Grind.{common_steps}
pub use Rattle.std.proofs.lemmas.List.{append-nil, append_cancel_left, length-append, length-map, length-take-le, take_more}
pub use Rattle.std.proofs.lemmas.List.Elements.{All-cons, All-map, All-nil, All-rest, All-same, All-weaker}
pub use Rattle.std.proofs.lemmas.Result.{IfOk-weaker}
pub use Rattle.std.proofs.lemmas.Simd.{map-map}
pub use Rattle.std.proofs.lemmas.Slice.Zip.{AllZip-long, all_zipped_more}
pub use Rattle.std.specs.List.{All, AllByRecursion, AllZip, range_with_len, remove}
pub use Rattle.std.specs.Prelude.{OnOk, Vec, is_err, vec_capacity, vec_items, vec_len}
pub use Rattle.camp_clients.specs.Answers.{SectionStep, SectionContinues, HasMemory, IsDone, IsOvertaken, SaysAlone, SaysAmongThreads, StepsAlone, reported_position}
pub use Rattle.camp_clients.specs.Clients.{AllRan, IsReady, Ran}
pub use Rattle.camp_clients.specs.Comparing.{Differs, AreFoundUpTo, Matches, left_from}
pub use Rattle.camp_clients.specs.Gathering.{AreSeparated, Gathers}
pub use Rattle.camp_clients.specs.Synchronising.{AreNew, IsSynchronised, HasAllOfSeat, WasSynchronised}
pub use Rattle.camp_clients.specs.Positions.{done_at, own_at, where_done}
pub use Rattle.camp_clients.specs.Runs.{HasPrefixes, HasOpening, InTurn, IsExactly, IsShared, OneByOne, OwnDone, SaysSomewhere, lists_of, section_of}
pub use Rattle.camp_clients.specs.Sections.{Section}
pub use Rattle.camp_history.proofs.SnapshotLemmas.{all_unmap, left_first}
pub use Rattle.camp_history.specs.Seats.{HeadId, IsSeatOf, SeatState, calls_per_seat, history_of, seat_number}
pub use Rattle.camp_object.proofs.Beginnings.{begins_through, begins_longer, begins_self, begins_whole, length-beginning}
pub use Rattle.camp_object.proofs.Replays.{legal_front, length-own-all, length-own-within, own-append, own_mine, run-append}
pub use Rattle.camp_object.specs.Asking.{Accepts, AddsNothing, Ask, Caller, IsBusy, Loses, alone_at}
pub use Rattle.camp_object.specs.Histories.{IsAccepted, IsAnswered, IsBeginning, IsLegal, own, replay}
pub use Rattle.camp_object.specs.Objects.{Sequential, begun}
pub use Rattle.camp_object.specs.declared.faults.Fault.{Fault}
pub use Rattle.camp_object.specs.declared.faults.Fault.TheVariants.{Busy, Full, Memory}
pub use Rattle.camp_clients.specs.Laws.{DoneWasAccepted, LockedIsSerial, OpeningIsAlone, SharedIsSerial}
