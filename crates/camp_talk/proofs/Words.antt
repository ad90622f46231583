-- The words that most proofs of this crate use.
pub use Rattle.std.proofs.Common.{Bool, Err, IfOk, List, None, Ok, OnErr, Option, Result, Some, Vec, [], ap, append-nil, append_assoc, arith, codes, cond, drop, eqb-true, false, inl, inr, length, length-append, length-take, length-take-le, map, min, nat_lt, ne_eqb, not, refl, rules, subst, suc, sym, take, take-take, take_all, true, true≢false, zero, zero-le, ℕ, ⊎_elim, ◌++◌, ◌+◌, ◌-◌, ◌<◌, ◌==◌, ◌^◌, ◌∙◌, ◌∷◌, ◌≡◌, ◌≢◌, ◌≤◌, ◌⊎◌}
pub use Rattle.std.proofs.KnownBytes.{Appends-nil, Appends-trans, Consumes-kept, Consumes-nil, Consumes-trans, Keeps-refl}
pub use Rattle.std.proofs.Math.Seq.{drop-append_seam, take-append_seam}
pub use Rattle.std.proofs.lemmas.Grind.{flat_map-append}
pub use Rattle.std.proofs.lemmas.List.Elements.{All-append, All-cons, All-drop, All-head, All-nil, All-tail, All-take}
pub use Rattle.std.specs.Io.KnownBytes.{Appends, Consumes}
pub use Rattle.std.specs.Iterator.Adapters.{zip_first, zip_second}
pub use Rattle.std.specs.List.{All, flat_map, list_all, onto_first, position_or_len, zip}
pub use Rattle.std.specs.Prelude.{bytes_eq, slice_set}
pub use Rattle.camp_call.specs.declared.calls.Call.{Call}
pub use Rattle.camp_script.proofs.LineLemmas.{lines-feed, lines-other, lines_without_end}
pub use Rattle.camp_script.specs.Gives.{Gives}
pub use Rattle.camp_script.specs.Lines.{is_blank, is_skipped, lines_of, without_end, words_of}
pub use Rattle.camp_script.specs.CommandLines.{HasRead, wants}
pub use Rattle.camp_script.specs.Pieces.{begins_edit, begins_with}
pub use Rattle.camp_script.specs.declared.command_lines.CommandLines.{CommandLines}
pub use Rattle.camp_script.specs.Reading.{script_of_lines}
pub use Rattle.camp_script.specs.Texts.{reply_text}
pub use Rattle.camp_script.specs.declared.faults.LineFault.{LineFault}
pub use Rattle.camp_script.specs.declared.faults.ScriptFault.{ScriptFault}
pub use Rattle.camp_talk.specs.Answers.{AnswersCommand, AnswersParsed, RunsOutOfMemory, SessionState, UpdatesDiagnostic, is_silent, reports_failure}
pub use Rattle.camp_talk.specs.Parsing.{first_of, parsed_command, parsed_lines, question_of, short_question}
pub use Rattle.camp_talk.specs.Cutting.{IsCommand, IsLeft, IsLine, TakesAll, as_read, lines_in, script_in, lines_taken}
pub use Rattle.camp_talk.specs.Entries.{Entries}
pub use Rattle.camp_talk.specs.Inside.ExecutingNext.{DoesOne, ExecutesNext, IsResponse, LoadsOne}
pub use Rattle.camp_talk.specs.Inside.Parts.{Ends, EndsAt, GoesOn, IsReading, ReadsHeld, ReadsLine, ReadsLines, ReadsNext, StopsAtLine, StopsInLine, Takes, ended, feed_of, last_seen, seen_of, with_last}
pub use Rattle.camp_talk.specs.Inside.Responses.{written}
pub use Rattle.camp_talk.specs.Loads.{Done, Fails, LacksMemory, ReportsSuccess}
pub use Rattle.camp_talk.specs.Talks.{AnswersInOrder, AppendsSome, Exchange, Exchanges, HasAnswered, ReadsCommand, ReadsNone, ReadsTooMuch, ReadsWithin}
pub use Rattle.camp_talk.specs.QuestionAnswers.{RendersAnswer, annotated_line, catch_line, names_answer}
pub use Rattle.camp_talk.specs.declared.lines.Seen.{Seen}
pub use Rattle.camp_talk.specs.declared.questions.ParsedCommand.{ParsedCommand}
pub use Rattle.camp_questions.specs.Dependencies.{AreHeldBy, AreNeeded}
pub use Rattle.std.proofs.lemmas.Bool.{and_parts, cases_Bool, cond-false}
pub use Rattle.std.proofs.lemmas.List.Sums.{passes_at_first}
pub use Rattle.std.proofs.lemmas.List.{length-map, map-append, take_more}
pub use Rattle.camp_why.specs.Hints.{call_part}
