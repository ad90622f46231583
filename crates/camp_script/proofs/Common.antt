-- The words that most proofs of this crate use.
pub use Rattle.std.proofs.Common.{Bool, Err, List, None, Ok, Option, Result, Some, [], add-zero, ap, append-nil, append_assoc, arith, codes, cond, count_by, drop, false, filter, get_or, get_or-drop, inl, inr, length, length-append, length-drop, length-take, ltb, map, nat_le, nat_lt, not, refl, rules, slice_index, subst, suc, sym, take, take-append-drop, tests, true, unwrap_or, ℕ, ⊎_elim, ◌&&◌, ◌*◌, ◌++◌, ◌+◌, ◌-◌, ◌<◌, ◌==◌, ◌^◌, ◌||◌, ◌∙◌, ◌∷◌, ◌≡◌, ◌≢◌, ◌≤◌, ◌⊎◌}
pub use Rattle.std.proofs.lemmas.Bool.{and_parts, both_ways, cases_Bool, cases_lt, cond-false, cond-true, eqb-true, false≢true, le-ltb, lt-ltb, not-false, not-true}
pub use Rattle.std.proofs.lemmas.Bool.Decides.{nat_tests}
pub use Rattle.std.proofs.lemmas.Grind.{flat_map-append}
pub use Rattle.std.proofs.lemmas.Iterator.{YieldsList-from_slice}
pub use Rattle.std.proofs.lemmas.Iterator.Search.{position_from_yields_List}
pub use Rattle.std.proofs.lemmas.List.{length-map, take_all, take_more, take_rest}
pub use Rattle.std.proofs.lemmas.List.Concat.{flat_map-cons}
pub use Rattle.std.proofs.lemmas.List.Sums.{prefix_len-le-length, prefix_len_passes, prefix_len_stops, sum_by-append, sum_by-cons}
pub use Rattle.std.specs.FinMap.{entries, len, len-entries}
pub use Rattle.std.specs.Fmt.{decimal}
pub use Rattle.std.specs.List.{All, AllByRecursion, flat_map, join_with_byte, list_all}
pub use Rattle.std.specs.Prelude.{IfOk, IsTrue, OnOk, bytes_eq, fold, if◌then◌else◌}
pub use Rattle.camp_base.specs.Bytes.{is_line, is_name, is_name_byte, is_path}
pub use Rattle.camp_base.specs.Signs.{is_between, is_graphic}
pub use Rattle.camp_call.specs.Calls.{is_writing}
pub use Rattle.camp_call.specs.declared.calls.Call.{Call}
pub use Rattle.camp_prim.specs.Hunks.{Edit, IsInRange}
pub use Rattle.camp_prim.specs.declared.primitives.Primitive.{Primitive}
pub use Rattle.camp_prim.specs.declared.primitives.Primitive.TheVariants.{Add, Hunk, Remove}
pub use Rattle.camp_script.specs.Canonical.{AreLines, AreNames, IsChange, IsListed, IsScriptCall, call_text, change_body, canonical_change, record_text, section_text}
pub use Rattle.camp_script.specs.Changes.{EditChange, EndGroup, GroupLine, NoChange, WholeChange, after_body_line, after_entry, change_of, edit_change, parsed_edit, ended_edit, group_line_of, group_of, grown, side_at, whole_change, with_change, with_new, with_old}
pub use Rattle.camp_script.specs.Commands.{Ask, BeginEdit, BeginGroup, BeginSection, Command, Nothing, branch_at, branch_line, command, command_of, edit_record, names_or_all, obliterate_line, pull_line, question, record_line, record_of, short_command, whole_record}
pub use Rattle.camp_script.specs.Gives.{HasNoFault, IsFaultFirst, IsFaultOf}
pub use Rattle.camp_script.specs.HistoryTexts.{call_words, entries_text, entry_text, listed_words}
pub use Rattle.camp_script.specs.Inside.Progress.{OpenEdit, OpenRecord, Progress, after_call, after_change, after_head, after_record, finished, not_ended, record_at, start, with_call, with_edit, with_one_more, with_open_edit, with_record}
pub use Rattle.camp_script.specs.Inside.Spaces.{spaced}
pub use Rattle.camp_script.specs.Inside.Steps.{HasMeaning, after_body, after_line, after_record_line, after_group_line, after_command, after_parsed_command, read_from}
pub use Rattle.camp_script.specs.Keeping.{CanBeInScript, calls_of, kept_text}
pub use Rattle.camp_script.specs.Lines.{is_blank, is_skipped, lines_of, without_empty_last, without_end, words_of}
pub use Rattle.camp_script.specs.Outputs.{HaveTexts, answers_text, client_answers, clients_answers}
pub use Rattle.camp_script.specs.Pieces.{Entry, Item, NumberedLine, begins_edit, begins_group, begins_with, clients_of, ends_body, ends_group, line_entries, entry_words, first_section, items_of, numbered, pieces, up_to, words_on}
pub use Rattle.camp_script.specs.Reading.{after_client, after_item, is_full, script_of, script_of_lines, with_command}
pub use Rattle.camp_script.specs.Texts.{HasText, file_text, line_text, name_text, pair_text, signed_line, tree_text}
pub use Rattle.camp_script.specs.Wanting.{ScriptMayWant, first_command}
pub use Rattle.camp_script.specs.Words.{fold_results, is_line_number, name_at, names_at, no_words, number_at, one_word, path_at, two_words, value_of}
pub use Rattle.camp_base.specs.Results.{◌>>=◌}
pub use Rattle.camp_script.specs.declared.faults.LineFault.{LineFault}
pub use Rattle.camp_script.specs.declared.faults.ScriptFault.{ScriptFault}
pub use Rattle.camp_script.specs.declared.faults.ScriptFault.TheVariants.{Line, Memory}
pub use Rattle.camp_base.specs.Trees.{Files, Lines}
pub use Rattle.std.proofs.lemmas.List.Elements.{All-from_get_or, All-tail}
pub use Rattle.std.proofs.lemmas.List.Splits.{length-slice_split, slice_split-cons_no, slice_split-cons_yes, slice_split_first, slice_split_none}
