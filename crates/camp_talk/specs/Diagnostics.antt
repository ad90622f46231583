-- The state that a conversation keeps for `why`.
use Rattle.std.specs.Prelude.{ℕ, ◌-◌, Bool, true, false, not, ◌&&◌, ◌||◌, ◌==◌, List, [], ◌∷◌, drop, bytes_eq, Option, None, Some, codes, if◌then◌else◌}
use Rattle.camp_call.specs.declared.replies.Refusal.{Refusal}
use Rattle.camp_repo.specs.States.{Contents}
use Rattle.camp_script.specs.AfterWords.{after_word}
use Rattle.camp_script.specs.Lines.{words_of}
use Rattle.camp_script.specs.Pieces.{begins_edit, begins_with}
use Rattle.camp_script.specs.declared.faults.FaultKind.{FaultKind}
use Rattle.camp_script.specs.declared.faults.FaultKind.TheVariants as kind
use Rattle.camp_script.specs.declared.faults.LineFault.{LineFault}
use Rattle.camp_talk.specs.Parsing.{first_of}
use Rattle.camp_talk.specs.declared.diagnostics.FailureCause.{FailureCause}
use Rattle.camp_talk.specs.declared.diagnostics.FailureCause.TheVariants.{Fault, Refused}
use Rattle.camp_talk.specs.declared.questions.ParsedCommand.{ParsedCommand}
use Rattle.camp_talk.specs.declared.questions.ParsedCommand.TheVariants as parsed
use Rattle.camp_talk.specs.declared.recovery.Recovery.{Recovery}
use Rattle.camp_talk.specs.declared.recovery.Recovery.TheVariants.{Body, Group, GroupBody, Nothing, Signed}
use Rattle.camp_why.specs.Causes.{explained}
use Rattle.camp_why.specs.Hints.{begins_signed, call_part, first_word, hint}
use Rattle.camp_why.specs.declared.causes.Cause.{Cause}

-- ---- recovery: the lines of a command that was cut off

-- lines of the cut-off command may still come
abbrev pub is_recovering : Recovery → Bool
is_recovering Nothing = false
is_recovering Signed = true
is_recovering Body = true
is_recovering Group = true
is_recovering GroupBody = true

-- this line may be one of the cut-off command
abbrev pub may_be : Recovery → List ℕ → Bool
may_be Nothing line = false
may_be Signed line = begins_signed line
may_be Body line = true
may_be Group line = true
may_be GroupBody line = true

-- the kind of lines that may come after this one; as in a complete command, a body ends with `end`, and a group with
-- `done`
abbrev pub recovery_after : Recovery → List ℕ → Recovery
recovery_after Nothing line = Nothing
recovery_after Signed line = Body
recovery_after Body line = if bytes_eq line (codes "end") then Nothing else Body
recovery_after GroupBody line = if bytes_eq line (codes "end") then Group else GroupBody
recovery_after Group line =
    if begins_edit (words_of line) then GroupBody
    else (if begins_with (codes "done") (words_of line) then Nothing else Group)

-- a word is one of three: in small letters, with a capital letter at its start, or in capitals
abbrev pub is_form : List ℕ → List ℕ → List ℕ → List ℕ → Bool
is_form small capital capitals word = bytes_eq word small || (bytes_eq word capital || bytes_eq word capitals)

-- a line is a record, by its first word or, after `whatif`, by the word after that
abbrev pub is_record : List ℕ → Bool
is_record line =
    is_form (codes "record") (codes "Record") (codes "RECORD") (first_word (words_of (call_part line)))

-- the first word of a line is `client`, or one whose command may be unknown only because of the words after it:
-- `record`, `help` or `whatif`
abbrev pub begins_command : List ℕ → Bool
begins_command line =
    is_record line
    || (begins_with (codes "help") (words_of line)
    || (begins_with (codes "whatif") (words_of line)
    || begins_with (codes "client") (words_of line)))

-- a word of a record says that no lines follow
abbrev pub is_short : List ℕ → Bool
is_short word =
    is_form (codes "add") (codes "Add") (codes "ADD") word || is_form (codes "remove") (codes "Remove") (codes "REMOVE") word

-- a word of a record says that the lines of a group follow, perhaps with a carriage return before the line feed
abbrev pub is_group : List ℕ → Bool
is_group word =
    is_form (codes "group") (codes "Group") (codes "GROUP") word
    || is_form (codes "group\r") (codes "Group\r") (codes "GROUP\r") word

-- a word of a record says that the lines of a body follow
abbrev pub is_edit : List ℕ → Bool
is_edit word = is_form (codes "edit") (codes "Edit") (codes "EDIT") word

-- the kind of lines that follow, by the first of these words that decides it; if none does, the given kind
abbrev pub recovery_in_words : List (List ℕ) → Recovery → Recovery
recovery_in_words [] other = other
recovery_in_words (word ∷ words) other =
    if is_short word then Nothing
    else (if is_group word then Group
    else (if is_edit word then Body
    else recovery_in_words words other))

-- the kind of lines that follow a record, by the rest of its line after the branch. The words after the name decide if
-- the change is one of them; else the word in the position of the name, which may have been left out; else a line with
-- a sign is expected, followed by a body
abbrev pub recovery_after_branch : List ℕ → Recovery
recovery_after_branch line = recovery_in_words (words_of (after_word line)) (recovery_in_words (words_of line) Signed)

-- the kind of lines that follow a line with a fault, if it is a record, or may be a misspelt one
abbrev pub recovery_of_line : List ℕ → Recovery
recovery_of_line line = recovery_after_branch (after_word (after_word (call_part line)))

-- a kind is that of an unknown command
abbrev pub is_unknown : FaultKind → Bool
is_unknown kind.UnknownCommand = true
is_unknown other = false

-- a line with a fault of a kind begins no command
abbrev pub is_no_command : FaultKind → List ℕ → Bool
is_no_command kind line = is_unknown kind && not (begins_command line)

-- it is a record, or may be one whose first word is misspelt
abbrev pub may_record : FaultKind → List ℕ → Bool
may_record kind line = is_record line || is_no_command kind line

-- the lines that may still come of a command, given the number of its faulty line, the kind of the fault, and that
-- line; only a fault in the first line cuts lines off
abbrev pub cut_off : ℕ → FaultKind → List ℕ → Recovery
cut_off number kind line = if number == 1 && may_record kind line then recovery_of_line line else Nothing

-- a fault is the consequence of one before it: its line begins no command, and may be one of a body or a group that
-- was cut off
abbrev pub is_consequence : Recovery → FaultKind → List ℕ → Bool
is_consequence recovery kind line = may_be recovery line && is_no_command kind line

-- ---- the diagnostic

-- a command that was not done: the line that has the fault, or the first one; and why it was not done
pub record FailedCommand : Type 0 where
  pub line : List ℕ
  pub cause : FailureCause

-- the diagnostic of the last fault or refusal: the last command that was not done, if there was one; and the kind of
-- its lines that may still come, if a fault in its first line cut off what is a record, or may be one
pub record Diagnostic : Type 0 where
  pub failed : Option FailedCommand
  pub recovery : Recovery

-- the diagnostic before any fault or refusal
abbrev pub no_diagnostic : Diagnostic
no_diagnostic = record { failed = None; recovery = Nothing }

-- the same command; no line of it may come
abbrev pub closed : Diagnostic → Diagnostic
closed diagnostic = record { failed = diagnostic.failed; recovery = Nothing }

-- the same command, after one of its lines came
abbrev pub advanced : Diagnostic → List ℕ → Diagnostic
advanced diagnostic line = record { failed = diagnostic.failed; recovery = recovery_after diagnostic.recovery line }

-- the line of a number, counted from 1, or an empty one
abbrev pub line_at : ℕ → List (List ℕ) → List ℕ
line_at number lines = first_of (drop (number - 1) lines)

-- a command with a fault, given the number of lines before it and the line that has the fault
abbrev pub fault_found : ℕ → LineFault → List ℕ → FailedCommand
fault_found before fault line = record { line = line; cause = Fault before fault (hint fault.kind line) }

-- the diagnostic of a command with a fault of its own, and the lines that may follow it
abbrev pub own_fault_diagnostic : ℕ → LineFault → List (List ℕ) → Diagnostic
own_fault_diagnostic before fault lines = record {
  failed = Some (fault_found before fault (line_at fault.line lines));
  recovery = cut_off fault.line fault.kind (first_of lines);
}

-- the diagnostic of a command with a fault, given the number of lines before it and its lines; if the fault is the
-- consequence of one before it, that one stays
abbrev pub fault_diagnostic : Diagnostic → ℕ → LineFault → List (List ℕ) → Diagnostic
fault_diagnostic diagnostic before fault lines =
    if is_consequence diagnostic.recovery fault.kind (first_of lines) then advanced diagnostic (first_of lines)
    else own_fault_diagnostic before fault lines

-- why a request is refused; none if the refusal says it all
abbrev pub explained_request : Contents → ParsedCommand → Refusal → Option Cause
explained_request state (parsed.Call call) refusal = explained state call refusal
explained_request state other refusal = None

-- a request that a state refused, given its first line
abbrev pub refused_found : Contents → List ℕ → ParsedCommand → Refusal → FailedCommand
refused_found state line request refusal = record { line = line; cause = Refused refusal request state (explained_request state request refusal) }

-- the diagnostic of a request that a state refused, given its first line
abbrev pub refused_diagnostic : Contents → List ℕ → ParsedCommand → Refusal → Diagnostic
refused_diagnostic state line request refusal = record { failed = Some (refused_found state line request refusal); recovery = Nothing }
