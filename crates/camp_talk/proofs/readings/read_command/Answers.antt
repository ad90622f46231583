use Rattle.camp_talk.proofs.Words.{◌≡◌, List, ℕ, Result, true, Gives, ScriptFault, TakesAll, ap, parsed_lines, first_of, is_skipped, lines_of, script_in, subst, sym, words_of, ◌∙◌, ParsedCommand}
use Rattle.camp_talk.specs.Parsing.{parsed_words}
use Rattle.camp_talk.proofs.Firsts.{command_left}
use Rattle.camp_talk.proofs.Skipped.{silent_asks_nothing}
use Rattle.camp_talk.proofs.readings.read_command.Goals.{then-is_skipped, else-is_skipped}
use Rattle.camp_talk.proofs.readings.read_command.Goals as goal

pub returns-clause-parsed : goal.returns-clause-parsed
returns-clause-parsed g c =
    let a = g.R.Read.remaining c.args.reader.now in
    let b = g.R.Read.remaining c.read_lines.new.reader in
    let bytes : List ℕ = c.in_ok-bytes.field-0.bytes.items in
    let read = c.in_ok-bytes.ensures.command in
    elim c.if-is_skipped.branch [
      | then-is_skipped w ↦
          let first : c.first_line.result.now ≡ first_of (lines_of bytes) =
          c.first_line.ensures.value ∙ ap (λ (read : List ℕ). first_of (lines_of read)) c.deref.ensures.value in
          let skipped : is_skipped (words_of (first_of (lines_of bytes))) ≡ true =
          ap (λ (line : List ℕ). is_skipped (words_of line)) (sym first) ∙ sym c.is_skipped.ensures ∙ w.if-is_skipped.true in
          let all : TakesAll (lines_of bytes) =
          subst TakesAll (sym read.lines) (command_left a b c.in_ok-bytes.field-0.is_whole read.command read.reads) in
          subst (λ (parsed : Result ParsedCommand ScriptFault). Gives parsed (parsed_lines (lines_of bytes))) (sym w.parsed-is)
          (silent_asks_nothing (lines_of bytes) all skipped)
      | else-is_skipped w ↦
          let given = w.parse_command-parsed.ensures (script_in (lines_of bytes)) c.in_ok-bytes.ensures.script in
          subst (λ (parsed : Result ParsedCommand ScriptFault). Gives parsed (parsed_lines (lines_of bytes))) (sym w.parsed-is)
          (subst (λ (read : List ℕ). Gives w.parse_command-parsed.result (parsed_words (words_of (first_of (lines_of read))) (script_in (lines_of bytes))))
          w.deref-else-is_skipped.ensures.value given)
    ]
