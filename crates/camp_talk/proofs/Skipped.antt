-- A line that is skipped asks nothing, and no other belongs to it.
use Rattle.camp_talk.proofs.Words.{◌≡◌, ℕ, ◌==◌, true, false, true≢false, cond, List, [], ◌∷◌, codes, Ok, refl, sym, ap, ◌∙◌, eqb-true, bytes_eq, begins_with, is_skipped, words_of, script_of_lines, parsed_lines, first_of, call_part, map, TakesAll, lines_taken}
use Rattle.std.specs.Prelude.{slice_index}
use Rattle.camp_script.proofs.Agreement.{reads_as_defined}
use Rattle.camp_script.specs.AfterWords.{after_word}
use Rattle.camp_script.specs.CommandLines as command
use Rattle.camp_script.specs.Commands.{Nothing, command_of}
use Rattle.camp_script.specs.Inside.Progress.{start}
use Rattle.camp_script.specs.Inside.Steps.{after_parsed_command, read_from}
use Rattle.camp_script.specs.Pieces.{NumberedLine, numbered}
use Rattle.camp_base.specs.Results.{◌>>=◌}
use Rattle.camp_talk.specs.Parsing.{parsed_words}
use Rattle.camp_talk.specs.declared.questions.ParsedCommand.TheVariants as parsed

-- the first word of a comment
number_sign : (word : List ℕ) → (slice_index word 0 == 35) ≡ true → (rest : List ℕ) × (word ≡ 35 ∷ rest)
number_sign [] is = absurd (true≢false (sym is))
number_sign (byte ∷ rest) is = (rest, ap (λ (b : ℕ). b ∷ rest) (eqb-true byte 35 is))

-- ---- by the words of a line that is skipped

no_foresight : (words : List (List ℕ)) → is_skipped words ≡ true → begins_with (codes "whatif") words ≡ false
no_foresight [] is = refl
no_foresight (word ∷ words) is =
    let (rest, sign) = number_sign word is in ap (λ (w : List ℕ). bytes_eq w (codes "whatif")) sign

no_command : (words : List (List ℕ)) → is_skipped words ≡ true → command_of 1 words ≡ Ok Nothing
no_command [] is = refl
no_command (word ∷ words) is = let (rest, sign) = number_sign word is in ap (λ (w : List ℕ). command_of 1 (w ∷ words)) sign

nothing_parsed : (words : List (List ℕ)) → is_skipped words ≡ true → parsed_words words (Ok ([] ∷ [])) ≡ Ok parsed.Nothing
nothing_parsed [] is = refl
nothing_parsed (word ∷ words) is =
    let (rest, sign) = number_sign word is in ap (λ (w : List ℕ). parsed_words (w ∷ words) (Ok ([] ∷ []))) sign

-- ---- by the line

module _ (line : List ℕ) (skipped : is_skipped (words_of line) ≡ true) where
  -- as a script it has no call
  no_call : script_of_lines (call_part line ∷ []) ≡ Ok ([] ∷ [])
  no_call =
      ap (λ b. script_of_lines (cond b (after_word line) line ∷ [])) (no_foresight (words_of line) skipped)
      ∙ sym (reads_as_defined (line ∷ []))
      ∙ ap (λ parsed. after_parsed_command 1 start parsed >>= λ next. read_from 2 next []) (no_command (words_of line) skipped)

  alone : (rest : List (List ℕ)) → lines_taken line rest ≡ rest → rest ≡ []
  alone rest all =
      sym all ∙ ap (λ b. command.taken (cond b (after_word line) line) rest) (no_foresight (words_of line) skipped)
      ∙ ap (λ parsed. map (λ (l : NumberedLine). l.bytes) (command.taken_by parsed (numbered 2 rest))) (no_command (words_of line) skipped)

  asks_nothing : parsed_lines (line ∷ []) ≡ Ok parsed.Nothing
  asks_nothing = ap (parsed_words (words_of line)) no_call ∙ nothing_parsed (words_of line) skipped

-- a command whose first line is skipped
pub silent_asks_nothing : (lines : List (List ℕ)) → TakesAll lines → is_skipped (words_of (first_of lines)) ≡ true
    → parsed_lines lines ≡ Ok parsed.Nothing
silent_asks_nothing [] all skipped = refl
silent_asks_nothing (line ∷ rest) all skipped =
    ap (λ (ls : List (List ℕ)). parsed_lines (line ∷ ls)) (alone line skipped rest all) ∙ asks_nothing line skipped
