-- When reading a script may run out of memory.
use Rattle.camp_script.proofs.Common.{Command, Nothing, command, command_of, IsFaultFirst, HasNoFault, numbered, Progress, start, LineFault, ScriptFault, Memory, ◌≡◌, ℕ, ◌+◌, ◌⊎◌, Bool, true, false, cond, List, [], ◌∷◌, refl, sym, ap, subst, ◌∙◌, Result, Ok, Err, inl, inr, lines_of, words_of, is_skipped, ScriptMayWant, first_command, after_line, after_parsed_command, HasMeaning}

-- the meaning of the first line that is not skipped, given the number of the first line
abbrev first_from : ℕ → List (List ℕ) → Result Command LineFault
first_from number lines = first_command (numbered number lines)

-- some lines are read, and these are left: the first that is not skipped has no fault, or all were skipped so far
abbrev pub IsBegun : ℕ → Progress → List (List ℕ) → List (List ℕ) → Type 0
IsBegun number reading rest lines =
    HasNoFault (first_from 1 lines) ⊎ ((reading ≡ start) × (first_from 1 lines ≡ first_from (number + 1) rest))

pub nothing_read : (lines : List (List ℕ)) → IsBegun 0 start lines lines
nothing_read lines = inr (refl, refl)

-- the same, by whether the first line is skipped
abbrev by_first : ℕ → List ℕ → List (List ℕ) → Bool → Result Command LineFault
by_first number bytes rest b = cond b (first_from (number + 1) rest) (command_of number (words_of bytes))

skipped_asks : (number : ℕ) (words : List (List ℕ)) → is_skipped words ≡ true → command_of number words ≡ Ok Nothing
skipped_asks number [] is = refl
skipped_asks number (word ∷ words) is = ap (λ b. cond b (Ok Nothing) (command number word words)) is

good_command : (number : ℕ) (reading : Progress) (r : Result Command LineFault) → HasNoFault (after_parsed_command number reading r) → HasNoFault r
good_command number reading (Ok command) h = tt
good_command number reading (Err fault) h = h

same_reading : (reading next : Progress) (r : Result Progress LineFault) → r ≡ Ok reading → r ≡ Ok next → next ≡ reading
same_reading reading next r e f = cc

module _ (number : ℕ) (bytes : List ℕ) (rest : List (List ℕ)) where
  -- a first line that is not skipped has no fault if reading it gives none
  good_first : is_skipped (words_of bytes) ≡ false → HasNoFault (after_parsed_command number start (command_of number (words_of bytes))) → HasNoFault (first_from number (bytes ∷ rest))
  good_first says h =
      subst HasNoFault (sym (ap (by_first number bytes rest) says)) (good_command number start (command_of number (words_of bytes)) h)

  begun_by : (next : Progress) (b : Bool) → is_skipped (words_of bytes) ≡ b → after_parsed_command number start (command_of number (words_of bytes)) ≡ Ok next → HasNoFault (first_from number (bytes ∷ rest)) ⊎ ((next ≡ start) × (first_from number (bytes ∷ rest) ≡ first_from (number + 1) rest))
  begun_by next true is read =
      inr (same_reading start next _ (ap (after_parsed_command number start) (skipped_asks number (words_of bytes) is)) read, ap (by_first number bytes rest) is)
  begun_by next false is read = inl (good_first is (subst HasNoFault (sym read) tt))

-- one more line without a fault
pub one_read : (number : ℕ) (reading next : Progress) (bytes : List ℕ) (rest lines : List (List ℕ)) → IsBegun number reading (bytes ∷ rest) lines
    → after_line (number + 1) reading.open_record reading bytes ≡ Ok next → IsBegun (number + 1) next rest lines
one_read number reading next bytes rest lines begun read = elim begun [
  | inl h ↦ inl h
  | inr h ↦ elim (begun_by (number + 1) bytes rest next (is_skipped (words_of bytes)) refl (subst (λ (p : Progress). after_line (number + 1) p.open_record p bytes ≡ Ok next) h.0 read)) [
    | inl good ↦ inl (subst HasNoFault (sym h.1) good)
    | inr more ↦ inr (more.0, h.1 ∙ more.1)
  ]
]

-- a line runs out of memory
pub wants_now : (number : ℕ) (reading : Progress) (bytes : List ℕ) (rest : List (List ℕ)) (script : List ℕ) (fault : ScriptFault) → IsBegun number reading (bytes ∷ rest) (lines_of script)
    → IsFaultFirst fault (after_line (number + 1) reading.open_record reading bytes) → (fault ≡ Memory → HasMeaning reading.open_record bytes)
    → fault ≡ Memory → ScriptMayWant script
wants_now number reading bytes rest script fault begun given says is = elim begun [
  | inl h ↦ h
  | inr h ↦ subst HasNoFault (sym h.1) (good_first (number + 1) bytes rest
      (subst (λ (p : Progress). HasMeaning p.open_record bytes) h.0 (says is))
      (subst (λ (p : Progress). HasNoFault (after_line (number + 1) p.open_record p bytes)) h.0 (subst (λ f. IsFaultFirst f (after_line (number + 1) reading.open_record reading bytes)) is given)))
]
