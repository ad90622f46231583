-- Parsing the words of a line as names, paths and numbers; the first word that is not valid is the fault.
use Rattle.std.specs.Prelude.{ℕ, ◌+◌, ◌*◌, ◌-◌, Bool, ◌&&◌, if◌then◌else◌}
use Rattle.std.specs.Prelude.{List, [], ◌∷◌, length, fold, Option, None, Some, Result, Ok, Err}
use Rattle.std.specs.List.{list_all}
use Rattle.camp_base.specs.Bytes.{is_name, is_path}
use Rattle.camp_base.specs.Results.{◌>>=◌}
use Rattle.camp_base.specs.Signs.{digit_zero, is_between, is_digit}
use Rattle.camp_script.specs.Faults.{fault_at}
use Rattle.camp_script.specs.declared.faults.FaultKind.{FaultKind}
use Rattle.camp_script.specs.declared.faults.FaultKind.TheVariants.{WrongNumberOfWords, BadName, BadPath, BadNumber}
use Rattle.camp_script.specs.declared.faults.LineFault.{LineFault}

-- applies a step to each element in order, up to the first fault
abbrev pub fold_results : {A B E : Type 0} → (A → B → Result A E) → A → List B → Result A E
fold_results step so_far [] = Ok so_far
fold_results step so_far (first ∷ others) = step so_far first >>= λ next. fold_results step next others

-- a fault if there is any word
abbrev pub no_words : ℕ → List (List ℕ) → Result (Unit {0}) LineFault
no_words line [] = Ok tt
no_words line others = fault_at line WrongNumberOfWords

-- the only word; a fault if there is another number of words
abbrev pub one_word : ℕ → List (List ℕ) → Result (List ℕ) LineFault
one_word line (word ∷ []) = Ok word
one_word line others = fault_at line WrongNumberOfWords

-- the only two words; a fault if there is another number of words
abbrev pub two_words : ℕ → List (List ℕ) → Result (List ℕ × List ℕ) LineFault
two_words line (first ∷ second ∷ []) = Ok (first, second)
two_words line others = fault_at line WrongNumberOfWords

-- the first three words and the others; a fault if there are fewer
abbrev pub three_words : ℕ → List (List ℕ) → Result (List ℕ × List ℕ × List ℕ × List (List ℕ)) LineFault
three_words line (first ∷ second ∷ third ∷ words) = Ok (first, second, third, words)
three_words line others = fault_at line WrongNumberOfWords

-- a word if it passes a test, else a fault of this kind
abbrev pub word_that : (List ℕ → Bool) → FaultKind → ℕ → List ℕ → Result (List ℕ) LineFault
word_that test kind line word = if test word then Ok word else fault_at line kind

-- a word as a name, or a fault
abbrev pub name_at : ℕ → List ℕ → Result (List ℕ) LineFault
name_at = word_that is_name BadName

-- a word as a path, or a fault
abbrev pub path_at : ℕ → List ℕ → Result (List ℕ) LineFault
path_at = word_that is_path BadPath

-- words as names, or the fault of the first that is none
abbrev pub names_at : ℕ → List (List ℕ) → Result (List (List ℕ)) LineFault
names_at line [] = Ok []
names_at line (word ∷ words) = name_at line word >>= λ name. names_at line words >>= λ names. Ok (name ∷ names)

-- the number that decimal digits spell
abbrev pub value_of : List ℕ → ℕ
value_of digits = fold (λ value digit. value * 10 + (digit - digit_zero)) 0 digits

-- the number that a word of 1 to 10 decimal digits spells
abbrev pub count_of : List ℕ → Option ℕ
count_of word = if is_between 1 10 (length word) && list_all is_digit word then Some (value_of word) else None

-- the greatest number of a line of a file
abbrev pub last_line_number : ℕ
last_line_number = 1_073_741_823

-- a word is the number of a line of a file: 1 to 10 decimal digits, with a value from 1 to the greatest
abbrev pub is_line_number : List ℕ → Bool
is_line_number word =
    is_between 1 10 (length word)
    && (list_all is_digit word && is_between 1 last_line_number (value_of word))

-- a word as the number of a line of a file, or a fault
abbrev pub number_at : ℕ → List ℕ → Result ℕ LineFault
number_at line word = if is_line_number word then Ok (value_of word) else fault_at line BadNumber
