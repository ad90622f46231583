-- The first words of a line give its whole meaning, unless it lists further names.
use Rattle.camp_script.proofs.Common.{◌≡◌, ℕ, List, [], ◌∷◌, ◌++◌, length, take, refl, sym, ap, ◌∙◌, change_of, short_command}
use Rattle.std.proofs.Math.Seq.{take-append_seam}

pub six_are_enough : (line : ℕ) (word : List ℕ) (words : List (List ℕ)) → short_command line word (take 6 words) ≡ short_command line word words
six_are_enough line word [] = refl
six_are_enough line word (a ∷ []) = refl
six_are_enough line word (a ∷ b ∷ []) = refl
six_are_enough line word (a ∷ b ∷ c ∷ []) = refl
six_are_enough line word (a ∷ b ∷ c ∷ d ∷ []) = refl
six_are_enough line word (a ∷ b ∷ c ∷ d ∷ e ∷ []) = refl
six_are_enough line word (a ∷ b ∷ c ∷ d ∷ e ∷ f ∷ words) = refl

pub six_are_enough_in_group : (line count : ℕ) (word : List ℕ) (words : List (List ℕ)) → change_of line count word (take 6 words) ≡ change_of line count word words
six_are_enough_in_group line count word [] = refl
six_are_enough_in_group line count word (a ∷ []) = refl
six_are_enough_in_group line count word (a ∷ b ∷ []) = refl
six_are_enough_in_group line count word (a ∷ b ∷ c ∷ words) = refl

-- the first words, if there are at least six
pub front_of_six : (words rest all : List (List ℕ)) → length words ≡ 6 → words ++ rest ≡ all → words ≡ take 6 all
front_of_six words rest all six is = sym (take-append_seam words rest) ∙ ap (λ n. take n (words ++ rest)) six ∙ ap (take 6) is
