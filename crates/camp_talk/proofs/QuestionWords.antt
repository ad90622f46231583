-- The first words of a question give its whole meaning, unless it lists names.
use Rattle.camp_talk.proofs.Words.{◌≡◌, false, ℕ, List, ◌∷◌, take, refl, sym, ap, subst, ◌∙◌, Gives, ScriptFault, cond-false, Option, Result, bytes_eq, codes, question_of, short_question}
use Rattle.camp_talk.specs.declared.questions.Question.{Question}

six_are_enough : (word : List ℕ) (words : List (List ℕ)) → short_question word (take 6 words) ≡ short_question word words
six_are_enough word (a ∷ b ∷ c ∷ words) = refl
six_are_enough word fewer = refl

pub short : (word : List ℕ) (result : Result (Option Question) ScriptFault) (words all : List (List ℕ)) → words ≡ take 6 all
    → bytes_eq word (codes "needs") ≡ false → bytes_eq word (codes "held") ≡ false → bytes_eq word (codes "along") ≡ false → bytes_eq word (codes "graph") ≡ false
    → Gives result (short_question word words) → Gives result (question_of word all)
short word result words all first other neither nor never given =
    subst (Gives result)
    (ap (short_question word) first ∙ six_are_enough word all
    ∙ sym (cond-false _ _ _ other ∙ cond-false _ _ _ neither ∙ cond-false _ _ _ nor ∙ cond-false _ _ _ never))
    given
