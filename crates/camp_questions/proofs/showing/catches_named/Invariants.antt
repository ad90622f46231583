use Rattle.camp_questions.proofs.Words.{◌≡◌, [], ◌∷◌, ◌++◌, catches_named}
use Rattle.camp_questions.proofs.showing.catches_named.Given as goal

abbrev pub invariant-loop-catch : goal.invariant-loop-catch
invariant-loop-catch l =
    l.catches.items ++ catches_named (l.name ∷ []) l.catch-iterator ≡ catches_named (l.name ∷ []) l.list
