use Rattle.camp_questions.proofs.Words.{drop, known_in}
use Rattle.camp_questions.proofs.LineNames.{IsOnTheWay}
use Rattle.camp_questions.proofs.walks.Annotation.after_effect.Given as goal

abbrev pub invariant-loop-p : goal.invariant-loop-p
invariant-loop-p l = IsOnTheWay l.path l.name (known_in l.fn.self) l.effect (drop l.p-index l.effect) (known_in l.self)
