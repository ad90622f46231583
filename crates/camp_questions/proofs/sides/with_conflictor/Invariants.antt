use Rattle.camp_questions.proofs.Words.{◌∷◌, take, members_of, AllGathered}
use Rattle.camp_questions.proofs.sides.with_conflictor.Given as goal

abbrev pub invariant-loop-index : goal.invariant-loop-index
invariant-loop-index l = AllGathered l.undone (l.k.identity ∷ take l.index (members_of l.k.conflicts)) l.fn.was l.seen
