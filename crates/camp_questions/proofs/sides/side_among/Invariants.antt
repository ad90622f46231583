use Rattle.camp_questions.proofs.Words.{[], bytes_eq, filter, take, members_of, AppendsEachNew}
use Rattle.camp_questions.proofs.sides.side_among.Given as goal

abbrev pub invariant-loop-index : goal.invariant-loop-index
invariant-loop-index l = AppendsEachNew [] (filter (λ x. bytes_eq l.name x.patch.name) (take l.index (members_of l.seen))) l.side
