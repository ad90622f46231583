use Rattle.camp_questions.proofs.Words.{IfOk-weaker, List, map, Catch, name_of, names_in, AreBlockedBy, CanMoveToFront}
use Rattle.camp_questions.proofs.BranchGrowths.{to_front}
use Rattle.camp_questions.proofs.Growing.{grown_in_order}
use Rattle.camp_questions.proofs.dependencies.needed_in.Goals as goal

pub returns : goal.returns
returns c =
    let branch : List Catch = c.args.branch.now in
    IfOk-weaker c.in_order.result _ _ (λ told is. grown_in_order (map name_of branch) (CanMoveToFront branch) (AreBlockedBy branch) (to_front branch) branch c.args.names.now (names_in c.in_ok-named.named) (names_in c.in_ok-needed.needed) told c.in_ok-named.ensures.exact c.in_ok-needed.ensures is) c.in_order.ensures
