use Rattle.camp_questions.proofs.Words.{IfOk-weaker, names_in}
use Rattle.camp_questions.proofs.AlongEnough.{comes_along}
use Rattle.camp_questions.proofs.pull_along.names_to_pull.Goals as goal

pub returns : goal.returns
returns c =
    IfOk-weaker c.in_order.result _ _ (λ told is. comes_along c.args.from.now c.args.to.now c.args.behind.now c.args.names.now (names_in c.in_ok-wanted.wanted) (names_in c.in_ok-grown.grown) told c.requires c.in_ok-wanted.ensures c.in_ok-grown.ensures is) c.in_order.ensures
