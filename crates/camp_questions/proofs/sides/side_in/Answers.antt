use Rattle.camp_questions.proofs.Words.{IfOk-weaker}
use Rattle.camp_questions.proofs.sides.side_in.Goals as goal

pub returns : goal.returns
returns c =
    IfOk-weaker c.side_among.result _ _ (λ side is. (c.in_ok-seen.seen, c.in_ok-seen.ensures, is)) c.side_among.ensures
