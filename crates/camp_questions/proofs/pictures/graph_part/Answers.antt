use Rattle.camp_questions.proofs.Words.{IfOk-weaker, whole_picture}
use Rattle.camp_questions.proofs.Picturing.{all_drawn, part_drawn}
use Rattle.camp_questions.proofs.pictures.graph_part.Goals as goal

pub returns-then-is_empty : goal.returns-then-is_empty
returns-then-is_empty c pairs =
    all_drawn c.args.names.now (whole_picture c.args.whole pairs) c.is_empty.result c.is_empty.ensures c.if-is_empty.true

pub returns : goal.returns
returns c =
    IfOk-weaker c.part_about.result _ _ (λ part made pairs. part_drawn c.args.names.now (whole_picture c.args.whole pairs) (whole_picture part pairs) c.is_empty.result c.is_empty.ensures c.if-is_empty.false (made pairs)) c.part_about.ensures
