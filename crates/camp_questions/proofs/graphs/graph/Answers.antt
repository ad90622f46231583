use Rattle.camp_questions.proofs.Words.{IsGraph}
use Rattle.camp_questions.proofs.Answering.{such_told}
use Rattle.camp_questions.proofs.GraphSteps.{drawn_in, is_drawn}
use Rattle.camp_questions.proofs.graphs.graph.Goals as goal

pub returns : goal.returns
returns c =
    let branch = c.in_ok-branch.branch.now in
    record { exact = such_told c.args.state.now c.args.branch.now c.in_ok-branch.ensures IsGraph c.graph_of.result c.answer_or_memory.result c.answer_or_memory.ensures c.graph_of.ensures (drawn_in branch) (is_drawn branch) }
