use Rattle.camp_clients.proofs.Words.{◌∙◌, sym, arith, reported_position}
use Rattle.camp_clients.proofs.Positions.{done_at_more, done_at_end}
use Rattle.camp_clients.proofs.comparisons.next_done.Goals as goal

pub returns-in-Some : goal.returns-in-Some
returns-in-Some g c = c.loop-index.invariant
    ∙ done_at_more (reported_position g.State.Object.object) c.args.calls.now c.args.answers.now c.loop-index.index _ _ _ (omega arith) (omega arith)
    c.index-calls-index.is c.index-answers-index.is (sym c.reported_position.ensures ∙ c.in-Some.is)

pub loop-index-preserved : goal.loop-index-preserved
loop-index-preserved g c = c.loop-index.invariant
    ∙ done_at_more (reported_position g.State.Object.object) c.args.calls.now c.args.answers.now c.loop-index.index _ _ _ (omega arith) (omega arith)
    c.index-calls-index.is c.index-answers-index.is (sym c.reported_position.ensures ∙ c.in_default.is)

pub returns : goal.returns
returns g c = c.loop-index.invariant ∙ done_at_end (reported_position g.State.Object.object) c.args.calls.now c.args.answers.now c.loop-index.index (omega arith)
