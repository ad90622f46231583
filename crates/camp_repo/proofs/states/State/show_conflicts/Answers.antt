use Rattle.camp_repo.proofs.Words.{ap, ◌∙◌, Answer}
use Rattle.camp_call.specs.declared.replies.Reply.TheVariants as reply
use Rattle.camp_repo.proofs.DecideSteps.{conflicts_shown}
use Rattle.camp_repo.proofs.states.State.show_conflicts.Goals as goal

pub returns-clause-exact : goal.returns-clause-exact
returns-clause-exact c =
    ap (λ l. Answer (reply.Conflicts l)) c.new.ensures.exact ∙ conflicts_shown c.args.self.now c.args.branch.now c.in_Some-branch.branch.now c.in_ok-pairs.pairs.items c.in_Some-branch.ensures.value c.in_ok-pairs.ensures.exact
