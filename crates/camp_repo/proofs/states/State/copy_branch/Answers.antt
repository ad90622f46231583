use Rattle.camp_repo.proofs.Words.{◌∙◌, sym}
use Rattle.camp_branch.proofs.PullSteps.{none_found}
use Rattle.camp_repo.proofs.Effects.{copy_lawful}
use Rattle.camp_repo.proofs.states.State.copy_branch.Goals as goal

pub with_copy-requires-clause-lawful : goal.with_copy-requires-clause-lawful
with_copy-requires-clause-lawful c =
    copy_lawful c.args.self.now c.args.new.now c.args.from.now c.in-Some.branch.now c.in-Some.ensures.lawful c.in-Some.ensures.value (none_found _ c.branch-self.result (sym c.is_some.ensures ∙ c.if-is_some.false) c.branch-self.ensures.value)
