use Rattle.camp_repo.proofs.Words.{◌∙◌, ap, sym, first_lacked, listed}
use Rattle.camp_repo.proofs.NameSteps.{none_lacked}
use Rattle.camp_repo.proofs.name_lists.first_lacked.Goals as goal

pub returns-in-None : goal.returns-in-None
returns-in-None c =
    let branch = c.args.branch.now in
    sym (ap (λ names. first_lacked branch (listed branch names)) c.in-None.is ∙ none_lacked branch)
