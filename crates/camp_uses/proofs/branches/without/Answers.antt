use Rattle.camp_uses.proofs.Words.{Ok, names_in, ObliterateGives}
use Rattle.camp_uses.proofs.branches.without.Goals as goal

pub returns-in-Ok-clause-names : goal.returns-in-Ok-clause-names
returns-in-Ok-clause-names c =
    let gives : ObliterateGives c.args.branch.now (names_in c.args.names.now) (Ok c.in-Ok.left) = c.in-Ok.ensures.exact in
    c.obliterates_keep_lawful.ensures.law.names _ _ _ gives c.catches-lawful.ensures.lawful
