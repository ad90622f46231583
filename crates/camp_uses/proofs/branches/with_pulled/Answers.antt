use Rattle.camp_uses.proofs.Words.{Ok, names_in, PullGives}
use Rattle.camp_uses.proofs.branches.with_pulled.Goals as goal

pub returns-in-Ok-clause-names : goal.returns-in-Ok-clause-names
returns-in-Ok-clause-names c =
    let gives : PullGives c.args.from.now c.args.to.now (names_in c.args.wanted.now) (Ok c.in-Ok.pulled) = c.in-Ok.ensures.exact in
    c.pulls_keep_lawful.ensures.law.names _ _ _ _ gives c.catches-theirs.ensures.lawful c.catches-ours.ensures.lawful c.requires
