use Rattle.camp_repo.proofs.BeginningSteps.{from_copy, to_copy}
use Rattle.camp_repo.proofs.beginnings.of_copy.Goals as goal

pub returns-then-from-of : goal.returns-then-from-of
returns-then-from-of c branches w same = from_copy branches c.args.beginning.now c.args.of c.args.copy c.if-from-of.true w same

pub returns-then-to-of : goal.returns-then-to-of
returns-then-to-of c branches w same = to_copy branches c.args.beginning.now c.args.of c.args.copy c.if-to-of.true w same
