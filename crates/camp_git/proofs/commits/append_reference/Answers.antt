use Rattle.std.proofs.lemmas.Result.{IfOk-weaker}
use Rattle.camp_git.proofs.OneLine.{name_in_line}
use Rattle.camp_git.proofs.commits.append_reference.Goals as goal

pub returns-clause-named : goal.returns-clause-named
returns-clause-named c =
    IfOk-weaker c.append_parts.result _ _ (λ done is. name_in_line c.args.branch.now c.bytes.ensures.form) c.append_parts.ensures
