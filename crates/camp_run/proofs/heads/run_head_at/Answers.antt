use Rattle.camp_run.proofs.Words.{IsShared, repository_within}
use Rattle.camp_run.proofs.Written.{written}
use Rattle.camp_run.proofs.heads.run_head_at.Goals as goal

pub returns-clause-runs : goal.returns-clause-runs
returns-clause-runs g c =
    written (IsShared (repository_within c.args.limits) c.args.tries) c.args.history _ _ _ _ c.in_ok-script.script c.in_ok-text.text.items c.deref.result.now c.write_output.result
    c.in_ok-script.ensures.script c.in_ok-text.ensures c.deref.ensures.value c.write_output.ensures
