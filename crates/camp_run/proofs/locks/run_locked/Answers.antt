use Rattle.camp_run.proofs.Words.{IsLocked, repository_within}
use Rattle.camp_run.proofs.Written.{written}
use Rattle.camp_run.proofs.locks.run_locked.Goals as goal

pub returns : goal.returns
returns g c = record {
  runs =
      written (IsLocked (repository_within c.args.limits)) c.args.history _ _ _ _ c.in_ok-script.script c.in-Ok.text.items c.deref.result.now c.write_output.result
      c.in_ok-script.ensures.script c.in-Ok.ensures c.deref.ensures.value c.write_output.ensures;
}
