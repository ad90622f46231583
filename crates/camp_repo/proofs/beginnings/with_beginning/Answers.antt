use Rattle.camp_repo.proofs.BeginningSteps.{pushed_hold, removed_hold, replaced_hold}
use Rattle.camp_repo.proofs.beginnings.with_beginning.Goals as goal

pub returns-in-Some : goal.returns-in-Some
returns-in-Some c = replaced_hold c.args.known.now c.in-Some.at _ c.replaced.result c.replaced.ensures.exact

pub returns-then-len-lt-MAX_PAIRS : goal.returns-then-len-lt-MAX_PAIRS
returns-then-len-lt-MAX_PAIRS c = pushed_hold c.args.known.now c.args.known.now _ (λ branches w. w) c.pushed.result c.pushed.ensures.exact

pub returns : goal.returns
returns c =
    pushed_hold c.args.known.now c.in_ok-others.others _ (removed_hold c.args.known.now c.in_ok-others.others c.in_ok-others.ensures.exact) c.pushed-2.result c.pushed-2.ensures.exact
