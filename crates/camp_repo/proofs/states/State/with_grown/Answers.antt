use Rattle.camp_repo.proofs.Words.{sym, subst, AllHold, placed}
use Rattle.camp_repo.proofs.BeginningSteps.{all_grown}
use Rattle.camp_repo.proofs.states.State.with_grown.Goals as goal

pub with_branch_at-requires-clause-known : goal.with_branch_at-requires-clause-known
with_branch_at-requires-clause-known c =
    let branches = c.args.self.now.branches in
    let grown = c.requires.grown in
    let own = subst (λ s. AllHold s.branches c.self.inside.known) c.self.view_is c.self.invariant.known in
    let known = subst (AllHold branches) (sym c.in_ok-known.ensures) own in
    subst (λ b. AllHold (placed branches c.args.place b) c.in_ok-known.known) (sym grown.3)
    (all_grown branches c.args.place grown.0 grown.1 grown.2 c.in_ok-known.known known)
