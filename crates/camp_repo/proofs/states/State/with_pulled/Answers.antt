use Rattle.camp_repo.proofs.Words.{sym, subst, AgreesIn, AllHold, catches_in, placed}
use Rattle.camp_repo.proofs.BeginningSteps.{all_grown}
use Rattle.camp_repo.proofs.states.State.with_pulled.Goals as goal

pub with_branch_at-requires-clause-known : goal.with_branch_at-requires-clause-known
with_branch_at-requires-clause-known c =
    let branches = c.args.self.now.branches in
    let grown = c.requires.grown in
    let own = subst (λ s. AllHold s.branches c.self.inside.known) c.self.view_is c.self.invariant.known in
    let new : AgreesIn (catches_in branches) (record { from = c.args.from; to = c.args.place; long = c.args.agreed }) = record { theirs = grown.0; ours = grown.1; from_is = grown.3; to_is = grown.4; agree = grown.5 } in
    let known = c.in_ok-known.ensures (catches_in branches) own new in
    subst (λ b. AllHold (placed branches c.args.place b) c.in_ok-known.known) (sym grown.6)
    (all_grown branches c.args.place grown.1 grown.2 grown.4 c.in_ok-known.known known)
