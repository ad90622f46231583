use Rattle.camp_repo.proofs.Words.{subst, AllHold, catches_in}
use Rattle.camp_repo.proofs.states.State.agreed.Goals as goal

pub returns : goal.returns
returns c =
    let own = subst (λ s. AllHold s.branches c.self.inside.known) c.self.view_is c.self.invariant.known in
    c.between.ensures (catches_in c.args.self.now.branches) own
