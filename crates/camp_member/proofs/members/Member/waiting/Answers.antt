use Rattle.std.proofs.Common.{◌≤◌, length, subst}
use Rattle.camp_member.specs.Members.{Membership}
use Rattle.camp_member.proofs.members.Member.waiting.Goals as goal

pub returns-clause-within : goal.returns-clause-within
returns-clause-within g c =
    let Within : Membership g.row.State.Denot g.row.State-Call.Denot g.row.State-Reply.Denot → Type 0 = λ m. m.sent ≤ length m.waiting in
    subst Within c.self.view_is c.self.invariant.0
