use Rattle.std.proofs.Common.{◌≡◌, refl, subst}
use Rattle.camp_object.specs.Histories.{IsLegal}
use Rattle.camp_object.specs.Objects.{begun}
use Rattle.camp_member.specs.Members.{Membership}
use Rattle.camp_member.specs.declared.requests.NoReply.TheVariants.{Ended}
use Rattle.camp_member.proofs.Settling.{ends_so, refused_or_not}
use Rattle.camp_member.proofs.members.Member.ended.Goals as goal

pub returns-clause-ends : goal.returns-clause-ends
returns-clause-ends g c =
    let ends = c.if-not-waits_at_end.ensures in
    ends_so (begun g.State.Object.object c.args.self.now.reading.first) c.args.self.now c.give_up_first.new.self c.args.index ends.0 ends.1 ends.2 c.give_up_first.result c.give_up_first.ensures.gives

pub returns-clause-goes : goal.returns-clause-goes
returns-clause-goes g c =
    let Legal : Membership g.row.State.Denot g.row.State-Call.Denot g.row.State-Reply.Denot → Type 0 = λ m. IsLegal (begun g.State.Object.object m.reading.first) m.reading.history in
    refused_or_not (begun g.State.Object.object c.args.self.now.reading.first) (λ _ why. why ≡ Ended) Ended (λ _. refl) c.args.self.now c.give_up_first.new.self 1 c.give_up_first.result
    (subst Legal c.self.view_is c.position-position.ensures.legal) c.give_up_first.ensures.gives c.give_up_first.ensures.stays
