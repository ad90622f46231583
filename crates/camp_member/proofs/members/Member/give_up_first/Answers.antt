use Rattle.std.proofs.Common.{◌≡◌, ◌++◌, map, take, Err, ◌∙◌, ap, subst}
use Rattle.camp_member.specs.Members.{Membership, without_reply}
use Rattle.camp_member.proofs.members.Member.give_up_first.Goals as goal

pub returns-clause-gives : goal.returns-clause-gives
returns-clause-gives g c =
    let M = Membership g.row.State.Denot g.row.State-Call.Denot g.row.State-Reply.Denot in
    let inside = c.self.inside in
    let new : M = record { seat = inside.seat; reading = inside.reader; is_stopped = inside.is_stopped; waiting = c.give_up.new.waiting.items; sent = 0; answers = c.give_up.new.answers.items } in
    let P : M → Type 0 = λ m. new ≡ without_reply c.args.why (record m { sent = c.args.count }) in
    let answers = c.give_up.ensures.answers ∙ ap (λ list. list ++ map (λ request. (request.id, Err c.args.why)) (take c.args.count inside.waiting.items)) c.reserve.ensures.items in
    subst P c.self.view_is (λ i. record { seat = inside.seat; reading = inside.reader; is_stopped = inside.is_stopped; waiting = c.give_up.ensures.waiting i; sent = 0; answers = answers i })
