use Rattle.std.proofs.Common.{◌≡◌, IfSome, take, sym, subst, arith}
use Rattle.std.proofs.lemmas.List.{length-take-le}
use Rattle.camp_object.specs.Objects.{begun}
use Rattle.camp_member.specs.Members.{Membership, under_way}
use Rattle.camp_member.proofs.Telling.{replies_fit}
use Rattle.camp_member.proofs.members.Member.read_own.Goals as goal

pub give-requires-clause-room : goal.give-requires-clause-room
give-requires-clause-room g c =
    let old = c.self.inside.reader in
    let P : Membership g.row.State.Denot g.row.State-Call.Denot g.row.State-Reply.Denot → Type 0 = λ m. IfSome c.args.found.now (λ entry. entry.calls ≡ under_way m) in
    let fit = replies_fit (begun g.State.Object.object old.first) old c.take.new.self c.args.found.now c.in-Ok.replies.items (take c.self.inside.sent c.self.inside.waiting.items) c.in-Ok.ensures.reads c.in-Ok.ensures.some
    (subst P (sym c.self.view_is) c.requires.calls) in
    let all = length-take-le c.self.inside.sent c.self.inside.waiting.items c.self.invariant.0 in
    let room = c.in_ok-reserve.ensures.ok in
    let size = c.reserve.new.self.ok.0 in
    omega (arith, fit, all, room, size)

pub give-requires-clause-enough : goal.give-requires-clause-enough
give-requires-clause-enough g c =
    let old = c.self.inside.reader in
    let P : Membership g.row.State.Denot g.row.State-Call.Denot g.row.State-Reply.Denot → Type 0 = λ m. IfSome c.args.found.now (λ entry. entry.calls ≡ under_way m) in
    let fit = replies_fit (begun g.State.Object.object old.first) old c.take.new.self c.args.found.now c.in-Ok.replies.items (take c.self.inside.sent c.self.inside.waiting.items) c.in-Ok.ensures.reads c.in-Ok.ensures.some
    (subst P (sym c.self.view_is) c.requires.calls) in
    let all = length-take-le c.self.inside.sent c.self.inside.waiting.items c.self.invariant.0 in
    let within = c.self.invariant.0 in
    omega (arith, fit, all, within)
