use Rattle.std.proofs.Common.{◌≡◌, ◌+◌, ◌-◌, sym, subst, arith}
use Rattle.camp_shared.specs.Sharing.{Sharing}
use Rattle.camp_shared.proofs.FindLemmas.{in_order}
use Rattle.camp_shared.proofs.KeepLemmas.{room_found}
use Rattle.camp_shared.proofs.members.SharedRepository.read_next.Goals as goal

pub unreachable-requires : goal.unreachable-requires
unreachable-requires c =
    let at : c.args.index ≡ c.self.inside.member.reading.index + 1 = subst (λ (m : Sharing). c.args.index ≡ m.reading.index + 1) (sym c.self.view_is) c.requires.at in
    in_order c.self.inside.member c.found.new.self c.args.index c.args.found.now at _ (rw (c.in-Err-OutOfOrder.is, c.in-Err-OutOfOrder.field-0-is) at c.found.ensures.finds)

pub invariant_of-self : goal.invariant_of-self
invariant_of-self c =
    let at : c.args.index ≡ c.self.inside.member.reading.index + 1 = subst (λ (m : Sharing). c.args.index ≡ m.reading.index + 1) (sym c.self.view_is) c.requires.at in
    let room = c.requires.room in
    room_found c.self.inside.member c.found.new.self (c.args.index - 1) c.args.found.now c.found.result c.self.invariant (omega (arith, at, room)) c.found.ensures.goes c.found.ensures.finds
