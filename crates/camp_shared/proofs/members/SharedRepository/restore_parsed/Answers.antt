use Rattle.std.proofs.Common.{◌+◌, ◌≤◌, sym, subst}
use Rattle.camp_shared.specs.Sharing.{Sharing}
use Rattle.camp_shared.proofs.RestoreLemmas.{parsed_in_order, room_restored}
use Rattle.camp_shared.proofs.members.SharedRepository.restore_parsed.Goals as goal

pub unreachable-requires : goal.unreachable-requires
unreachable-requires c =
    let at : c.self.inside.member.reading.index + 1 ≤ c.args.index = subst (λ (m : Sharing). m.reading.index + 1 ≤ c.args.index) (sym c.self.view_is) c.requires.at in
    parsed_in_order c.self.inside.member c.restore.new.self c.args.index c.args.found.now at _ (rw (c.in-Err-OutOfOrder.is, c.in-Err-OutOfOrder.field-0-is) at c.restore.ensures.restores)

pub invariant_of-self : goal.invariant_of-self
invariant_of-self c =
    let at : c.self.inside.member.reading.index + 1 ≤ c.args.index = subst (λ (m : Sharing). m.reading.index + 1 ≤ c.args.index) (sym c.self.view_is) c.requires.at in
    room_restored c.self.inside.member c.restore.new.self c.args.index c.args.found.now at c.restore.result c.self.invariant c.requires.room c.restore.ensures.restores
