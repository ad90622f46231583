use Rattle.camp_object.specs.Objects.{begun}
use Rattle.camp_object.proofs.Beginnings.{length-beginning}
use Rattle.std.proofs.Common.{take}
use Rattle.camp_member.proofs.Telling.{batch_stays, reads_grow}
use Rattle.camp_member.proofs.members.Member.read_other.Goals as goal

pub invariant_of-self : goal.invariant_of-self
invariant_of-self g c =
    let object = g.State.Object.object in
    let old = c.self.inside.reader in
    let new = c.take.new.self in
    let grows = reads_grow (begun object old.first) old new c.args.found.now c.in-Ok.field-0.items c.in-Ok.ensures.reads c.in-Ok.ensures.some in (
      c.self.invariant.0,
      λ some. batch_stays object old.history new.history (take c.self.inside.sent c.self.inside.waiting.items) (length-beginning grows) (c.self.invariant.1 some),
    )
