use Rattle.std.proofs.Common.{◌<◌, sym, subst, take}
use Rattle.camp_object.specs.Objects.{begun}
use Rattle.camp_object.proofs.Beginnings.{length-beginning}
use Rattle.camp_member.specs.Readings.{Reading}
use Rattle.camp_member.specs.Wanting.{FitsEntry}
use Rattle.camp_member.proofs.SnapshotLemmas.{restores_grow}
use Rattle.camp_member.proofs.Telling.{batch_stays}
use Rattle.camp_member.proofs.members.Member.restore_other.Goals as goal

pub invariant_of-self : goal.invariant_of-self
invariant_of-self g c =
    let P : Reading g.row.State.Denot g.row.State-Call.Denot → Type 0 = λ r. 0 < c.self.inside.sent → FitsEntry g.State.Object.object r.history (take c.self.inside.sent c.self.inside.waiting.items) in
    (c.self.invariant.0, subst P (sym c.in_err-restore.ensures.stays) c.self.invariant.1)

pub invariant_of-self-2 : goal.invariant_of-self-2
invariant_of-self-2 g c =
    let object = g.State.Object.object in
    let old = c.self.inside.reader in
    let new = c.restore.new.self in
    let grows = restores_grow (begun object old.first) old new c.args.index c.args.found.now c.in_ok-restore.ensures.restores c.in_ok-restore.ensures.some in (
      c.self.invariant.0,
      λ some. batch_stays object old.history new.history (take c.self.inside.sent c.self.inside.waiting.items) (length-beginning grows) (c.self.invariant.1 some),
    )
