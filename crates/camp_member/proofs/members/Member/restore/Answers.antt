use Rattle.camp_object.specs.Objects.{begun}
use Rattle.camp_member.proofs.SnapshotLemmas.{restored_goes}
use Rattle.camp_member.proofs.members.Member.restore.Goals as goal

pub returns-clause-goes : goal.returns-clause-goes
returns-clause-goes g c =
    let old = c.args.self.now in
    restored_goes (begun g.State.Object.object old.reading.first) old c.restore_other.new.self c.args.index c.args.found.now c.restore_other.result c.restore_other.ensures
