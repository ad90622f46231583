use Rattle.camp_object.specs.Objects.{begun}
use Rattle.camp_member.proofs.SnapshotLemmas.{counted_are_snapshot, nothing_is_restored, restores_on, snapshot_stands}
use Rattle.camp_member.proofs.laws.snapshots_stand_for_the_log.Goals as goal

pub returns : goal.returns
returns g c = record {
  starts = λ first. nothing_is_restored (begun g.State.Object.object first);
  goes_on = λ first. restores_on (begun g.State.Object.object first);
  stands = λ first. snapshot_stands (begun g.State.Object.object first);
  counted = λ first. counted_are_snapshot (begun g.State.Object.object first);
}
