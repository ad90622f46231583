use Rattle.camp_kept_talk.proofs.Promising.{promises_kept}
use Rattle.camp_kept_talk.proofs.laws.stores_keep_promises.Goals as goal

pub returns : goal.returns
returns g c = record {
  law = λ kept_of. promises_kept g.D.Disk.seen g.D.Disk.may_leave g.D.Disk.faults g.D.Disk.is_clean g.B.Backend g.F.Framing kept_of;
}
