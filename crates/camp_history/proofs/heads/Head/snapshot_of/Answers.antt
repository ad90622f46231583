use Rattle.camp_history.proofs.SnapshotLemmas.{all_shown}
use Rattle.camp_history.proofs.heads.Head.snapshot_of.Goals as goal

pub returns-clause-stored : goal.returns-clause-stored
returns-clause-stored g c =
    all_shown c.args.self.now.store c.in_ok-slot.slot.now.tag c.in_ok-slot.ensures.tag c.value.result.now c.value.ensures.1
