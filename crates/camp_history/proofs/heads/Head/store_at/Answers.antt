use Rattle.camp_history.proofs.Words.{All-same, Shows}
use Rattle.camp_history.proofs.SnapshotLemmas.{all_in}
use Rattle.camp_history.proofs.heads.Head.store_at.Goals as goal

pub set_written-requires : goal.set_written-requires
set_written-requires g c =
    let store = c.args.self.now.store in
    all_in store c.in_ok-slot.field-0.now.tag c.in_ok-slot.ensures.tag c.args.snapshot (All-same (λ mark. Shows store mark.call) c.args.snapshot c.args.seat.now.marks c.requires.is c.requires.seat.stored)
