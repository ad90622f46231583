use Rattle.camp_history.proofs.Words.{begins_through, begins_self, map, entry_and_call}
use Rattle.camp_history.proofs.SnapshotLemmas.{share_of}
use Rattle.camp_history.proofs.heads.Head.common_len.Goals as goal

pub returns-in-Some : goal.returns-in-Some
returns-in-Some g c =
    share_of c.loop.way.now.snapshot.snapshot.value c.args.seat.now.marks c.args.link.now.snapshot.snapshot.value c.in-Some.len c.in-Some.ensures.length c.in-Some.ensures.begins c.loop.invariant.begins

pub loop-preserved : goal.loop-preserved
loop-preserved g c = record { made = c.in-Some-parent_link.ensures.is; begins = begins_through c.in-Some-parent_link.ensures.begins c.loop.invariant.begins }

pub loop-init : goal.loop-init
loop-init g c = record { made = c.requires.link; begins = begins_self (map entry_and_call c.args.link.now.snapshot.snapshot.value) }
