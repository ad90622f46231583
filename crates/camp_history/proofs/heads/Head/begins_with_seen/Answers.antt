use Rattle.camp_history.proofs.Words.{◌≡◌, refl, All-rest, All-drop, All-same, Shows, Mark, drop}
use Rattle.camp_history.proofs.SnapshotLemmas.{compared_start, compared_step, left_first}
use Rattle.camp_history.proofs.heads.Head.begins_with_seen.Goals as goal

pub loop-mark-init : goal.loop-mark-init
loop-mark-init g c =
    let seat = c.args.seat.now in
    let snapshot = c.args.snapshot.now in
    let Stored : Mark g.row.State-Call.Denot → Type 0 = λ mark. Shows c.args.self.now.store mark.call in
    let start = compared_start seat.marks snapshot c.args.from c.requires.from in
    let left : c.marks_from-marks.result ≡ drop c.args.from seat.marks = c.marks_from-marks.ensures in
    let others : c.marks_from-others.result ≡ drop c.args.from snapshot = c.marks_from-others.ensures in
    record {
      compared = rw (left, others) start;
      stored = All-same Stored c.marks_from-marks.result (drop c.args.from seat.marks) left (All-drop Stored c.args.from seat.marks c.requires.seat.stored);
      others_stored = All-same Stored c.marks_from-others.result (drop c.args.from snapshot) others (All-drop Stored c.args.from snapshot c.requires.snapshot);
    }

pub is_same-requires : goal.is_same-requires
is_same-requires g c =
    let past = c.loop-mark.invariant in
    let Stored : Mark g.row.State-Call.Denot → Type 0 = λ mark. Shows c.args.self.now.store mark.call in (
      left_first Stored c.loop-mark.marks c.next.new.self c.in-Some.mark.now c.in-Some.ensures past.stored,
      left_first Stored c.loop-mark.others c.next-in-Some.new.self c.in-Some-next.other.now c.in-Some-next.ensures past.others_stored,
    )

pub loop-mark-preserved : goal.loop-mark-preserved
loop-mark-preserved g c =
    let past = c.loop-mark.invariant in
    let Stored : Mark g.row.State-Call.Denot → Type 0 = λ mark. Shows c.args.self.now.store mark.call in
    record {
      compared = compared_step _ _ _ _ _ _ _ _ c.in-Some.ensures c.in-Some-next.ensures (c.if-not-is_same.ensures refl) past.compared;
      stored = All-rest Stored _ _ _ c.in-Some.ensures past.stored;
      others_stored = All-rest Stored _ _ _ c.in-Some-next.ensures past.others_stored;
    }
