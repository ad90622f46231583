use Rattle.camp_history.proofs.Words.{◌≡◌, [], sym, ap, subst, All-rest, All-drop, All-same, Shows, Mark, drop, seen_entries}
use Rattle.camp_row.specs.Chains as chain
use Rattle.camp_history.proofs.SnapshotLemmas.{Compared, compared_start, compared_step, compared_end, compared_other_end, same_next, seat_begins, begins_either, begins_asked, left_first}
use Rattle.camp_history.proofs.heads.Head.compare.Goals as goal

pub loop-mark-init : goal.loop-mark-init
loop-mark-init g c =
    let a = c.args.a.now in
    let b = c.args.b.now in
    let from = c.common_len_of_seats-from.result in
    let Stored : Mark g.row.State-Call.Denot → Type 0 = λ mark. Shows c.args.self.now.store mark.call in
    let start = compared_start a.marks b.marks from c.common_len_of_seats-from.ensures in
    let left : c.marks_from-marks.result ≡ drop from a.marks = c.marks_from-marks.ensures in
    let others : c.marks_from-others.result ≡ drop from b.marks = c.marks_from-others.ensures in
    record {
      compared = rw (left, others) start;
      stored = All-same Stored c.marks_from-marks.result (drop from a.marks) left (All-drop Stored from a.marks c.requires.seats.0.stored);
      others_stored = All-same Stored c.marks_from-others.result (drop from b.marks) others (All-drop Stored from b.marks c.requires.seats.1.stored);
    }

pub agrees-requires : goal.agrees-requires
agrees-requires g c =
    let past = c.loop-mark.invariant in
    let a = c.args.a.now in
    let b = c.args.b.now in
    let mark = c.in-Some.mark.now in
    let other = c.in-Some-next.other.now in
    let Stored : Mark g.row.State-Call.Denot → Type 0 = λ mark. Shows c.args.self.now.store mark.call in
    let entry = same_next a.known.ahead a.marks b.marks _ _ _ _ mark other c.in-Some.ensures c.in-Some-next.ensures (seat_begins a c.show_invariant.ensures.entries_are c.show_invariant.ensures.sound)
    (subst (λ ahead. chain.IsPrefix (seen_entries b) ahead) (sym c.requires.chain) (seat_begins b c.show_invariant-2.ensures.entries_are c.show_invariant-2.ensures.sound)) past.compared in
    let store : c.self.inside.calls ≡ c.args.self.now.store = ap (λ head. head.store) c.self.view_is in
    let one : Shows c.args.self.now.store mark.call = left_first Stored _ _ mark c.in-Some.ensures past.stored in
    let two : Shows c.args.self.now.store other.call = left_first Stored _ _ other c.in-Some-next.ensures past.others_stored in
    (rw store one, rw store two, ap (λ entry. entry.index) entry)

pub loop-mark-preserved : goal.loop-mark-preserved
loop-mark-preserved g c =
    let past = c.loop-mark.invariant in
    let a = c.args.a.now in
    let b = c.args.b.now in
    let mark = c.in-Some.mark.now in
    let other = c.in-Some-next.other.now in
    let Stored : Mark g.row.State-Call.Denot → Type 0 = λ mark. Shows c.args.self.now.store mark.call in
    let entry = same_next a.known.ahead a.marks b.marks _ _ _ _ mark other c.in-Some.ensures c.in-Some-next.ensures (seat_begins a c.show_invariant.ensures.entries_are c.show_invariant.ensures.sound)
    (subst (λ ahead. chain.IsPrefix (seen_entries b) ahead) (sym c.requires.chain) (seat_begins b c.show_invariant-2.ensures.entries_are c.show_invariant-2.ensures.sound)) past.compared in
    record {
      compared = compared_step a.marks b.marks _ _ _ _ mark other c.in-Some.ensures c.in-Some-next.ensures (λ k. (entry k, c.agrees.ensures k)) past.compared;
      stored = All-rest Stored _ _ _ c.in-Some.ensures past.stored;
      others_stored = All-rest Stored _ _ _ c.in-Some-next.ensures past.others_stored;
    }

pub returns-in_default-next-clause-b_shorter : goal.returns-in_default-next-clause-b_shorter
returns-in_default-next-clause-b_shorter g c = λ _.
    let a = c.args.a.now.marks in
    let b = c.args.b.now.marks in
    let ended : Compared a b c.loop-mark.marks [] = subst (λ list. Compared a b c.loop-mark.marks list) c.in_default-next.ensures c.loop-mark.invariant.compared in
    begins_asked b a (compared_other_end a b c.loop-mark.marks ended)

pub returns-clause-a_shorter : goal.returns-clause-a_shorter
returns-clause-a_shorter g c = λ _.
    let a = c.args.a.now.marks in
    let b = c.args.b.now.marks in
    let ended : Compared a b [] c.loop-mark.others = subst (λ list. Compared a b list c.loop-mark.others) c.in_default.ensures c.loop-mark.invariant.compared in
    begins_asked a b (compared_end a b c.loop-mark.others ended)

pub returns-clause-b_shorter : goal.returns-clause-b_shorter
returns-clause-b_shorter g c = λ short.
    let a = c.args.a.now.marks in
    let b = c.args.b.now.marks in
    let ended : Compared a b [] c.loop-mark.others = subst (λ list. Compared a b list c.loop-mark.others) c.in_default.ensures c.loop-mark.invariant.compared in
    begins_either a b (compared_end a b c.loop-mark.others ended) short
