use Rattle.camp_history.proofs.Words.{◌≡◌, ◌∷◌, [], ◌++◌, ◌∙◌, sym, ap, map, length, length-append, length-map, arith, All-rest, All-same, Shows, Mark, seat_and_call, append_assoc}
use Rattle.camp_history.proofs.SnapshotLemmas.{left_first}
use Rattle.camp_history.proofs.heads.Head.history.Goals as goal

pub loop-mark-init : goal.loop-mark-init
loop-mark-init g c =
    let marks = c.args.seat.now.marks in
    let whole : c.marks_from-marks.result ≡ marks = c.marks_from-marks.ensures in
    record {
      so_far = ap (λ items. items ++ map seat_and_call c.marks_from-marks.result) c.in_ok-history.ensures.items ∙ ap (map seat_and_call) whole;
      stored = All-same (λ mark. Shows c.args.self.now.store mark.call) c.marks_from-marks.result marks whole c.requires.stored;
      room = omega (arith, ap length whole, length-map c.args.seat.now.marks seat_and_call, c.in_ok-history.ensures.len, c.in_ok-history.ensures.capacity, c.position.ensures.exact);
    }

pub value-requires : goal.value-requires
value-requires g c =
    let Stored : Mark g.row.State-Call.Denot → Type 0 = λ mark. Shows c.args.self.now.store mark.call in
    let store : c.self.inside.calls ≡ c.args.self.now.store = ap (λ head. head.store) c.self.view_is in
    rw store (left_first Stored c.loop-mark.marks c.next.new.self c.in-Some.mark.now c.in-Some.ensures c.loop-mark.invariant.stored)

pub loop-mark-preserved : goal.loop-mark-preserved
loop-mark-preserved g c =
    let past = c.loop-mark.invariant in
    let mark = c.in-Some.mark.now in
    let left = c.next.new.self in
    let items = c.loop-mark.history.items in
    let first : c.loop-mark.marks ≡ mark ∷ left = c.in-Some.ensures in
    let call : c.in_ok-call.call ≡ mark.call.value = c.in_ok-call.ensures ∙ c.value.ensures in
    let pushed : c.push_reserved.new.self.items ≡ items ++ seat_and_call mark ∷ [] = c.push_reserved.ensures.items ∙ ap (λ call. items ++ (mark.seat, call) ∷ []) call in
    record {
      so_far =
          ap (λ list. list ++ map seat_and_call left) pushed
          ∙ append_assoc items (seat_and_call mark ∷ []) (map seat_and_call left)
          ∙ ap (λ list. items ++ map seat_and_call list) (sym first)
          ∙ past.so_far;
      stored = All-rest (λ mark. Shows c.args.self.now.store mark.call) mark left c.loop-mark.marks first past.stored;
      room = omega (arith, ap length first, past.room, c.push_reserved.ensures.len, c.push_reserved.ensures.capacity);
    }

pub returns-in_err-call-clause-empty : goal.returns-in_err-call-clause-empty
returns-in_err-call-clause-empty g c = λ none.
    let past = c.loop-mark.invariant in
    absurd (omega (arith, ap length past.so_far, ap length none, ap length c.in-Some.ensures, length-append c.loop-mark.history.items (map seat_and_call c.loop-mark.marks), length-map c.loop-mark.marks seat_and_call))
