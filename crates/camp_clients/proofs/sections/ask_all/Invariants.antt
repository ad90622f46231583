use Rattle.camp_clients.proofs.Words.{◌≡◌, ◌+◌, ◌≤◌, false, length, count_by, drop, take, own, SectionStep, Section, vec_capacity, vec_len, begun}
use Rattle.camp_clients.proofs.sections.ask_all.Given as goal

abbrev pub invariant-loop-call : goal.invariant-loop-call
invariant-loop-call g l = record {
  keeps : g.D.Desk.keeps l.initial.desk l.desk;
  caller : g.D.Desk.caller l.desk ≡ g.D.Desk.caller l.initial.desk;
  first : g.D.Desk.first l.desk ≡ g.D.Desk.first l.initial.desk;
  section : Section (SectionStep (begun g.State.Object.object (g.D.Desk.first l.initial.desk)) (g.D.Desk.caller l.initial.desk)) (g.D.Desk.seen l.initial.desk)
      (take l.call-index l.calls) l.answers.items (g.D.Desk.seen l.desk);
  room : (g.D.Desk.caller l.initial.desk).alone ≡ false
      → length (own (g.D.Desk.caller l.initial.desk).seat (g.D.Desk.seen l.desk))
      + count_by g.State.Object.object.is_writing (drop l.call-index l.calls)
      ≤ (g.D.Desk.caller l.initial.desk).per_seat;
  so_far : vec_len l.answers ≡ l.call-index;
  space : length l.calls ≤ vec_capacity l.answers;
}
