use Rattle.camp_history.proofs.Words.{◌<◌, length, IsLegal, own, Loses, IsSeatOf, history_of, SeesMore, begun}
use Rattle.camp_history.proofs.heads.Head.ask_writing.Given as goal

abbrev pub invariant-loop-lost : goal.invariant-loop-lost
invariant-loop-lost g l = record {
  of : IsSeatOf l.self l.seat;
  more : SeesMore l.fn.seat l.seat;
  legal : IsLegal (begun g.State.Object.object l.self.first) (history_of l.seat);
  loses : Loses (begun g.State.Object.object l.self.first) l.call.value l.lost (history_of l.fn.seat) (history_of l.seat);
  room : 0 < l.lost → length (own l.fn.seat.known.number (history_of l.fn.seat)) < l.self.row.per_seat;
}
