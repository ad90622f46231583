use Rattle.std.proofs.Common.{◌≡◌, ◌<◌}
use Rattle.camp_object.specs.Objects.{begun}
use Rattle.camp_member.specs.Telling.{MemberAdvances}
use Rattle.camp_member.specs.Wanting.{IsAtRest, IsStopped}
use Rattle.camp_member.proofs.members.Member.settle.Given as goal

abbrev pub invariant-loop : goal.invariant-loop
invariant-loop g l = record {
  rests : IsAtRest (begun g.State.Object.object l.fn.self.reading.first) l.fn.self → l.self ≡ l.fn.self;
  stays : 0 < l.fn.self.sent → l.self ≡ l.fn.self;
  reading : l.self.reading ≡ l.fn.self.reading;
  is_stopped : l.self.is_stopped ≡ l.fn.self.is_stopped;
  sent : l.self.sent ≡ l.fn.self.sent;
  goes : MemberAdvances (begun g.State.Object.object l.fn.self.reading.first) (IsStopped (begun g.State.Object.object l.fn.self.reading.first) l.fn.self) l.fn.self l.self;
}
