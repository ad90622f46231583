use Rattle.camp_object.specs.Objects.{begun}
use Rattle.camp_member.specs.Laws.{AnyReason}
use Rattle.camp_member.proofs.Settling.{goes_anyhow, goes_through, nobody_is_busy}
use Rattle.camp_member.proofs.Telling.{told_accepted}
use Rattle.camp_member.proofs.laws.members_are_answered_once.Goals as goal

pub returns : goal.returns
returns g c = record {
  goes_on = λ first. goes_through (begun g.State.Object.object first) AnyReason;
  anyhow = λ first. goes_anyhow (begun g.State.Object.object first);
  once = λ first. told_accepted (begun g.State.Object.object first) AnyReason;
  not_busy = nobody_is_busy;
}
