use Rattle.camp_object.specs.Objects.{begun}
use Rattle.camp_member.proofs.Reading.{nothing_is_read, reads_on, stops_at_foreign}
use Rattle.camp_member.proofs.laws.readers_follow_the_log.Goals as goal

pub returns : goal.returns
returns g c = record {
  starts = λ first. nothing_is_read (begun g.State.Object.object first);
  goes_on = λ first. reads_on (begun g.State.Object.object first);
  stops = λ first. stops_at_foreign (begun g.State.Object.object first);
}
