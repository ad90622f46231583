use Rattle.camp_object.specs.Objects.{begun}
use Rattle.camp_member.proofs.Settling.{finds_on}
use Rattle.camp_member.proofs.laws.members_follow_the_log.Goals as goal

pub returns : goal.returns
returns g c = record { law = λ first. finds_on (begun g.State.Object.object first) }
