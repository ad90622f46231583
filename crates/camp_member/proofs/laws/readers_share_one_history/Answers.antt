use Rattle.camp_object.specs.Objects.{begun}
use Rattle.camp_member.proofs.Reading.{readers_agree, readers_share_one_history}
use Rattle.camp_member.proofs.laws.readers_share_one_history.Goals as goal

pub returns : goal.returns
returns g c = record {
  agree = λ first. readers_agree (begun g.State.Object.object first);
  law = λ first. readers_share_one_history (begun g.State.Object.object first);
}
