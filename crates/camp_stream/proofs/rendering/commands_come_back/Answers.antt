use Rattle.camp_stream.proofs.CommandLaws.{commands_back}
use Rattle.camp_stream.proofs.rendering.commands_come_back.Goals as goal

pub returns : goal.returns
returns c = commands_back
