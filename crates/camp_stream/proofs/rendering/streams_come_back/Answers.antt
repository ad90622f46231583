use Rattle.camp_stream.proofs.CommandLaws.{streams_back}
use Rattle.camp_stream.proofs.rendering.streams_come_back.Goals as goal

pub returns : goal.returns
returns c = streams_back
