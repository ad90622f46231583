use Rattle.std.proofs.Common.{rules}
use Rattle.camp_talk.proofs.FrameLemmas.{begins_frame}
use Rattle.camp_talk.proofs.engine.frames.begin_with_frame.Goals as goal

pub returns : goal.returns
returns c = λ yes. begins_frame c.args.bytes.now c.line_len-feed.result c.in-Ok.count c.line_len-feed.ensures.place (search rules) c.in-Ok.ensures (search rules)
