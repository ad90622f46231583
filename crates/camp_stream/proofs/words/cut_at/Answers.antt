use Rattle.std.proofs.Common.{arith}
use Rattle.camp_stream.proofs.ItemLemmas.{cut_by_parts}
use Rattle.camp_stream.proofs.words.cut_at.Goals as goal

pub returns-clause-exact : goal.returns-clause-exact
returns-clause-exact c =
    cut_by_parts c.args.mark c.len_before-len.result c.args.bytes.now _ _ c.len_before-len.ensures.place (omega (arith, c.if-len-bytes.false)) c.split_at.ensures.front c.split_at.ensures.back
