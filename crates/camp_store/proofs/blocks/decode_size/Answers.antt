use Rattle.camp_store.proofs.Words.{Some, ap, ◌∙◌}
use Rattle.camp_store.proofs.HeadLemmas.{size_not_read, size_read}
use Rattle.camp_store.proofs.blocks.decode_size.Goals as goal

pub returns-in-Ok : goal.returns-in-Ok
returns-in-Ok c before text fits is =
    ap Some (c.from_be_bytes.ensures ∙ size_read before text c.args.line.now c.from_hex.result c.in-Ok.bytes fits is c.from_hex.ensures c.in-Ok.is)

pub returns-in-Err : goal.returns-in-Err
returns-in-Err c before text fits is =
    absurd (size_not_read before text c.args.line.now c.from_hex.result c.in-Err.field-0 is c.from_hex.ensures c.in-Err.is)
