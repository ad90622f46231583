use Rattle.std.proofs.Common.{◌≡◌, true, take}
use Rattle.camp_coding.specs.Contents.{stored_text}
use Rattle.camp_coding.proofs.pieces.join_pieces.Given as goal

abbrev pub invariant-loop-piece : goal.invariant-loop-piece
invariant-loop-piece l = l.text.items ≡ stored_text true (take l.piece-index l.stored)
