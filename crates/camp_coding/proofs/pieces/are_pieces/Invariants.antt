use Rattle.std.proofs.Common.{◌≡◌, true, drop}
use Rattle.camp_coding.specs.Contents.{are_pieces_after}
use Rattle.camp_coding.proofs.pieces.are_pieces.Given as goal

abbrev pub invariant-pieces : goal.invariant-pieces
invariant-pieces l = are_pieces_after true l.stored ≡ are_pieces_after l.is_ended (drop l.piece-index l.stored)
