use Rattle.std.proofs.Common.{◌<◌, ◌≤◌, length, refl, arith}
use Rattle.camp_coding.proofs.ContentLemmas.{last_piece_taken, piece_taken}
use Rattle.camp_coding.proofs.wrapping.append_wrapped.Goals as goal

pub pieces-init : goal.pieces-init
pieces-init c = (length c.args.line.now, omega arith, refl)

pub pieces-preserved : goal.pieces-preserved
pieces-preserved c =
    let long : 4_095 < length c.pieces.rest.now = omega (arith, c.pieces-test.true) in
    piece_taken _ _ c.pieces.rest.now c.split_at.result.0.now c.split_at.result.1.now c.pieces.invariant.0 _ long c.pieces.invariant.1 c.pieces.invariant.2 c.split_at.ensures.front c.split_at.ensures.back c.in_ok-append_marked.ensures

pub returns : goal.returns
returns c =
    let short : length c.pieces.rest.now ≤ 4_095 = omega (arith, c.pieces-test.false) in
    last_piece_taken _ _ c.pieces.rest.now c.pieces.invariant.0 _ short c.pieces.invariant.2 c.in_ok-append_marked-2.ensures
