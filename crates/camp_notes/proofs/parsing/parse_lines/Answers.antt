use Rattle.std.proofs.Common.{◌≡◌, length, arith}
use Rattle.camp_notes.proofs.LineLemmas.{too_long}
use Rattle.camp_notes.proofs.parsing.parse_lines.Goals as goal

pub returns-then-len-eq-MAX_NOTE_LENGTH : goal.returns-then-len-eq-MAX_NOTE_LENGTH
returns-then-len-eq-MAX_NOTE_LENGTH c =
    let full : length c.loop-byte.text.items ≡ 65_536 = omega (arith, c.loop-byte.text.ok.0, c.len.ensures, c.if-len-eq-MAX_NOTE_LENGTH.true) in
    record { exact = too_long c.args.bytes.now c.loop-byte.text.items c.loop-byte.rest.now c.in-Some.byte c.in-Some.after.now c.loop-byte.invariant.0 c.in-Some.ensures.exact full }
