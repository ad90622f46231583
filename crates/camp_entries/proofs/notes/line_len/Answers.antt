use Rattle.std.proofs.Common.{◌≡◌, ◌+◌, refl, arith}
use Rattle.camp_entries.proofs.NoteLemmas.{ends_line}
use Rattle.camp_entries.proofs.notes.line_len.Goals as goal

pub returns-then-text-at-eq10 : goal.returns-then-text-at-eq10
returns-then-text-at-eq10 c = ends_line c.args.text.now c.loop-at.at c.loop-at-test.true c.loop-at.invariant c.if-text-at-eq10.true
