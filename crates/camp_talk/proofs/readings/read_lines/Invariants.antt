use Rattle.camp_talk.proofs.Words.{ℕ, cond, ◌+◌, ◌-◌, ◌^◌, length}
use Rattle.camp_talk.proofs.Firsts.{HandsOn}
use Rattle.camp_talk.proofs.readings.read_lines.Given as goal

abbrev pub invariant-loop-is_whole : goal.invariant-loop-is_whole
invariant-loop-is_whole g l =
    HandsOn (g.R.Read.remaining l.fn.reader) (g.R.Read.remaining l.reader) l.is_whole l.bytes.items l.command

abbrev pub decreases-loop-is_whole : goal.decreases-loop-is_whole
decreases-loop-is_whole g l = cond {A = ℕ} l.is_whole (2 ^ 64 + 1 - length l.bytes.items) 0
