use Rattle.std.proofs.Common.{◌≡◌, ◌+◌, ◌≤◌, length}
use Rattle.std.specs.Vec.{vec_capacity}
use Rattle.camp_member.specs.Wanting.{given}
use Rattle.camp_member.proofs.finding.give.Given as goal

abbrev pub invariant-loop-given : goal.invariant-loop-given
invariant-loop-given g l =
    (given l.answers.items l.waiting.items l.replies.items ≡ given l.fn.answers.items l.fn.waiting.items l.fn.replies.items)
    × (l._given + length l.replies.items ≡ length l.fn.replies.items)
    × (length l.replies.items ≤ length l.waiting.items)
    × (length l.answers.items + length l.replies.items ≤ vec_capacity l.answers)
