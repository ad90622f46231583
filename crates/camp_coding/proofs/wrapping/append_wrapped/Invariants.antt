use Rattle.std.proofs.Common.{◌≡◌, ◌≤◌, ◌++◌, ℕ, length}
use Rattle.camp_coding.specs.Contents.{wrapped, wrapped_in}
use Rattle.camp_coding.proofs.wrapping.append_wrapped.Given as goal

abbrev pub invariant-pieces : goal.invariant-pieces
invariant-pieces l =
    (count : ℕ) × (length l.rest ≤ count) × (l.stored.items ++ wrapped_in count l.rest ≡ l.initial.stored.items ++ wrapped l.fn.line)

abbrev pub decreases-pieces : goal.decreases-pieces
decreases-pieces l = length l.rest
