use Rattle.std.proofs.Common.{◌≡◌, ◌-◌, length}
use Rattle.camp_stream.specs.CommandValues.{change_values}
use Rattle.camp_stream.specs.Commands.{change_if, many, optional}
use Rattle.camp_stream.proofs.CommandLemmas.{after_others}
use Rattle.camp_stream.proofs.parsing.read_changes.Given as goal

abbrev pub invariant-changes : goal.invariant-changes
invariant-changes l =
    after_others (change_values l.changes.items) (many (optional change_if) (length l.bytes - l.counter) l.rest) ≡ many (optional change_if) (length l.bytes) l.bytes
