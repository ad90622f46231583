use Rattle.std.proofs.Common.{◌≡◌, ◌-◌, length}
use Rattle.camp_stream.specs.CommandValues.{command_values}
use Rattle.camp_stream.specs.Commands.{many, next_command}
use Rattle.camp_stream.proofs.CommandLemmas.{after_others}
use Rattle.camp_stream.proofs.parsing.read_stream.Given as goal

abbrev pub invariant-commands : goal.invariant-commands
invariant-commands l =
    after_others (command_values l.commands.items) (many next_command (length l.stream - l.counter) l.rest) ≡ many next_command (length l.stream) l.stream
