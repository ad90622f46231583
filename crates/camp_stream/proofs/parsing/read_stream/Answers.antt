use Rattle.std.proofs.Common.{◌≡◌, ◌∙◌, ◌++◌, ◌∷◌, [], List, ℕ, Option, None, Some, option_map, Ok, ap, length}
use Rattle.std.proofs.lemmas.Result.{err_from_is_err_and}
use Rattle.std.proofs.lemmas.List.{map_push}
use Rattle.camp_stream.specs.CommandValues.{CommandValue, command_values, value_of_command}
use Rattle.camp_stream.specs.Commands.{ReadResult, many, next_command, stream_at}
use Rattle.camp_stream.specs.declared.commands.Command.{Command}
use Rattle.camp_stream.proofs.CommandLemmas.{all_read, fails_there, none_more, one_more}
use Rattle.camp_stream.proofs.parsing.read_stream.Goals as goal

-- the commands at the front of these bytes
abbrev all_commands : List ℕ → ReadResult (List CommandValue)
all_commands bytes = many next_command (length bytes) bytes

pub returns-in_err-found : goal.returns-in_err-found
unfolding stream_at
returns-in_err-found c =
    let p = err_from_is_err_and c.from_residual.result c.from_residual.ensures.1 in
    record {
      exact =
          rw (p.1, p.2)
          (fails_there c.in_err-found.field-0.0 next_command (command_values c.commands.commands.items)
          (length c.args.stream.now) c.commands.counter c.commands.rest.now (all_commands c.args.stream.now)
          c.commands-test.true c.in_err-found.ensures c.commands.invariant);
    }

pub returns-in_default : goal.returns-in_default
unfolding stream_at
returns-in_default c =
    let none : next_command c.commands.rest.now ≡ Ok (None, c.in_ok-found.after.now) =
    c.in_ok-found.ensures
    ∙ ap (λ (found : Option Command). Ok (option_map value_of_command found, c.in_ok-found.after.now)) c.in_default.is in
    record {
      exact =
          none_more next_command (command_values c.commands.commands.items) (length c.args.stream.now)
          c.commands.counter c.commands.rest.now c.in_ok-found.after.now (all_commands c.args.stream.now) c.commands-test.true none c.commands.invariant;
    }

pub commands-preserved : goal.commands-preserved
commands-preserved c =
    let command = c.in-Some.command in
    let some : next_command c.commands.rest.now ≡ Ok (Some (value_of_command command), c.in_ok-found.after.now) =
    c.in_ok-found.ensures
    ∙ ap (λ (found : Option Command). Ok (option_map value_of_command found, c.in_ok-found.after.now)) c.in-Some.is in
    let pushed : command_values c.push.new.self.items ≡ command_values c.commands.commands.items ++ (value_of_command command) ∷ [] =
    rw c.in_ok-push.ensures.items (map_push _ c.commands.commands.items command) in
    rw pushed
    (one_more next_command (command_values c.commands.commands.items) (length c.args.stream.now)
    c.commands.counter c.commands.rest.now (value_of_command command) c.in_ok-found.after.now (all_commands c.args.stream.now) c.commands-test.true some c.commands.invariant)

pub returns : goal.returns
unfolding stream_at
returns c =
    record {
      exact =
          all_read next_command (command_values c.commands.commands.items) (length c.args.stream.now)
          c.commands.counter c.commands.rest.now (all_commands c.args.stream.now) c.commands-test.false c.commands.invariant;
    }
