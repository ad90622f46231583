use Rattle.std.proofs.Common.{◌≡◌, ◌∙◌, ◌++◌, ◌∷◌, [], List, ℕ, Option, None, Some, option_map, Ok, ap, length}
use Rattle.std.proofs.lemmas.Result.{err_from_is_err_and}
use Rattle.std.proofs.lemmas.List.{map_push}
use Rattle.camp_stream.specs.CommandValues.{ChangeValue, change_values, value_of_change}
use Rattle.camp_stream.specs.Commands.{ReadResult, change_if, changes_at, many, optional}
use Rattle.camp_stream.specs.declared.commands.FileChange.{FileChange}
use Rattle.camp_stream.proofs.CommandLemmas.{all_read, fails_there, none_more, one_more}
use Rattle.camp_stream.proofs.parsing.read_changes.Goals as goal

-- the changes at the front of these bytes
abbrev all_changes : List ℕ → ReadResult (List ChangeValue)
all_changes bytes = many (optional change_if) (length bytes) bytes

pub returns-in_err-found : goal.returns-in_err-found
unfolding changes_at
returns-in_err-found c =
    let p = err_from_is_err_and c.from_residual.result c.from_residual.ensures.1 in
    rw (p.1, p.2)
    (fails_there c.in_err-found.field-0.0 (optional change_if) (change_values c.changes.changes.items)
    (length c.args.bytes.now) c.changes.counter c.changes.rest.now (all_changes c.args.bytes.now)
    c.changes-test.true c.in_err-found.ensures c.changes.invariant)

pub returns-in_default : goal.returns-in_default
unfolding changes_at
returns-in_default c =
    let none : optional change_if c.changes.rest.now ≡ Ok (None, c.in_ok-found.after.now) =
    c.in_ok-found.ensures
    ∙ ap (λ (found : Option FileChange). Ok (option_map value_of_change found, c.in_ok-found.after.now)) c.in_default.is in
    none_more (optional change_if) (change_values c.changes.changes.items) (length c.args.bytes.now)
    c.changes.counter c.changes.rest.now c.in_ok-found.after.now (all_changes c.args.bytes.now) c.changes-test.true none c.changes.invariant

pub changes-preserved : goal.changes-preserved
changes-preserved c =
    let change = c.in-Some.change in
    let some : optional change_if c.changes.rest.now ≡ Ok (Some (value_of_change change), c.in_ok-found.after.now) =
    c.in_ok-found.ensures
    ∙ ap (λ (found : Option FileChange). Ok (option_map value_of_change found, c.in_ok-found.after.now)) c.in-Some.is in
    let pushed : change_values c.push.new.self.items ≡ change_values c.changes.changes.items ++ (value_of_change change) ∷ [] =
    rw c.in_ok-push.ensures.items (map_push _ c.changes.changes.items change) in
    rw pushed
    (one_more (optional change_if) (change_values c.changes.changes.items) (length c.args.bytes.now)
    c.changes.counter c.changes.rest.now (value_of_change change) c.in_ok-found.after.now (all_changes c.args.bytes.now) c.changes-test.true some c.changes.invariant)

pub returns : goal.returns
unfolding changes_at
returns c =
    all_read (optional change_if) (change_values c.changes.changes.items) (length c.args.bytes.now)
    c.changes.counter c.changes.rest.now (all_changes c.args.bytes.now) c.changes-test.false c.changes.invariant
