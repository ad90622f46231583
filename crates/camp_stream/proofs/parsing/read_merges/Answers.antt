use Rattle.std.proofs.Common.{◌≡◌, ◌∙◌, ◌++◌, ◌∷◌, [], List, ℕ, Option, None, Some, Bor, Ok, ap, length}
use Rattle.std.proofs.lemmas.Result.{err_from_is_err_and}
use Rattle.std.proofs.lemmas.List.{map_push}
use Rattle.camp_stream.specs.CommandValues.{text_value, text_values}
use Rattle.camp_stream.specs.Commands.{ReadResult, many, merges_at, optional_text}
use Rattle.camp_stream.specs.declared.items.TextItem.TheVariants as text
use Rattle.camp_stream.proofs.CommandLemmas.{all_read, fails_there, none_more, one_more}
use Rattle.camp_stream.proofs.parsing.read_merges.Goals as goal

-- the merges at the front of these bytes
abbrev all_merges : List ℕ → ReadResult (List (List ℕ))
all_merges bytes = many (optional_text text.Merge) (length bytes) bytes

pub returns-in_err-found : goal.returns-in_err-found
unfolding merges_at
returns-in_err-found c =
    let p = err_from_is_err_and c.from_residual.result c.from_residual.ensures.1 in
    rw (p.1, p.2)
    (fails_there c.in_err-found.field-0.0 (optional_text text.Merge) (text_values c.merges.merges.items)
    (length c.args.bytes.now) c.merges.counter c.merges.rest.now (all_merges c.args.bytes.now)
    c.merges-test.true c.in_err-found.ensures c.merges.invariant)

pub returns-in_default : goal.returns-in_default
unfolding merges_at
returns-in_default c =
    let none : optional_text text.Merge c.merges.rest.now ≡ Ok (None, c.in_ok-found.after.now) =
    c.in_ok-found.ensures
    ∙ ap (λ (found : Option (Bor (List ℕ))). Ok (text_value found, c.in_ok-found.after.now)) c.in_default.is in
    none_more (optional_text text.Merge) (text_values c.merges.merges.items) (length c.args.bytes.now)
    c.merges.counter c.merges.rest.now c.in_ok-found.after.now (all_merges c.args.bytes.now) c.merges-test.true none c.merges.invariant

pub merges-preserved : goal.merges-preserved
merges-preserved c =
    let merge = c.in-Some.merge in
    let some : optional_text text.Merge c.merges.rest.now ≡ Ok (Some merge.now, c.in_ok-found.after.now) =
    c.in_ok-found.ensures
    ∙ ap (λ (found : Option (Bor (List ℕ))). Ok (text_value found, c.in_ok-found.after.now)) c.in-Some.is in
    let pushed : text_values c.push.new.self.items ≡ text_values c.merges.merges.items ++ merge.now ∷ [] =
    rw c.in_ok-push.ensures.items (map_push _ c.merges.merges.items merge) in
    rw pushed
    (one_more (optional_text text.Merge) (text_values c.merges.merges.items) (length c.args.bytes.now)
    c.merges.counter c.merges.rest.now merge.now c.in_ok-found.after.now (all_merges c.args.bytes.now) c.merges-test.true some c.merges.invariant)

pub returns : goal.returns
unfolding merges_at
returns c =
    all_read (optional_text text.Merge) (text_values c.merges.merges.items) (length c.args.bytes.now)
    c.merges.counter c.merges.rest.now (all_merges c.args.bytes.now) c.merges-test.false c.merges.invariant
