use Rattle.std.proofs.Common.{◌≡◌, ◌∷◌, ◌++◌, [], List, map, reverse, sym, subst, append-nil, arith}
use Rattle.std.proofs.lemmas.List.{map_push}
use Rattle.std.proofs.lemmas.Bool.{eqb-false, eqb-true}
use Rattle.std.specs.Global.{Vec}
use Rattle.std.specs.Vec.{vec_len}
use Rattle.camp_prim.specs.declared.primitives.Primitive.{Primitive}
use Rattle.camp_import.specs.Parts.{ArePartsOf}
use Rattle.camp_import.proofs.PartLemmas.{back_again, none_left, one_part, parts_sized, shorter, some_left}
use Rattle.camp_import.proofs.parts.into_parts.Goals as goal

abbrev items_of : List (Vec Primitive) → List (List Primitive)
items_of parts = map (λ part. part.items) parts

pub parts-init : goal.parts-init
parts-init c more are =
    subst (λ (parts : List (Vec Primitive)). ArePartsOf (items_of parts ++ more) (reverse c.reverse.new.self.items)) (sym c.new-parts.ensures.items) are

pub parts-preserved : goal.parts-preserved
parts-preserved c more are =
    let part = c.in_ok-part.part in
    let pushed : items_of c.push.new.self.items ≡ items_of c.parts.parts.items ++ part.items ∷ [] =
    rw c.in_ok-push.ensures.items (map_push _ c.parts.parts.items part) in
    subst (λ (parts : List (List Primitive)). ArePartsOf (parts ++ more) (reverse c.reverse.new.self.items)) (sym pushed)
    (one_part (items_of c.parts.parts.items) part.items (reverse c.parts.changes.items) (reverse c.take_part.new.changes.items) (reverse c.reverse.new.self.items)
    (some_left c.parts.changes.items (omega (arith, c.parts.changes.ok.0, eqb-false (vec_len c.parts.changes) 0 (sym c.parts-test.ensures)))) c.in_ok-part.ensures.0 c.in_ok-part.ensures.1 c.parts.invariant more are)

pub returns : goal.returns
returns c =
    let whole = c.parts.invariant [] (none_left c.parts.changes.items (omega (arith, c.parts.changes.ok.0, eqb-true (vec_len c.parts.changes) 0 (sym c.parts-test.ensures)))) in
    let is : ArePartsOf (items_of c.parts.parts.items) c.args.changes.items =
    subst (λ (parts : List (List Primitive)). ArePartsOf parts c.args.changes.items) (append-nil (items_of c.parts.parts.items))
    (subst (ArePartsOf (items_of c.parts.parts.items ++ [])) (back_again c.args.changes.items c.reverse.new.self.items c.reverse.ensures.items) whole) in
    record { exact = is; sized = parts_sized (items_of c.parts.parts.items) c.args.changes.items is }

pub parts-smaller : goal.parts-smaller
parts-smaller c =
    shorter c.take_part.new.changes.items c.parts.changes.items
    (omega (arith, c.parts.changes.ok.0, eqb-false (vec_len c.parts.changes) 0 (sym c.parts-test.ensures))) c.in_ok-part.ensures.1
