use Rattle.camp_share.proofs.Words.{true, false, get_or, subst, ap, refl, ◌∙◌, ◌+◌, ◌-◌, arith}
use Rattle.std.specs.Prelude.{◌/◌}
use Rattle.std.specs.Fn.{FnReturnsAt}
use Rattle.std.proofs.lemmas.Fn.{says_at}
use Rattle.camp_share.proofs.PartLemmas.{read_twice}
use Rattle.camp_share.proofs.search.by_halves.Goals as goal

pub loop-low-preserved-then-passed : goal.loop-low-preserved-then-passed
loop-low-preserved-then-passed g c =
    let items = c.args.items.now in
    let middle = c.loop-low.low + (c.loop-low.high - c.loop-low.low) / 2 in record {
      order = omega arith;
      within = omega arith;
      border = (
        λ item some read. subst (λ y. FnReturnsAt g.F.Fn c.args.passed y true)
            (read_twice items middle _ item (omega arith) c.index-items-middle.is (read ∙ ap (λ n. get_or items n item) {x = middle + 1 - 1} {y = middle} (omega arith)))
            (says_at g.F.Fn c.if-passed.ensures refl),
        c.loop-low.invariant.border.1,
      );
    }

pub loop-low-preserved : goal.loop-low-preserved
loop-low-preserved g c = record {
  order = omega arith;
  within = omega arith;
  border = (
    c.loop-low.invariant.border.0,
    λ item more read. subst (λ y. FnReturnsAt g.F.Fn c.args.passed y false) (read_twice c.args.items.now _ _ item more c.index-items-middle.is read) (says_at g.F.Fn c.if-passed.ensures refl),
  );
}

pub returns-clause-border : goal.returns-clause-border
returns-clause-border g c =
    let met = c.loop-low.invariant.order in
    (c.loop-low.invariant.border.0, λ item more read. c.loop-low.invariant.border.1 item (omega arith) (read ∙ ap (λ n. get_or c.args.items.now n item) {x = c.loop-low.low} {y = c.loop-low.high} (omega arith)))
