use Rattle.camp_base.proofs.Words.{refl, Splices}
use Rattle.camp_base.proofs.TreeLemmas.{answered, splices_lines}
use Rattle.camp_base.proofs.trees.Tree.splice.Goals as goal

pub returns-in-Ok : goal.returns-in-Ok
returns-in-Ok c =
    let at = c.stands_at.ensures.0 c.if-not-stands_at.false in
    record { exact = answered (Splices c.args.path.now c.args.line c.args.old.now c.args.new.now) _ _ _ _ (splices_lines c.args.path.now _ _ c.in-Some.ensures.exact c.args.line c.args.old.now c.args.new.now _ c.in-Ok.ensures.exact at) c.write.ensures }

pub returns-in-Err : goal.returns-in-Err
returns-in-Err c = record {
  exact =
      let at = c.stands_at.ensures.0 c.if-not-stands_at.false in
      ((_, splices_lines c.args.path.now _ _ c.in-Some.ensures.exact c.args.line c.args.old.now c.args.new.now _ refl at), refl);
}
