use Rattle.std.proofs.Common.{◌<◌, ℕ, subst, arith}
use Rattle.std.proofs.lemmas.List.Elements.{All-from_get_or}
use Rattle.camp_base.specs.Trees.{Files}
use Rattle.camp_coding.specs.GitTrees.{RemovesFile}
use Rattle.camp_coding.proofs.GitTreeLemmas.{removed}
use Rattle.camp_coding.proofs.trees.remove_file.Goals as goal

pub returns : goal.returns
returns c =
    record {
      exact = subst (λ (f : Files). RemovesFile c.args.path.now f c.clear_place-4.new.tree) c.in_ok-new.ensures.exact
          (removed c.args.path.now (All-from_get_or (λ (b : ℕ). b < 256) c.args.path.now 0 (λ i within. omega (arith, c.type_inv.path i)))
          c.in_ok-new.new c.clear_place.new.tree c.clear_place-2.new.tree c.clear_place-3.new.tree c.clear_place-4.new.tree
          c.in_ok-clear_place.ensures c.in_ok-clear_place-2.ensures c.in_ok-clear_place-3.ensures c.in_ok-clear_place-4.ensures);
    }
