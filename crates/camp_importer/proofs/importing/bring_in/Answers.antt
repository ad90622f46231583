use Rattle.std.proofs.Common.{List, ℕ, inl, subst}
use Rattle.camp_importer.proofs.CommitLemmas.{there_after}
use Rattle.camp_importer.specs.Calling.{FailsOn}
use Rattle.camp_importer.specs.Steps.{JoinsBy, JoinsParents}
use Rattle.camp_importer.proofs.importing.bring_in.Goals as goal

pub bring_tree-requires : goal.bring_tree-requires
bring_tree-requires c = record {
  there = there_after c.args.commit.now c.args.place.now c.in-Ok.pulled c.args.book.now c.join_parents.new.book
      (subst (λ (others : List (List ℕ)). JoinsParents c.in-Ok.pulled c.args.place.now.first others c.args.place.now.branch c.args.book.now c.join_parents.new.book) c.deref.ensures.value c.in-Ok.ensures.exact);
}

pub returns-in-Ok : goal.returns-in-Ok
returns-in-Ok c =
    c.bring_tree.ensures c.args.book.now
    (subst (λ (others : List (List ℕ)). JoinsParents c.in-Ok.pulled c.args.place.now.first others c.args.place.now.branch c.args.book.now c.join_parents.new.book) c.deref.ensures.value c.in-Ok.ensures.exact)

pub returns-in-Err : goal.returns-in-Err
returns-in-Err c =
    inl (subst (λ (others : List (List ℕ)). FailsOn (JoinsBy c.args.place.now.first others c.args.place.now.branch) c.args.place.now.branch c.args.book.now c.in-Err.why c.join_parents.new.book) c.deref.ensures.value c.in-Err.ensures.exact)
