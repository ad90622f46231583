use Rattle.std.proofs.Common.{List, ℕ, Bool, Result, inl, inr, sym, subst}
use Rattle.camp_importer.proofs.CommitLemmas.{brings_or}
use Rattle.camp_importer.specs.Commits.{BringsOr}
use Rattle.camp_importer.specs.Parents.{HasParents, LacksParents}
use Rattle.camp_importer.specs.declared.faults.Reason.{Reason}
use Rattle.camp_importer.proofs.importing.bring_tree.Goals as goal

pub returns-in-Ok : goal.returns-in-Ok
returns-in-Ok c = λ old joins.
    subst (λ (result : Result Bool Reason). BringsOr c.args.commit.now c.args.place.now old result c.record_tree-recorded.new.book) (sym c.with_pulled.ensures)
    (brings_or c.args.commit.now c.args.place.now c.args.pulled old c.args.book.now c.record_tree-recorded.new.book c.record_tree-recorded.result joins
    (subst (λ (parents : List (List ℕ)). HasParents parents c.args.pulled joins.gathers.all) c.deref.ensures.value (c.in-Ok.ensures joins.gathers.all joins.gathers.becomes))
    c.record_tree-recorded.ensures)

pub returns-in-Err : goal.returns-in-Err
returns-in-Err c = λ old joins.
    inr (inl (record {
      pulled = c.args.pulled;
      joins = joins;
      lacks = subst (λ (parents : List (List ℕ)). LacksParents parents c.args.pulled joins.gathers.all c.in-Err.why) c.deref.ensures.value (c.in-Err.ensures joins.gathers.all joins.gathers.becomes);
    }))
