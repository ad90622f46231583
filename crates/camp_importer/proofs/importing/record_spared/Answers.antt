use Rattle.std.proofs.Common.{List, ℕ, Bool, Result, inl, inr, sym, subst}
use Rattle.camp_importer.proofs.CommitLemmas.{records_or}
use Rattle.camp_importer.specs.Commits.{RecordsOr}
use Rattle.camp_importer.specs.Copies.{CopiesEachOr}
use Rattle.camp_importer.specs.declared.faults.Reason.{Reason}
use Rattle.camp_importer.proofs.importing.record_spared.Goals as goal

pub returns-in-Ok : goal.returns-in-Ok
returns-in-Ok c = λ old spares.
    subst (λ (result : Result Bool Reason). RecordsOr c.args.commit.now c.args.place.now old result c.copy_each-copied.new.book) (sym c.with_pulled.ensures)
    (records_or c.args.commit.now c.args.place.now c.in-Ok.pulled old c.args.book.now c.bring_in.new.book c.copy_each-copied.new.book c.copy_each-copied.result spares c.in-Ok.ensures
    (subst (λ (copies : List (List ℕ)). CopiesEachOr c.args.place.now.branch copies c.bring_in.new.book c.copy_each-copied.result c.copy_each-copied.new.book) c.deref.ensures.value c.copy_each-copied.ensures))

pub returns-in-Err : goal.returns-in-Err
returns-in-Err c = λ old spares. inr (inl (record { spared = c.args.book.now; spares = spares; stops = c.in-Err.ensures }))
