use Rattle.std.proofs.Common.{List, ℕ, inl, subst}
use Rattle.camp_importer.specs.Copies.{CopiesEach, StopsCopying}
use Rattle.camp_importer.proofs.importing.record.Goals as goal

pub returns-in-Ok : goal.returns-in-Ok
returns-in-Ok c =
    c.record_spared.ensures c.args.book.now
    (subst (λ (spares : List (List ℕ)). CopiesEach c.args.place.now.first spares c.args.book.now c.copy_each.new.book) c.deref.ensures.value c.in-Ok.ensures)

pub returns-in-Err : goal.returns-in-Err
returns-in-Err c =
    inl (subst (λ (spares : List (List ℕ)). StopsCopying c.args.place.now.first spares c.args.book.now c.in-Err.why c.copy_each.new.book) c.deref.ensures.value c.in-Err.ensures)
