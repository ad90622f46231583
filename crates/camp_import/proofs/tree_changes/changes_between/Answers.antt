use Rattle.std.proofs.Common.{◌∙◌, List, sym, subst}
use Rattle.std.specs.FinMap.{get}
use Rattle.std.proofs.lemmas.Result.{err_from_is_err_and}
use Rattle.camp_prim.specs.declared.primitives.Primitive.{Primitive}
use Rattle.camp_import.proofs.TreeLemmas.{LeadsSoFar, PathEntries, entries_of, fails_at, file_is, leads_on, leads_start, leads_there}
use Rattle.camp_import.proofs.tree_changes.changes_between.Goals as goal

pub paths-init : goal.paths-init
paths-init c =
    let all = c.into_iter-entry-iterator.ensures.into_iter_gives ∙ c.iter-entry-items.ensures.rest in
    subst (λ (rest : PathEntries). LeadsSoFar c.args.old.now c.args.new.now rest c.new-changes.result.items) (sym all)
    (subst (λ (l : List Primitive). LeadsSoFar c.args.old.now c.args.new.now (entries_of c.args.paths.now) l) (sym c.new-changes.ensures.items)
    (leads_start c.args.paths.now c.args.old.now c.args.new.now c.requires.within))

pub paths-preserved : goal.paths-preserved
paths-preserved c =
    let entry = c.in-Some.entry.now in
    leads_on c.args.old.now c.args.new.now entry c.paths.entry-iterator c.next.new.self
    _ _ c.paths.changes.items c.append_file_changes.new.changes.items
    c.in-Some.ensures.steps
    (file_is (λ lines. lines.now) c.file.result (get c.args.old.now entry.0) c.file.ensures.exact)
    (file_is (λ lines. lines.now) c.file-in-paths.result (get c.args.new.now entry.0) c.file-in-paths.ensures.exact)
    c.in_ok-append_file_changes.ensures c.paths.invariant

pub returns-in_err-append_file_changes-clause-exact : goal.returns-in_err-append_file_changes-clause-exact
returns-in_err-append_file_changes-clause-exact c =
    let entry = c.in-Some.entry.now in
    let p = err_from_is_err_and c.from_residual.result c.from_residual.ensures.1 in
    rw (p.1, p.2)
    (fails_at c.args.old.now c.args.new.now entry.0 _ _ c.paths.changes.items c.append_file_changes.new.changes.items c.in_err-append_file_changes.field-0.0
    (file_is (λ lines. lines.now) c.file.result (get c.args.old.now entry.0) c.file.ensures.exact)
    (file_is (λ lines. lines.now) c.file-in-paths.result (get c.args.new.now entry.0) c.file-in-paths.ensures.exact)
    c.in_err-append_file_changes.ensures)

pub returns : goal.returns
returns c = record {
  exact = leads_there c.args.old.now c.args.new.now c.paths.entry-iterator c.paths.changes.items c.in-None.ensures.steps.0 c.paths.invariant;
  short = c.paths.invariant.short;
  needed = c.paths.invariant.needed;
}
