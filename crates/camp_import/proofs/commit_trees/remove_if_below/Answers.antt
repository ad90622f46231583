use Rattle.std.proofs.Common.{◌∙◌, ap, sym, subst}
use Rattle.camp_coding.specs.GitPaths.{AreBytes}
use Rattle.camp_import.specs.CommitTrees.{has_prefix}
use Rattle.camp_import.proofs.CommitTreeLemmas.{in_folder, not_escaped, not_in_folder}
use Rattle.camp_import.proofs.commit_trees.remove_if_below.Goals as goal

pub returns-in-None : goal.returns-in-None
returns-in-None c =
    not_escaped c.args.camp_path.now c.args.prefix.now c.bytes.result.now c.in_ok-found.found c.args.changed.now c.in_ok-same-in-None.same
    c.in_ok-same-in-None.ensures c.bytes.ensures.value c.in-None.is c.in_ok-found.ensures.exact

pub returns-then-not-starts_with : goal.returns-then-not-starts_with
returns-then-not-starts_with c =
    not_in_folder c.args.camp_path.now c.args.prefix.now c.bytes.result.now c.in_ok-found.found c.in-Some.path c.args.changed.now c.in_ok-same.same
    c.in_ok-same.ensures c.bytes.ensures.value c.in-Some.is c.in_ok-found.ensures.exact (subst AreBytes c.deref.ensures.value c.are_bytes.ensures)
    (ap (has_prefix c.args.prefix.now) (sym c.deref-2.ensures.value) ∙ sym c.if-not-starts_with.ensures.value)

pub returns : goal.returns
returns c =
    in_folder c.args.camp_path.now c.args.prefix.now c.bytes.result.now c.deref-3.result.now c.in_ok-found.found c.in-Some.path c.args.changed.now c.in_ok-without.without
    c.bytes.ensures.value c.in-Some.is c.in_ok-found.ensures.exact (subst AreBytes c.deref.ensures.value c.are_bytes.ensures)
    (ap (has_prefix c.args.prefix.now) (sym c.deref-2.ensures.value) ∙ sym c.if-not-starts_with.ensures.value)
    c.deref-3.ensures.value c.in_ok-without.ensures
