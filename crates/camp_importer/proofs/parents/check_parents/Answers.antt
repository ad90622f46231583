use Rattle.std.proofs.Common.{List, sym, subst, ◌∙◌}
use Rattle.std.proofs.lemmas.Option.{same_Some}
use Rattle.camp_catch.specs.declared.catches.Catch.{Catch}
use Rattle.camp_importer.proofs.BranchLemmas.{in_state}
use Rattle.camp_importer.proofs.MarkLemmas.{is_found}
use Rattle.camp_importer.specs.Parents.{ChecksParentsIn}
use Rattle.camp_importer.proofs.parents.check_parents.Goals as goal

pub returns : goal.returns
returns c = λ catches was.
    subst (λ (all : List Catch). ChecksParentsIn all c.args.parents.now c.args.pulled c.check_parents_in.result)
    (same_Some _ _ (sym (in_state c.args.book.now c.state.result.now c.args.branch.now c.state.ensures.exact ∙ c.in_Some-found.ensures.value) ∙ was))
    c.check_parents_in.ensures

pub unreachable-requires : goal.unreachable-requires
unreachable-requires c =
    is_found c.args.book.now c.args.branch.now c.requires.there (in_state c.args.book.now c.state.result.now c.args.branch.now c.state.ensures.exact ∙ c.in_None-found.ensures.value)
