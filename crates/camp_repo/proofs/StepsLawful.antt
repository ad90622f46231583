-- From lawful states accepted calls lead to lawful ones.
use Rattle.camp_repo.proofs.Words.{[], empty, refl, ap, ◌∙◌, option_map_or, NoBranch, tree_of, refused, shown, InitialIsLawful, StepsKeepLawful, TreesAreAnswered}
use Rattle.camp_repo.proofs.Effects.{called, lawful_branch}
use Rattle.camp_repo.proofs.TreeSteps.{tree_found}

pub initial_lawful : InitialIsLawful
initial_lawful limits = record {
  distinct = (refl, tt);
  changes_of = λ name. 1;
  lawful = (record { patches = []; has = record { distinct = tt; sized = tt; labels = refl }; agree = tt; tree = empty; leads = refl }, tt);
}

pub steps_lawful : StepsKeepLawful
steps_lawful state call next lawful e = (called state call next lawful e).1

-- a lawful state answers with trees
pub trees_answered : TreesAreAnswered
trees_answered state branch catches lawful has =
    let own = lawful_branch state lawful branch catches has in (
      own.tree,
      own.leads,
      tree_found catches own.tree own.leads,
      ap (λ o. option_map_or (λ catches. shown (tree_of catches)) o (refused (NoBranch branch))) has ∙ ap shown (tree_found catches own.tree own.leads),
    )
