-- Branches stay lawful.
use Rattle.camp_branch.proofs.Words.{◌++◌, refl, empty, TreesAreDetermined, PullsKeepLawful, ObliteratesKeepLawful, RecordsKeepLawful, others_of, those_of, List, Catch, Patch, HasPatches, Files, LeadsTo, IsLawfulBranch}
use Rattle.camp_branch.proofs.BranchLabels.{left_patches, names_of_left, names_of_pulled, pulled_patches, recorded_patches}
use Rattle.camp_branch.proofs.BranchTrees.{left_tree, one_end, pulled_tree, recorded_tree, tree_of_effects}

pub trees_are_determined : TreesAreDetermined
trees_are_determined = record {
  one = λ branch tree other v w. one_end branch empty tree other v w;
  effects = λ branch tree v. tree_of_effects branch empty tree v;
}

lawful_by : (branch : List Catch) (patches : List Patch) → HasPatches branch patches → (tree : Files) × LeadsTo branch tree → IsLawfulBranch branch
lawful_by branch patches has tree = record { patches = patches; has = has; tree = tree.0; leads = tree.1 }

pub pulls_keep_lawful : PullsKeepLawful
pulls_keep_lawful = record {
  patches = pulled_patches;
  names = λ from to pulled wanted gives v w lacked.
      names_of_pulled from to pulled wanted v.patches w.patches v.has w.has (pulled_patches from to pulled wanted v.patches w.patches gives v.has w.has lacked);
  lawful = λ from to pulled wanted gives v w lacked.
      lawful_by pulled (w.patches ++ those_of wanted v.patches) (pulled_patches from to pulled wanted v.patches w.patches gives v.has w.has lacked) (pulled_tree from to pulled wanted v.tree w.tree gives v.leads w.leads);
}

pub obliterates_keep_lawful : ObliteratesKeepLawful
obliterates_keep_lawful = record {
  patches = left_patches;
  names = λ branch left names gives v.
      names_of_left branch left names v.patches v.has (left_patches branch left names v.patches gives v.has);
  lawful = λ branch left names gives v.
      lawful_by left (others_of names v.patches) (left_patches branch left names v.patches gives v.has) (left_tree branch left names v.tree gives v.leads);
}

pub records_keep_lawful : RecordsKeepLawful
records_keep_lawful = record {
  empty = (record { distinct = tt; sized = tt; labels = refl }, refl);
  patches = recorded_patches;
  tree = recorded_tree;
}
