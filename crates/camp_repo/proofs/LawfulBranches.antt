-- Branches in which each name has its number of changes.
use Rattle.camp_repo.proofs.Words.{◌≡◌, ◌≤◌, ℕ, false, not, if◌then◌else◌, cond, List, [], ◌∷◌, ◌++◌, Ok, length, bytes_eq, sym, ap, ◌∙◌, AllByRecursion, Files, Primitive, Catch, ObliterateGives, PullGives, IsLawfulBy, AppliesEach, AreLacked, others_of, those_of, left_tree, pulled_tree, recorded_tree, all_append, all_filter, name_itself, or_parts}
use Rattle.camp_branch.specs.Branches.{IsLawfulBranch as IsLawfulBranch, LeadsTo, Patch, has_patch, is_among, patch_names, recorded}
use Rattle.camp_branch.proofs.BranchLabels.{left_patches, not_a_patch, pulled_patches, recorded_patches}

-- a branch that is lawful by some numbers is lawful
pub lawful_alone : (changes_of : List ℕ → ℕ) (catches : List Catch) → IsLawfulBy changes_of catches → IsLawfulBranch catches
lawful_alone changes_of catches v = record { patches = v.patches; has = v.has; tree = v.tree; leads = v.leads }

-- the branch after a pull
pub pulled_lawful : (changes_of : List ℕ → ℕ) (from to pulled : List Catch) (wanted : List (List ℕ)) → PullGives from to wanted (Ok pulled) → IsLawfulBy changes_of from → IsLawfulBy changes_of to → AreLacked to wanted → IsLawfulBy changes_of pulled
pulled_lawful changes_of from to pulled wanted gives v w lacked =
    let tree = pulled_tree from to pulled wanted v.tree w.tree gives v.leads w.leads in
    let Agrees : Patch → Type 0 = λ patch. patch.changes ≡ changes_of patch.name in
    record {
      patches = w.patches ++ those_of wanted v.patches;
      has = pulled_patches from to pulled wanted v.patches w.patches gives v.has w.has lacked;
      agree = all_append Agrees w.patches (those_of wanted v.patches) w.agree (all_filter (λ p. p.name) (λ p. is_among wanted p.name) Agrees v.patches v.agree);
      tree = tree.0;
      leads = tree.1;
    }

-- the branch after an obliteration
pub left_lawful : (changes_of : List ℕ → ℕ) (branch left : List Catch) (names : List (List ℕ)) → ObliterateGives branch names (Ok left) → IsLawfulBy changes_of branch → IsLawfulBy changes_of left
left_lawful changes_of branch left names gives v =
    let tree = left_tree branch left names v.tree gives v.leads in
    let Agrees : Patch → Type 0 = λ patch. patch.changes ≡ changes_of patch.name in
    record {
      patches = others_of names v.patches;
      has = left_patches branch left names v.patches gives v.has;
      agree = all_filter (λ p. p.name) (λ p. not (is_among names p.name)) Agrees v.patches v.agree;
      tree = tree.0;
      leads = tree.1;
    }

-- the number of changes of each name, with another number for one name
abbrev pub with_number : (List ℕ → ℕ) → List ℕ → ℕ → List ℕ → ℕ
with_number changes_of name changes other = if bytes_eq name other then changes else changes_of other

-- the number of that name
pub number_there : (changes_of : List ℕ → ℕ) (name : List ℕ) (changes : ℕ) → changes ≡ with_number changes_of name changes name
number_there changes_of name changes = sym (ap (λ b. cond b changes (changes_of name)) (name_itself name))

agree_still : (changes_of : List ℕ → ℕ) (name : List ℕ) (changes : ℕ) (patches : List Patch) → is_among (patch_names patches) name ≡ false → AllByRecursion (λ patch. patch.changes ≡ changes_of patch.name) patches → AllByRecursion (λ patch. patch.changes ≡ with_number changes_of name changes patch.name) patches
agree_still changes_of name changes [] free agree = tt
agree_still changes_of name changes (patch ∷ patches) free agree =
    let parts = or_parts (bytes_eq name patch.name) (is_among (patch_names patches) name) free in (
      agree.0 ∙ sym (ap (λ b. cond b changes (changes_of patch.name)) parts.0),
      agree_still changes_of name changes patches parts.1 agree.1,
    )

-- a branch that has no patch of the name stays lawful
pub still_lawful : (changes_of : List ℕ → ℕ) (name : List ℕ) (changes : ℕ) (catches : List Catch) → has_patch catches name ≡ false → IsLawfulBy changes_of catches → IsLawfulBy (with_number changes_of name changes) catches
still_lawful changes_of name changes catches free v = record {
  patches = v.patches;
  has = v.has;
  agree = agree_still changes_of name changes v.patches (not_a_patch catches v.patches name v.has free) v.agree;
  tree = v.tree;
  leads = v.leads;
}

-- a branch with a further patch of a new name
pub recorded_lawful : (changes_of : List ℕ → ℕ) (catches : List Catch) (name : List ℕ) (changes : List Primitive) (old new : Files) → IsLawfulBy changes_of catches → has_patch catches name ≡ false → 1 ≤ length changes → length changes ≤ 64 → LeadsTo catches old → AppliesEach changes old new → IsLawfulBy (with_number changes_of name (length changes)) (catches ++ recorded name 1 changes)
recorded_lawful changes_of catches name changes old new v free some few leads applies =
    let numbers = with_number changes_of name (length changes) in
    let Agrees : Patch → Type 0 = λ patch. patch.changes ≡ numbers patch.name in
    let before = agree_still changes_of name (length changes) v.patches (not_a_patch catches v.patches name v.has free) v.agree in
    record {
      patches = v.patches ++ record { name = name; changes = length changes } ∷ [];
      has = recorded_patches catches v.patches name changes v.has free some few;
      agree = all_append Agrees v.patches (record { name = name; changes = length changes } ∷ []) before (number_there changes_of name (length changes), tt);
      tree = new;
      leads = recorded_tree catches name changes old new leads applies;
    }
