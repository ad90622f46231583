-- The stream of a branch, growing commit by commit.
use Rattle.camp_git.proofs.Words.{◌≡◌, ◌∙◌, ◌∷◌, [], ◌++◌, ◌+◌, ◌-◌, ◌<◌, ◌≤◌, ◌==◌, inl, inr, ℕ, true, cond, zero, suc, List, Option, None, Some, is_some, drop, take, get_or, length, refl, sym, ap, subst, arith, append_assoc, append-nil, true≢false, contains_key, get, Files, nat_cmp, slice_cmp}
use Rattle.std.specs.FinMap.{empty, get-empty}
use Rattle.std.specs.List.{AllByRecursion, flat_map}
use Rattle.std.specs.Prelude.{option_map, slice_range}
use Rattle.std.proofs.Math.Seq.{take-add}
use Rattle.std.proofs.lemmas.Bool.{eq-eqb}
use Rattle.std.proofs.lemmas.Grind.{flat_map-append}
use Rattle.camp_catch.specs.Catches.{FitsAll}
use Rattle.camp_catch.specs.Laws.{keys_of}
use Rattle.camp_catch.specs.declared.catches.Catch.{Catch}
use Rattle.camp_branch.proofs.BranchTrees.{joined_fits, one_end}
use Rattle.camp_branch.proofs.EffectSteps.{second_fits}
use Rattle.camp_branch.proofs.Names.{all_append}
use Rattle.camp_branch.specs.Branches.{HasPatches, IsLawfulBranch, IsSized, LeadsTo, Patch, labels_of, name_of}
use Rattle.camp_git.proofs.PatchEnds.{drop_on, first_name, labels_behind, no_patch, patch_ends, some_patch}
use Rattle.camp_git.specs.Exports.{IsNewMark, IsExport, IsFirstBad, IsUnheld, HasFilesOf, RepresentEach, RepresentsPatch, content_of, reference_of}
use Rattle.camp_git.specs.FastImport.{AreFromKnown, Commit, IsFromKnown, IsGood, Kept, commit_text, keep, keep_all, mark_of, commit_at_mark, parent_of, files_before}
use Rattle.camp_git.specs.Holding.{CanHold, CannotHold}
use Rattle.camp_git.specs.Inside.Commits.{commit_at, from_of}
use Rattle.camp_git.specs.Inside.Steps.{led_by}
use Rattle.camp_git.specs.Inside.Streams.{AddsCommit}
use Rattle.camp_git.specs.declared.commits.Place.{Place}

-- the commit that was stored last
abbrev pub newest_of : List Kept → Option Kept
newest_of [] = None
newest_of (kept ∷ older) = Some kept

-- it has this mark, and its tree shows these files; before the first the mark is 0, and there are none
abbrev pub IsNewest : List Kept → ℕ → Files → Type 0
IsNewest [] mark files = (mark ≡ 0) × (files ≡ empty)
IsNewest (kept ∷ older) mark files = (0 < mark) × (kept.mark ≡ mark) × HasFilesOf kept.tree files

-- the progress of the stream of a branch: it represents the patches up to an index, and the rest comes after
pub record Progress (name : List ℕ) (branch : List Catch) (at : ℕ) (text : List ℕ) (tree : Files) : Type 0 where
  pub patches : List Patch
  pub has : HasPatches branch patches
  pub rest : List Patch
  pub sized : AllByRecursion IsSized rest
  pub labels : keys_of (drop at branch) ≡ labels_of rest
  pub leads : LeadsTo (take at branch) tree
  pub aim : Files
  pub fits : FitsAll (drop at branch) tree aim
  pub held : CanHold tree
  pub commits : List Commit
  pub is : text ≡ flat_map commit_text commits
  pub good : AllByRecursion IsGood commits
  pub kept : List Kept
  pub newest : IsNewest kept at tree
  pub tells : (more : List Commit) → RepresentEach (reference_of name) branch at (mark_of (newest_of kept)) rest (keep_all kept more) → RepresentEach (reference_of name) branch 0 None patches (keep_all [] (commits ++ more))
  pub known : (more : List Commit) → AreFromKnown kept more → AreFromKnown [] (commits ++ more)
  pub first : (patch path : List ℕ) → IsFirstBad branch at rest patch path → IsFirstBad branch 0 patches patch path

holds_nothing : CanHold empty
holds_nothing path has = absurd (true≢false (sym has ∙ ap is_some (get-empty (slice_cmp nat_cmp) path)))

pub nothing_told : (name : List ℕ) (branch : List Catch) → IsLawfulBranch branch → Progress name branch 0 [] empty
nothing_told name branch lawful = record {
  patches = lawful.patches;
  has = lawful.has;
  rest = lawful.patches;
  sized = lawful.has.sized;
  labels = lawful.has.labels;
  leads = refl;
  aim = lawful.tree;
  fits = lawful.leads;
  held = holds_nothing;
  commits = [];
  is = refl;
  good = tt;
  kept = [];
  newest = (refl, refl);
  tells = λ more told. told;
  known = λ more known. known;
  first = λ patch path bad. bad;
}

-- the parent of a commit is the one that was stored last
from_newest : (kept : List Kept) (at : ℕ) (files : Files) (commit : Commit) → IsNewest kept at files → parent_of kept commit (from_of at) ≡ newest_of kept
from_newest [] zero files commit newest = refl
from_newest [] (suc at) files commit newest = absurd (omega (arith, newest.0))
from_newest (k ∷ older) zero files commit newest = absurd (omega (arith, newest.0))
from_newest (k ∷ older) (suc at) files commit newest =
    ap (λ b. cond b (Some k) (commit_at_mark older (suc at))) (ap (λ m. m == suc at) newest.1 ∙ eq-eqb (suc at) (suc at) refl)

-- a later mark is greater than that of the one that was stored last
rises_newest : (kept : List Kept) (at more : ℕ) (files : Files) → IsNewest kept at files → 0 < more → IsNewMark (mark_of (newest_of kept)) (at + more)
rises_newest [] at more files newest some = omega (arith, some)
rises_newest (k ∷ older) at more files newest some = omega (arith, newest.1, some)

from_known : (kept : List Kept) (at : ℕ) (files : Files) → IsNewest kept at files → IsFromKnown kept (from_of at)
from_known [] zero files newest = tt
from_known [] (suc at) files newest = absurd (omega (arith, newest.0))
from_known (k ∷ older) zero files newest = absurd (omega (arith, newest.0))
from_known (k ∷ older) (suc at) files newest =
    ap (λ b. is_some (cond b (Some k) (commit_at_mark older (suc at)))) (ap (λ m. m == suc at) newest.1 ∙ eq-eqb (suc at) (suc at) refl)

shows_newest : (kept : List Kept) (at : ℕ) (files : Files) → IsNewest kept at files → HasFilesOf (files_before (newest_of kept)) files
shows_newest [] at files newest path =
    sym (ap (λ (f : Files). option_map content_of (get f path)) newest.1 ∙ ap (option_map content_of) (get-empty (slice_cmp nat_cmp) path))
shows_newest (k ∷ older) at files newest path = newest.2 path

module _ (name : List ℕ) (branch : List Catch) (at : ℕ) (text : List ℕ) (tree : Files) (s : Progress name branch at text tree) (patch : Patch) (more : List Patch) (next : s.rest ≡ patch ∷ more) where
  pub next_labels : keys_of (drop at branch) ≡ labels_of (patch ∷ more)
  next_labels = s.labels ∙ ap labels_of next

  pub next_sized : AllByRecursion IsSized (patch ∷ more)
  next_sized = subst (AllByRecursion IsSized) next s.sized

  -- the catches of the patch lead to a tree
  pub next_fits : (after : Files) × FitsAll (take patch.changes (drop at branch)) tree after × FitsAll (drop (at + patch.changes) branch) after s.aim
  next_fits = let w = second_fits (take patch.changes (drop at branch)) (drop (at + patch.changes) branch) tree s.aim (subst (λ l. FitsAll l tree s.aim) (drop_on at patch.changes branch) s.fits) in
      (w.0, w.1, w.2)

  module _ (new : Files) (fits : FitsAll (take patch.changes (drop at branch)) tree new) where
    pub next_leads : LeadsTo (take (at + patch.changes) branch) new
    next_leads = subst (λ l. LeadsTo l new) (sym (take-add at patch.changes branch)) (joined_fits (take at branch) (take patch.changes (drop at branch)) empty tree new s.leads fits)

    next_rest : FitsAll (drop (at + patch.changes) branch) new s.aim
    next_rest = subst (λ t. FitsAll (drop (at + patch.changes) branch) t s.aim) (one_end (take patch.changes (drop at branch)) tree next_fits.0 new next_fits.1 fits) next_fits.2

    -- a tree that git can't hold is the first
    pub next_bad : (path : List ℕ) → contains_key new path ≡ true → CannotHold new path → IsUnheld branch patch.name path
    next_bad path stands unheld = record {
      patches = s.patches;
      has = s.has;
      first = s.first patch.name path (subst (λ r. IsFirstBad branch at r patch.name path) (sym next) (inl (refl, record { files = new; leads = next_leads; stands = stands; unheld = unheld })));
    }

    module _ (after : List ℕ) (adds : AddsCommit (record { branch = name; name = patch.name; mark = at + patch.changes; from = at }) tree new text after) where
      abbrev place : Place
      place = record { branch = name; name = patch.name; mark = at + patch.changes; from = at }

      abbrev commit : Commit
      commit = commit_at place adds.0

      abbrev kept_now : Kept
      kept_now = keep s.kept commit

      from : parent_of s.kept commit commit.from ≡ newest_of s.kept
      from = from_newest s.kept at tree commit s.newest

      shows : HasFilesOf kept_now.tree new
      shows = adds.3 (files_before (parent_of s.kept commit commit.from)) (subst (λ o. HasFilesOf (files_before o) tree) (sym from) (shows_newest s.kept at tree s.newest))

      told : RepresentsPatch (reference_of name) (mark_of (newest_of s.kept)) (take (at + patch.changes) branch) patch.name kept_now
      told = record {
        on = refl;
        behind = ap mark_of from;
        rises = rises_newest s.kept at patch.changes tree s.newest (omega (arith, next_sized.0.0));
        message = refl;
        files = new;
        leads = next_leads;
        held = adds.2;
        tree = shows;
      }

      pub next_told : Progress name branch (at + patch.changes) after new
      next_told = record {
        patches = s.patches;
        has = s.has;
        rest = more;
        sized = next_sized.1;
        labels = labels_behind branch at patch more next_labels;
        leads = next_leads;
        aim = s.aim;
        fits = next_rest;
        held = adds.2;
        commits = s.commits ++ commit ∷ [];
        is = adds.1.0 ∙ ap (λ t. t ++ commit_text commit) s.is ∙ ap (λ t. flat_map commit_text s.commits ++ t) (sym (append-nil (commit_text commit))) ∙ sym (flat_map-append commit_text s.commits (commit ∷ []));
        good = all_append IsGood s.commits (commit ∷ []) s.good (adds.1.1, tt);
        kept = kept_now ∷ s.kept;
        newest = (omega (arith, next_sized.0.0), refl, shows);
        tells = λ later w.
            subst (λ l. RepresentEach (reference_of name) branch 0 None s.patches (keep_all [] l)) (sym (append_assoc s.commits (commit ∷ []) later)) (s.tells (commit ∷ later) (subst (λ r. RepresentEach (reference_of name) branch at (mark_of (newest_of s.kept)) r (keep_all s.kept (commit ∷ later))) (sym next) (told, w)));
        known = λ later w.
            subst (AreFromKnown []) (sym (append_assoc s.commits (commit ∷ []) later)) (s.known (commit ∷ later) (from_known s.kept at tree s.newest, w));
        first = λ called path bad.
            s.first called path (subst (λ r. IsFirstBad branch at r called path) (sym next) (inr (record { files = new; leads = next_leads; held = adds.2 }, bad)));
      }

pub all_told : (name : List ℕ) (branch : List Catch) (at : ℕ) (text : List ℕ) (tree : Files) → Progress name branch at text tree → length branch ≤ at → IsExport name branch text
all_told name branch at text tree s end = record {
  patches = s.patches;
  has = s.has;
  commits = s.commits;
  reads = record { is = s.is; good = s.good; known = subst (AreFromKnown []) (append-nil s.commits) (s.known [] tt) };
  represents = subst (λ l. RepresentEach (reference_of name) branch 0 None s.patches (keep_all [] l)) (append-nil s.commits) (s.tells [] (subst (λ r. RepresentEach (reference_of name) branch at (mark_of (newest_of s.kept)) r []) (sym (no_patch branch at s.rest s.labels s.sized end)) tt));
}

-- one step, in the words of the code
module _ (name : List ℕ) (branch list : List Catch) (value : list ≡ branch) (at end : ℕ) (text : List ℕ) (tree : Files) (s : Progress name branch at text tree) (within : at < length list) (ends : end ≡ at + 1 + led_by (keys_of (drop (at + 1) list))) (catches : List Catch) (slice : catches ≡ slice_range list at end) where
  found : (patch : Patch) × (more : List Patch) × (s.rest ≡ patch ∷ more)
  found = some_patch branch at s.rest s.labels (subst (λ l. at < length l) value within)

  labels_here : keys_of (drop at branch) ≡ labels_of (found.0 ∷ found.1)
  labels_here = next_labels name branch at text tree s found.0 found.1 found.2

  sized_here : AllByRecursion IsSized (found.0 ∷ found.1)
  sized_here = next_sized name branch at text tree s found.0 found.1 found.2

  end_here : end ≡ at + found.0.changes
  end_here = ends ∙ ap (λ l. at + 1 + led_by (keys_of (drop (at + 1) l))) value ∙ patch_ends branch at found.0 found.1 labels_here sized_here.0 sized_here.1

  slice_here : catches ≡ take found.0.changes (drop at branch)
  slice_here = slice ∙ ap (λ l. slice_range l at end) value ∙ ap (λ n. take n (drop at branch)) (ap (λ e. e - at) end_here ∙ less at found.0.changes)
    where
      less : (a b : ℕ) → a + b - a ≡ b
      less a b = omega arith

  pub step_fits : (after : Files) × FitsAll catches tree after
  step_fits = let w = next_fits name branch at text tree s found.0 found.1 found.2 in
      (w.0, subst (λ l. FitsAll l tree w.0) (sym slice_here) w.1)

  module _ (first : Catch) (stands : first ≡ get_or catches 0 first) (called : List ℕ) (is_name : called ≡ name_of first) (new : Files) (fits : FitsAll catches tree new) where
    called_here : called ≡ found.0.name
    called_here = is_name ∙ ap name_of stands ∙ ap (λ l. name_of (get_or l 0 first)) slice_here ∙ first_name (drop at branch) found.0.changes found.0.changes first found.0.name (labels_of found.1) labels_here sized_here.0.0 sized_here.0.0

    fits_here : FitsAll (take found.0.changes (drop at branch)) tree new
    fits_here = subst (λ l. FitsAll l tree new) slice_here fits

    pub step_told : (after : List ℕ) → AddsCommit (record { branch = name; name = called; mark = end; from = at }) tree new text after → Progress name branch end after new
    step_told after adds = subst (λ e. Progress name branch e after new) (sym end_here)
        (next_told name branch at text tree s found.0 found.1 found.2 new fits_here after
        (subst (λ n. AddsCommit (record { branch = name; name = n; mark = at + found.0.changes; from = at }) tree new text after) called_here
        (subst (λ e. AddsCommit (record { branch = name; name = called; mark = e; from = at }) tree new text after) end_here adds)))

    pub step_bad : (patch path : List ℕ) → patch ≡ called → contains_key new path ≡ true → CannotHold new path → IsUnheld branch patch path
    step_bad patch path is has unheld = subst (λ n. IsUnheld branch n path) (sym (is ∙ called_here))
        (next_bad name branch at text tree s found.0 found.1 found.2 new fits_here path has unheld)

pub begin_told : (name : List ℕ) (branch : List Catch) (text : List ℕ) (tree : Files) → IsLawfulBranch branch → text ≡ [] → tree ≡ empty → Progress name branch 0 text tree
begin_told name branch text tree lawful none new =
    subst (λ t. Progress name branch 0 t tree) (sym none) (subst (Progress name branch 0 []) (sym new) (nothing_told name branch lawful))
