-- Changes of the files of a tree, path after path.
use Rattle.std.proofs.Common.{◌≡◌, ℕ, Bool, true, false, ◌&&◌, T, List, [], ◌∷◌, cond, refl, sym, ap, subst, ◌∙◌, ◌⊎◌, inl, inr, ⊎_elim, Option, None, Some, Err, MatchOption}
use Rattle.std.specs.Prelude.{option_map}
use Rattle.std.specs.FinMap.{entries, entries_sorted, find, get, get-entries, is_sorted, nat_cmp-IsAntisymmetric, same_map, slice_cmp-IsAntisymmetric}
use Rattle.std.specs.FinMap.Entries.{below_all}
use Rattle.std.specs.List.{AllByRecursion}
use Rattle.std.specs.Ordering.{eq_by_cmp, is_lt, nat_cmp}
use Rattle.std.specs.declared.cmp.Ordering.{Ordering}
use Rattle.std.specs.Cmp.Lexicographic.{slice_cmp}
use Rattle.std.specs.Str.{bytes_eq}
use Rattle.std.proofs.lemmas.Bool.{cases_Bool}
use Rattle.std.proofs.lemmas.Cmp.{nat_list_cmp_total, tied_itself}
use Rattle.std.proofs.lemmas.Map.Text.{is_eq-slice_cmp}
use Rattle.std.proofs.lemmas.Slice.Eq.{bytes_eq-Decides}
use Rattle.camp_base.specs.Trees.{Files, Lines}
use Rattle.camp_coding.proofs.PlaceLemmas.{bytes_or_not}
use Rattle.camp_prim.specs.declared.primitives.Primitive.{Primitive}
use Rattle.camp_share.specs.Maps.{map_of}
use Rattle.camp_import.specs.Inside.Growing.{AreTooMany, GrowsByFile, GrowsByFileOr, IsOfChangedFile}
use Rattle.camp_import.specs.TreeChanges.{DifferWithin, GivesChanges, HasLongFile, HasPath, HasShortSides, IsOfDifference, LeadThrough}
use Rattle.camp_import.specs.declared.edits.ChangeFault.{ChangeFault}
use Rattle.camp_import.specs.declared.edits.ChangeFault.TheVariants.{Memory, TooManyLines}
use Rattle.camp_import.proofs.FileLemmas.{all_of_both, all_weaker, lead_on}

-- entries of a set of paths
abbrev pub PathEntries : Type 0
PathEntries = List (List ℕ × Unit {0})

-- the order of paths
abbrev pub path_cmp : List ℕ → List ℕ → Ordering
path_cmp = slice_cmp nat_cmp

-- one of the entries is of a path
abbrev pub HasEntry : PathEntries → List ℕ → Type 0
HasEntry [] path = ⊥
HasEntry (entry ∷ rest) path = (entry.0 ≡ path) ⊎ HasEntry rest path

-- no two entries are of one path
abbrev pub AreApart : PathEntries → Type 0
AreApart [] = Unit {0}
AreApart (entry ∷ rest) = (¬ (HasEntry rest entry.0)) × AreApart rest

pub T_first : (a b : Bool) → T (a && b) → T a
T_first true b both = tt
T_first false b both = both

pub T_second : (a b : Bool) → T (a && b) → T b
T_second true b both = both
T_second false b both = absurd both

pub not_below_itself : (path : List ℕ) → T (is_lt (path_cmp path path)) → ⊥
not_below_itself path below = subst (λ (o : Ordering). T (is_lt o)) (tied_itself nat_list_cmp_total path) below

below_others : (path : List ℕ) (rest : PathEntries) → T (below_all path_cmp path rest) → ¬ (HasEntry rest path)
below_others path [] below has = has
below_others path (entry ∷ rest) below has =
    ⊎_elim
    (λ same. not_below_itself path (subst (λ (p : List ℕ). T (is_lt (path_cmp path p))) same (T_first (is_lt (path_cmp path entry.0)) (below_all path_cmp path rest) below)))
    (below_others path rest (T_second (is_lt (path_cmp path entry.0)) (below_all path_cmp path rest) below))
    has

apart_from_sorted : (set : PathEntries) → T (is_sorted path_cmp set) → AreApart set
apart_from_sorted [] sorted = tt
apart_from_sorted (entry ∷ rest) sorted = (
  below_others entry.0 rest (T_first (below_all path_cmp entry.0 rest) (is_sorted path_cmp rest) sorted),
  apart_from_sorted rest (T_second (below_all path_cmp entry.0 rest) (is_sorted path_cmp rest) sorted),
)

pub same_key : (path other : List ℕ) → path ≡ other → eq_by_cmp path_cmp path other ≡ true
same_key path other same = is_eq-slice_cmp path other ∙ (bytes_eq-Decides path other).1 same

pub other_key : (path other : List ℕ) → ¬ (path ≡ other) → eq_by_cmp path_cmp path other ≡ false
other_key path other differs =
    is_eq-slice_cmp path other
    ∙ ⊎_elim (λ is. absurd (differs ((bytes_eq-Decides path other).0 is))) (λ is_not. is_not) (cases_Bool (bytes_eq path other))

find_has : (path : List ℕ) (set : PathEntries) → find path_cmp path set ≡ Some tt → HasEntry set path
find_has path [] found = absurd cc
find_has path (entry ∷ rest) found =
    ⊎_elim
    (λ same. inl (sym same))
    (λ differs. inr (find_has path rest (sym (ap (λ (b : Bool). cond b (Some entry.1) (find path_cmp path rest)) (other_key path entry.0 differs)) ∙ found)))
    (bytes_or_not path entry.0)

-- the entries of a set of paths
abbrev pub entries_of : PathEntries → PathEntries
entries_of set = entries (map_of path_cmp set)

has_entry : (set : PathEntries) (path : List ℕ) → HasPath set path → HasEntry (entries_of set) path
has_entry set path has = find_has path (entries_of set) (sym (get-entries (map_of path_cmp set) path) ∙ has)

-- the changes so far lead to a tree that is as the old one at the paths that are left, and as the new one elsewhere
pub record LeadsSoFar (old new : Files) (rest : PathEntries) (changes : List Primitive) : Type 0 where
  pub reached : Files
  pub lead : LeadThrough changes old reached
  pub left : (path : List ℕ) → HasEntry rest path → get reached path ≡ get old path
  pub made : (path : List ℕ) → ¬ (HasEntry rest path) → get reached path ≡ get new path
  pub apart : AreApart rest
  pub short : AllByRecursion HasShortSides changes
  pub needed : AllByRecursion (IsOfDifference old new) changes

pub leads_start : (set : PathEntries) (old new : Files) → DifferWithin set old new → LeadsSoFar old new (entries_of set) []
leads_start set old new within = record {
  reached = old;
  lead = refl;
  left = λ path has. refl;
  made = λ path none. within path (λ has. none (has_entry set path has));
  apart = apart_from_sorted (entries_of set) (entries_sorted (map_of path_cmp set));
  short = tt;
  needed = tt;
}

leads_one_more : (old new : Files) (entry : List ℕ × Unit {0}) (rest : PathEntries) (changes longer : List Primitive)
    → GrowsByFile entry.0 (get old entry.0) (get new entry.0) changes longer → LeadsSoFar old new (entry ∷ rest) changes → LeadsSoFar old new rest longer
leads_one_more old new entry rest changes longer grown so_far =
    let to = grown.changes so_far.reached (so_far.left entry.0 (inl refl)) in
    record {
      reached = to.after;
      lead = subst (λ (l : List Primitive). LeadThrough l old to.after) (sym grown.grows) (lead_on changes grown.more old so_far.reached to.after so_far.lead to.lead);
      left = λ path has.
          to.sets.other path (λ same. so_far.apart.0 (subst (HasEntry rest) same has)) ∙ so_far.left path (inr has);
      made = λ path none.
          ⊎_elim
          (λ same. subst (λ (p : List ℕ). get to.after p ≡ get new p) (sym same) to.sets.at)
          (λ differs. to.sets.other path differs ∙ so_far.made path (λ has. ⊎_elim (λ same. differs (sym same)) none has))
          (bytes_or_not path entry.0);
      apart = so_far.apart.1;
      short = subst (AllByRecursion HasShortSides) (sym grown.grows) (all_of_both HasShortSides changes grown.more so_far.short grown.short);
      needed =
          subst (AllByRecursion (IsOfDifference old new)) (sym grown.grows)
          (all_of_both (IsOfDifference old new) changes grown.more so_far.needed
          (all_weaker (IsOfChangedFile entry.0 (get old entry.0) (get new entry.0)) (IsOfDifference old new) grown.more
          (λ change of. subst (λ (p : List ℕ). ¬ (get old p ≡ get new p)) (sym of.0) of.1) grown.needed));
    }

-- the changes of one more path
pub leads_on : (old new : Files) (entry : List ℕ × Unit {0}) (all rest : PathEntries) (before after : Option Lines) (changes longer : List Primitive)
    → all ≡ entry ∷ rest → before ≡ get old entry.0 → after ≡ get new entry.0
    → GrowsByFile entry.0 before after changes longer → LeadsSoFar old new all changes → LeadsSoFar old new rest longer
leads_on old new entry all rest before after changes longer cut was is grown so_far =
    leads_one_more old new entry rest changes longer
    (subst (λ (o : Option Lines). GrowsByFile entry.0 o (get new entry.0) changes longer) was
    (subst (λ (o : Option Lines). GrowsByFile entry.0 before o changes longer) is grown))
    (subst (λ (l : PathEntries). LeadsSoFar old new l changes) cut so_far)

-- all paths were passed
pub leads_there : (old new : Files) (rest : PathEntries) (changes : List Primitive) → rest ≡ [] → LeadsSoFar old new rest changes → LeadThrough changes old new
leads_there old new rest changes none so_far =
    subst (LeadThrough changes old)
    (same_map nat_list_cmp_total (slice_cmp-IsAntisymmetric nat_cmp-IsAntisymmetric) so_far.reached new
    (λ path. so_far.made path (λ has. subst (λ (l : PathEntries). HasEntry l path) none has)))
    so_far.lead

-- the file of a tree at a path, by what was returned
pub file_is : {X : Type 0} (view : X → Lines) (found : Option X) (file : Option Lines) → MatchOption found (file ≡ None) (λ lines. file ≡ Some (view lines)) → option_map view found ≡ file
file_is view None file is = sym is
file_is view (Some lines) file is = sym is

long_file : (files : Files) (path : List ℕ) (lines : Option Lines) → lines ≡ get files path → AreTooMany lines → HasLongFile files
long_file files path None is many = absurd many
long_file files path (Some lines) is many = record { path = path; lines = lines; found = sym is; long = many }

-- a fault at one path
pub fails_at : (old new : Files) (path : List ℕ) (before after : Option Lines) (changes longer : List Primitive) (fault : ChangeFault)
    → before ≡ get old path → after ≡ get new path → GrowsByFileOr path before after changes (Err fault) longer → GivesChanges old new (Err fault)
fails_at old new path before after changes longer TooManyLines was is many =
    ⊎_elim (λ long. inl (long_file old path before was long)) (λ long. inr (long_file new path after is long)) many
fails_at old new path before after changes longer Memory was is many = tt
