-- Changes of one file, one after another.
use Rattle.std.proofs.Common.{◌≡◌, ℕ, ◌+◌, ◌<◌, ◌≤◌, List, [], ◌∷◌, ◌++◌, length, drop, refl, sym, ap, subst, ◌∙◌, append_assoc, append-nil, arith, inl, inr, ⊎_elim, Option, None, Some, Result, Ok, Err}
use Rattle.std.proofs.Common.{add-one, drop-cons, get_or, length-append, length-drop, suc, take, take_all, zero, ◌-◌}
use Rattle.std.proofs.lemmas.List.{drop-drop, length-take, length-take-le, nil_from_length}
use Rattle.std.proofs.lemmas.Option.{same_Some}
use Rattle.std.specs.FinMap.{get, insert, remove}
use Rattle.std.specs.List.{AllByRecursion}
use Rattle.camp_base.specs.Trees.{Files, Lines}
use Rattle.camp_coding.proofs.PlaceLemmas.{inserted_at, inserted_other, removed_at, removed_other}
use Rattle.camp_diff.specs.EditScripts.{AppliesHunk, AppliesInOrder, IsEditScript, IsTightHunk, IsWithin, lines_between}
use Rattle.camp_diff.specs.declared.hunks.DiffHunk.{DiffHunk}
use Rattle.camp_prim.specs.Commuting.{path_of}
use Rattle.camp_prim.specs.declared.primitives.Primitive.{Primitive}
use Rattle.camp_prim.specs.declared.primitives.Primitive.TheVariants.{Add, Remove}
use Rattle.camp_import.specs.TreeChanges.{HasShortSides, LeadThrough}
use Rattle.camp_import.specs.declared.edits.ChangeFault.{ChangeFault}
use Rattle.camp_import.specs.declared.edits.ChangeFault.TheVariants.{Memory, TooManyLines}
use Rattle.camp_import.specs.Inside.Growing.{AreTooMany, GrowsByFile, GrowsByFileOr, GrowsByHunk, IsFirstPiece, IsOfChangedFile, IsShort, LeadToFile, PutsLines, primitive_of}

-- changes after changes
pub lead_on : (first second : List Primitive) (old mid new : Files) → LeadThrough first old mid → LeadThrough second mid new → LeadThrough (first ++ second) old new
lead_on [] second old mid new a b = subst (λ (f : Files). LeadThrough second f new) (sym a) b
lead_on (change ∷ first) second old mid new a b = (a.0, a.1, lead_on first second a.0 mid new a.2 b)

sets_again : (path : List ℕ) (lines more : Option Lines) (old mid new : Files) → PutsLines path lines old mid → PutsLines path more mid new → PutsLines path more old new
sets_again path lines more old mid new a b = record { at = b.at; other = λ another differs. b.other another differs ∙ a.other another differs }

-- changes that lead from these lines at a path to those
abbrev pub FromTo : List ℕ → (old new : Option Lines) → List Primitive → Type 0
FromTo path old new changes = (files : Files) → get files path ≡ old → LeadToFile path new changes files

pub from_to_both : (path : List ℕ) (l0 l1 l2 : Option Lines) (first second : List Primitive) → FromTo path l0 l1 first → FromTo path l1 l2 second → FromTo path l0 l2 (first ++ second)
from_to_both path l0 l1 l2 first second f g files is =
    let a = f files is in
    let b = g a.after a.sets.at in
    record {
      after = b.after;
      lead = lead_on first second files a.after b.after a.lead b.lead;
      sets = sets_again path l1 l2 files a.after b.after a.sets b.sets;
    }

pub from_to_none : (path : List ℕ) (lines : Option Lines) → FromTo path lines lines []
from_to_none path lines files is = record { after = files; lead = refl; sets = record { at = is; other = λ another differs. refl } }

from_to_hunk : (path : List ℕ) (old new : Lines) (hunk : DiffHunk) (before after : Lines) → AppliesHunk old new hunk before after → FromTo path (Some before) (Some after) (primitive_of path old new hunk ∷ [])
from_to_hunk path old new hunk before after applies files is = record {
  after = insert files path after;
  lead = (insert files path after, record { lines = before; changed = after; found = is; splices = applies; becomes = refl }, refl);
  sets = record { at = inserted_at files path after; other = inserted_other files path after };
}

from_to_remove : (path : List ℕ) → FromTo path (Some []) None (Remove path ∷ [])
from_to_remove path files is = record {
  after = remove files path;
  lead = (remove files path, record { empty = is; becomes = refl }, refl);
  sets = record { at = removed_at files path; other = removed_other files path };
}

from_to_add : (path : List ℕ) → FromTo path None (Some []) (Add path ∷ [])
from_to_add path files is = record {
  after = insert files path [];
  lead = (insert files path [], record { absent = is; becomes = refl }, refl);
  sets = record { at = inserted_at files path []; other = inserted_other files path [] };
}

-- what holds of the changes of both lists
pub all_of_both : (P : Primitive → Type 0) (first second : List Primitive) → AllByRecursion P first → AllByRecursion P second → AllByRecursion P (first ++ second)
all_of_both P [] second a b = b
all_of_both P (change ∷ first) second a b = (a.0, all_of_both P first second a.1 b)

-- what follows from what holds of all changes
pub all_weaker : (P Q : Primitive → Type 0) (changes : List Primitive) → ((change : Primitive) → P change → Q change) → AllByRecursion P changes → AllByRecursion Q changes
all_weaker P Q [] f all = tt
all_weaker P Q (change ∷ changes) f all = (f change all.0, all_weaker P Q changes f all.1)

front : (j n : ℕ) (xs : Lines) → take j xs ++ take n (drop j xs) ≡ take (j + n) xs
front zero n xs = let e : n ≡ 0 + n = omega arith in ap (λ (k : ℕ). take k xs) e
front (suc j) n [] = take_all n [] (omega arith) ∙ sym (take_all (suc j + n) [] (omega arith))
front (suc j) n (x ∷ xs) =
    let e : suc (j + n) ≡ suc j + n = omega arith in
    ap (λ (l : Lines). x ∷ l) (front j n xs) ∙ ap (λ (k : ℕ). take k (x ∷ xs)) e

-- lines in two ranges
between_both : (i k j : ℕ) (xs : Lines) → i ≤ k → k ≤ j → lines_between i j xs ≡ lines_between i k xs ++ lines_between k j xs
between_both i k j xs le le' =
    let n : k - i + (j - k) ≡ j - i = omega (arith, le, le') in
    let at : i + (k - i) ≡ k = omega (arith, le) in
    ap (λ (m : ℕ). take m (drop i xs)) (sym n)
    ∙ sym (front (k - i) (j - k) (drop i xs))
    ∙ ap (λ (l : Lines). lines_between i k xs ++ take (j - k) l) (drop-drop (k - i) i xs ∙ ap (λ (m : ℕ). drop m xs) at)

-- the file between a piece of a hunk and its rest
pub record CutsHunk (old new : Lines) (piece rest : DiffHunk) (file later : Lines) : Type 0 where
  pub mid : Lines
  pub first : AppliesHunk old new piece file mid
  pub second : AppliesHunk old new rest mid later

pub cuts_hunk : (old new : Lines) (os i oe ns j ne : ℕ) (file later : Lines) → os ≤ i → i ≤ oe → ns ≤ j → j ≤ ne → j ≤ length new
    → AppliesHunk old new (record { old_start = os; old_end = oe; new_start = ns; new_end = ne }) file later
    → CutsHunk old new (record { old_start = os; old_end = i; new_start = ns; new_end = j }) (record { old_start = i; old_end = oe; new_start = j; new_end = ne }) file later
cuts_hunk old new os i oe ns j ne file later o1 o2 n1 n2 within applies =
    let b = applies.before in
    let a = applies.after in
    let g1 : Lines = lines_between os i old in
    let g2 : Lines = lines_between i oe old in
    let c1 : Lines = lines_between ns j new in
    let c2 : Lines = lines_between j ne new in
    let size : length c1 ≡ j - ns = length-take-le (j - ns) (drop ns new) (omega (arith, n1, within, length-drop ns new)) in
    record {
      mid = b ++ c1 ++ (g2 ++ a);
      first = record {
        before = b;
        after = g2 ++ a;
        at = applies.at;
        was = applies.was
            ∙ ap (λ (l : Lines). b ++ l ++ a) (between_both os i oe old o1 o2)
            ∙ ap (λ (l : Lines). l ++ a) (sym (append_assoc b g1 g2))
            ∙ append_assoc (b ++ g1) g2 a;
        becomes = refl;
      };
      second = record {
        before = b ++ c1;
        after = a;
        at = omega (arith, applies.at, size, n1, length-append b c1);
        was = sym (append_assoc (b ++ c1) g2 a);
        becomes = applies.becomes
            ∙ ap (λ (l : Lines). b ++ l ++ a) (between_both ns j ne new n1 n2)
            ∙ ap (λ (l : Lines). l ++ a) (sym (append_assoc b c1 c2));
      };
    }

-- a hunk whose sides are short
pub grows_by_one : (path : List ℕ) (old new : Lines) (hunk : DiffHunk) (before after : List Primitive)
    → IsShort hunk → after ≡ before ++ primitive_of path old new hunk ∷ [] → GrowsByHunk path old new hunk before after
grows_by_one path old new hunk before after short is = record {
  more = primitive_of path old new hunk ∷ [];
  grows = is;
  changes = from_to_hunk path old new hunk;
  short = (
    (
      omega (arith, short.old_short, length-take (hunk.old_end - hunk.old_start) (drop hunk.old_start old)),
      omega (arith, short.new_short, length-take (hunk.new_end - hunk.new_start) (drop hunk.new_start new)),
    ),
    tt,
  );
  own = (refl, tt);
}

-- a piece of a hunk, and then its rest
pub grows_by_pieces : (path : List ℕ) (old new : Lines) (hunk piece : DiffHunk) (before between after : List Primitive)
    → IsWithin old new hunk → IsFirstPiece hunk piece → between ≡ before ++ primitive_of path old new piece ∷ []
    → GrowsByHunk path old new (record { old_start = piece.old_end; old_end = hunk.old_end; new_start = piece.new_end; new_end = hunk.new_end }) between after
    → GrowsByHunk path old new hunk before after
grows_by_pieces path old new hunk piece before between after within is one grown =
    let first = grows_by_one path old new piece before between is.short one in
    let rest : DiffHunk = record { old_start = piece.old_end; old_end = hunk.old_end; new_start = piece.new_end; new_end = hunk.new_end } in
    record {
      more = first.more ++ grown.more;
      grows = grown.grows ∙ ap (λ (l : List Primitive). l ++ grown.more) first.grows ∙ append_assoc before first.more grown.more;
      changes = λ file later applies.
          let cut : CutsHunk old new (record { old_start = hunk.old_start; old_end = piece.old_end; new_start = hunk.new_start; new_end = piece.new_end }) rest file later =
          cuts_hunk old new hunk.old_start piece.old_end hunk.old_end hunk.new_start piece.new_end hunk.new_end file later
          (omega (arith, is.old_start, is.old_from)) is.old_to (omega (arith, is.new_start, is.new_from)) is.new_to (omega (arith, is.new_to, within.new_within)) applies in
          let start : AppliesHunk old new piece file cut.mid =
          subst (λ (k : ℕ). AppliesHunk old new (record { old_start = piece.old_start; old_end = piece.old_end; new_start = k; new_end = piece.new_end }) file cut.mid) (sym is.new_start)
          (subst (λ (k : ℕ). AppliesHunk old new (record { old_start = k; old_end = piece.old_end; new_start = hunk.new_start; new_end = piece.new_end }) file cut.mid) (sym is.old_start) cut.first) in
          from_to_both path (Some file) (Some cut.mid) (Some later) first.more grown.more (first.changes file cut.mid start) (grown.changes cut.mid later cut.second);
      short = all_of_both HasShortSides first.more grown.more first.short grown.short;
      own = all_of_both (λ change. path_of change ≡ path) first.more grown.more first.own grown.own;
    }

-- what is left of a hunk after a piece
pub rest_within : (old new : Lines) (hunk piece : DiffHunk) → IsWithin old new hunk → IsFirstPiece hunk piece
    → IsWithin old new (record { old_start = piece.old_end; old_end = hunk.old_end; new_start = piece.new_end; new_end = hunk.new_end })
rest_within old new hunk piece within is = record { old_ordered = is.old_to; old_within = within.old_within; new_ordered = is.new_to; new_within = within.new_within }

-- a piece lies in the two lists
pub piece_within : (old new : Lines) (hunk piece : DiffHunk) → IsWithin old new hunk → IsFirstPiece hunk piece → IsWithin old new piece
piece_within old new hunk piece within is = record {
  old_ordered = is.old_from;
  old_within = omega (arith, is.old_to, within.old_within);
  new_ordered = is.new_from;
  new_within = omega (arith, is.new_to, within.new_within);
}

cons_is_not_nil : (hunk : DiffHunk) (rest : List DiffHunk) → ¬ (hunk ∷ rest ≡ [])
cons_is_not_nil hunk rest same = absurd cc

-- the hunks before the rest of an edit script were appended
pub record EditsSoFar (path : List ℕ) (old new : Lines) (rest : List DiffHunk) (before after : List Primitive) : Type 0 where
  pub more : List Primitive
  pub grows : after ≡ before ++ more
  pub mid : Lines
  pub changes : FromTo path (Some old) (Some mid) more
  pub short : AllByRecursion HasShortSides more
  pub left : AppliesInOrder old new rest mid new
  pub tight : AllByRecursion (IsTightHunk old new) rest
  pub needed : AllByRecursion (IsOfChangedFile path (Some old) (Some new)) more
  pub unlike : ¬ (rest ≡ []) → ¬ (old ≡ new)

pub edits_start : (path : List ℕ) (old new : Lines) (hunks : List DiffHunk) (before : List Primitive) → IsEditScript old new hunks → EditsSoFar path old new hunks before before
edits_start path old new hunks before script = record {
  more = [];
  grows = sym (append-nil before);
  mid = old;
  changes = from_to_none path (Some old);
  short = tt;
  left = script.leads;
  tight = script.tight;
  needed = tt;
  unlike = λ some same. some (script.none.1 same);
}

pub one_more_hunk : (path : List ℕ) (old new : Lines) (hunk : DiffHunk) (rest : List DiffHunk) (before after longer : List Primitive)
    → EditsSoFar path old new (hunk ∷ rest) before after → GrowsByHunk path old new hunk after longer → EditsSoFar path old new rest before longer
one_more_hunk path old new hunk rest before after longer so_far grown =
    let step = so_far.left in
    record {
      more = so_far.more ++ grown.more;
      grows = grown.grows ∙ ap (λ (l : List Primitive). l ++ grown.more) so_far.grows ∙ append_assoc before so_far.more grown.more;
      mid = step.0;
      changes = from_to_both path (Some old) (Some so_far.mid) (Some step.0) so_far.more grown.more so_far.changes (grown.changes so_far.mid step.0 step.1);
      short = all_of_both HasShortSides so_far.more grown.more so_far.short grown.short;
      left = step.2;
      tight = so_far.tight.1;
      needed =
          all_of_both (IsOfChangedFile path (Some old) (Some new)) so_far.more grown.more so_far.needed
          (all_weaker (λ change. path_of change ≡ path) (IsOfChangedFile path (Some old) (Some new)) grown.more
          (λ change own. (own, λ same. so_far.unlike (λ none. cons_is_not_nil hunk rest none) (same_Some old new same))) grown.own);
      unlike = λ some. so_far.unlike (λ none. cons_is_not_nil hunk rest none);
    }

pub edits_done : (path : List ℕ) (old new : Lines) (before after : List Primitive) → EditsSoFar path old new [] before after → GrowsByFile path (Some old) (Some new) before after
edits_done path old new before after so_far = record {
  more = so_far.more;
  grows = so_far.grows;
  changes = subst (λ (l : Lines). FromTo path (Some old) (Some l) so_far.more) so_far.left so_far.changes;
  short = so_far.short;
  needed = so_far.needed;
}

some_is_not_none : (lines : Lines) → ¬ (Some lines ≡ None)
some_is_not_none lines same = absurd cc

pub grows_removed : (path : List ℕ) (old : Lines) (before after longer : List Primitive)
    → GrowsByFile path (Some old) (Some []) before after → longer ≡ after ++ Remove path ∷ [] → GrowsByFile path (Some old) None before longer
grows_removed path old before after longer grown is = record {
  more = grown.more ++ Remove path ∷ [];
  grows = is ∙ ap (λ (l : List Primitive). l ++ Remove path ∷ []) grown.grows ∙ append_assoc before grown.more (Remove path ∷ []);
  changes = from_to_both path (Some old) (Some []) None grown.more (Remove path ∷ []) grown.changes (from_to_remove path);
  short = all_of_both HasShortSides grown.more (Remove path ∷ []) grown.short (tt, tt);
  needed =
      all_of_both (IsOfChangedFile path (Some old) None) grown.more (Remove path ∷ [])
      (all_weaker (IsOfChangedFile path (Some old) (Some [])) (IsOfChangedFile path (Some old) None) grown.more
      (λ change of. (of.0, λ same. some_is_not_none old same)) grown.needed)
      ((refl, λ same. some_is_not_none old same), tt);
}

pub grows_added : (path : List ℕ) (new : Lines) (before between after : List Primitive)
    → between ≡ before ++ Add path ∷ [] → GrowsByFile path (Some []) (Some new) between after → GrowsByFile path None (Some new) before after
grows_added path new before between after is grown = record {
  more = (Add path ∷ []) ++ grown.more;
  grows = grown.grows ∙ ap (λ (l : List Primitive). l ++ grown.more) is ∙ append_assoc before (Add path ∷ []) grown.more;
  changes = from_to_both path None (Some []) (Some new) (Add path ∷ []) grown.more (from_to_add path) grown.changes;
  short = (tt, grown.short);
  needed = (
    (refl, λ same. some_is_not_none new (sym same)),
    all_weaker (IsOfChangedFile path (Some []) (Some new)) (IsOfChangedFile path None (Some new)) grown.more
        (λ change of. (of.0, λ same. some_is_not_none new (sym same))) grown.needed,
  );
}

pub grows_none : (path : List ℕ) (before : List Primitive) → GrowsByFile path None None before before
grows_none path before = record { more = []; grows = sym (append-nil before); changes = from_to_none path None; short = tt; needed = tt }

-- the same where the changes of the lines may have failed
pub added_or : (path : List ℕ) (new lines : Lines) (before between after : List Primitive) (result : Result (Unit {0}) ChangeFault)
    → between ≡ before ++ Add path ∷ [] → lines ≡ new → GrowsByFileOr path (Some []) (Some lines) between result after → GrowsByFileOr path None (Some new) before result after
added_or path new lines before between after (Ok done) is same grown =
    grows_added path new before between after is (subst (λ (l : Lines). GrowsByFile path (Some []) (Some l) between after) same grown)
added_or path new lines before between after (Err TooManyLines) is same many =
    ⊎_elim (λ none. absurd (omega (arith, none))) (λ long. inr (subst (λ (l : Lines). AreTooMany (Some l)) same long)) many
added_or path new lines before between after (Err Memory) is same out = tt

-- removing the file failed as changing its lines did
pub not_removed : (path : List ℕ) (old lines : Lines) (before after : List Primitive) (fault : ChangeFault)
    → lines ≡ old → GrowsByFileOr path (Some lines) (Some []) before (Err fault) after → GrowsByFileOr path (Some old) None before (Err fault) after
not_removed path old lines before after TooManyLines same many =
    ⊎_elim (λ long. inl (subst (λ (l : Lines). AreTooMany (Some l)) same long)) (λ none. absurd (omega (arith, none))) many
not_removed path old lines before after Memory same out = tt

-- the next hunk of an edit script was appended
pub next_hunk : (path : List ℕ) (old new : Lines) (hunks : List DiffHunk) (index : ℕ) (before after longer : List Primitive) (none : DiffHunk)
    → index < length hunks → EditsSoFar path old new (drop index hunks) before after
    → GrowsByHunk path old new (get_or hunks index none) after longer
    → EditsSoFar path old new (drop (index + 1) hunks) before longer
next_hunk path old new hunks index before after longer none within so_far is =
    let cut : drop index hunks ≡ get_or hunks index none ∷ drop (index + 1) hunks =
    drop-cons hunks index none within ∙ ap (λ (k : ℕ). get_or hunks index none ∷ drop k hunks) (sym (add-one index)) in
    one_more_hunk path old new (get_or hunks index none) (drop (index + 1) hunks) before after longer
    (subst (λ (rest : List DiffHunk). EditsSoFar path old new rest before after) cut so_far) is

-- all hunks of an edit script were appended
pub no_hunk : (path : List ℕ) (old new : Lines) (hunks : List DiffHunk) (index : ℕ) (before after : List Primitive)
    → length hunks ≤ index → EditsSoFar path old new (drop index hunks) before after → EditsSoFar path old new [] before after
no_hunk path old new hunks index before after past so_far =
    subst (λ (rest : List DiffHunk). EditsSoFar path old new rest before after)
    (nil_from_length (drop index hunks) (omega (arith, length-drop index hunks))) so_far

-- the file was removed after its lines
pub removed : (path : List ℕ) (old lines : Lines) (before after longer : List Primitive)
    → lines ≡ old → GrowsByFile path (Some lines) (Some []) before after → longer ≡ after ++ Remove path ∷ [] → GrowsByFile path (Some old) None before longer
removed path old lines before after longer same grown is =
    grows_removed path old before after longer (subst (λ (l : Lines). GrowsByFile path (Some l) (Some []) before after) same grown) is
