-- When a change applies, and when it does not.
use Rattle.camp_why.proofs.Words.{Bool, true, false, cond, ◌++◌, ◌+◌, ◌-◌, ◌≡◌, ◌≢◌, ◌≤◌, ◌<◌, ◌∙◌, ◌∷◌, ℕ, zero, suc, List, [], Option, Some, None, get, insert, ap, append_assoc, arith, bytes_eq, bytes_eq-Decides, drop, drop-drop, drop_all, drop_at, false≢true, length, length-append, length-drop, length-take-le, ltb-false, ltb-true, nat_lt, none-some, not, not-false, not-true, refl, same_Some, slice_get, slice_get_past, subst, sym, take, take-append-drop, Files, Lines, SplicesLines, Applies, InRange, Edit, Primitive, Add, Hunk, Remove, IsMisfit, find_misfit, other_line, Misfit, EndsBefore, FileIsThere, HasLines, NoFile, OtherLine}
use Rattle.camp_why.specs.Misfits.{AreInFile, Edits, add_misfit, edit_misfit, ends_before, lacking, lacking_at, misfit_or, remove_misfit}

-- ---- lists from an index on

pub at_front : {X : Type 0} (xs : List X) (i : ℕ) (x : X) → slice_get xs i ≡ Some x → drop i xs ≡ x ∷ drop (suc i) xs
at_front [] i x e = absurd (none-some x e)
at_front (y ∷ ys) zero x e = ap (λ z. z ∷ ys) (same_Some _ _ e)
at_front (y ∷ ys) (suc i) x e = at_front ys i x e

drop_none : (lines : Lines) (n : ℕ) → slice_get lines n ≡ None → drop n lines ≡ []
drop_none [] zero e = refl
drop_none [] (suc n) e = refl
drop_none (line ∷ lines) zero e = absurd (none-some line (sym e))
drop_none (line ∷ lines) (suc n) e = drop_none lines n e

get_drop : (lines : Lines) (n k : ℕ) → slice_get (drop n lines) k ≡ slice_get lines (n + k)
get_drop lines zero k =
    let place : k ≡ 0 + k = omega arith in
    ap (slice_get lines) place
get_drop [] (suc n) k = sym (slice_get_past {X = List ℕ} [] (suc n + k) (omega arith) ∙ sym (slice_get_past {X = List ℕ} [] k (omega arith)))
get_drop (line ∷ lines) (suc n) k =
    let place : suc (n + k) ≡ suc n + k = omega arith in
    get_drop lines n k ∙ ap (slice_get (line ∷ lines)) place

-- ---- the first line that differs

-- the first old lines are those of the file, as far as it has any
abbrev AlikeUpTo : ℕ → Lines → Lines → Type 0
AlikeUpTo count old lines =
    (at : ℕ) (actual expected : List ℕ) → at < count → slice_get old at ≡ Some expected → slice_get lines at ≡ Some actual → actual ≡ expected

-- one more line before them
alike_more : (count : ℕ) (first : List ℕ) (other : List ℕ) (old lines : Lines) → other ≡ first → AlikeUpTo count old lines
    → AlikeUpTo (suc count) (first ∷ old) (other ∷ lines)
alike_more count first other old lines same later zero actual expected within is_expected is_there =
    same_Some _ _ (sym is_there) ∙ same ∙ same_Some _ _ is_expected
alike_more count first other old lines same later (suc at) actual expected within is_expected is_there =
    later at actual expected (omega (arith, within)) is_expected is_there

-- the first line that differs comes after this many that do not
record FindsOther (at : ℕ) (old lines : Lines) (why : Misfit) : Type 0 where
  before : ℕ
  actual : List ℕ
  expected : List ℕ
  is : why ≡ OtherLine (at + before) actual expected
  is_expected : slice_get old before ≡ Some expected
  is_there : slice_get lines before ≡ Some actual
  other : actual ≢ expected
  alike : AlikeUpTo before old lines

differ : (actual expected : List ℕ) → bytes_eq actual expected ≡ false → actual ≢ expected
differ actual expected unlike same = false≢true (sym unlike ∙ (bytes_eq-Decides actual expected).1 same)

-- the result of comparing old lines with those of the file: the first that differs; if none does, they are the same,
-- and are there if the file is long enough
abbrev Compares : ℕ → Lines → Lines → Option Misfit → Type 0
Compares at old lines (Some why) = FindsOther at old lines why
Compares at old lines None = AlikeUpTo (length old) old lines × (length old ≤ length lines → take (length old) lines ≡ old)

-- by whether the first line is another one
first_by : (at : ℕ) (expected actual : List ℕ) (old lines : Lines) (b : Bool) → bytes_eq actual expected ≡ b → (found : Option Misfit) → Compares (suc at) old lines found
    → Compares at (expected ∷ old) (actual ∷ lines) (cond b found (Some (OtherLine at actual expected)))
first_by at expected actual old lines true is (Some why) rest =
    let place : suc at + rest.before ≡ at + suc rest.before = omega arith in
    record {
      before = suc rest.before;
      actual = rest.actual;
      expected = rest.expected;
      is = rest.is ∙ ap (λ n. OtherLine n rest.actual rest.expected) place;
      is_expected = rest.is_expected;
      is_there = rest.is_there;
      other = rest.other;
      alike = alike_more rest.before expected actual old lines ((bytes_eq-Decides actual expected).0 is) rest.alike;
    }
first_by at expected actual old lines true is None rest =
    let same = (bytes_eq-Decides actual expected).0 is in (
      alike_more (length old) expected actual old lines same rest.0,
      (λ within. let later = rest.1 (omega (arith, within)) in (λ j. same j ∷ later j)),
    )
first_by at expected actual old lines false is found rest =
    let place : at ≡ at + 0 = omega arith in
    record {
      before = 0;
      actual = actual;
      expected = expected;
      is = ap (λ n. OtherLine n actual expected) place;
      is_expected = refl;
      is_there = refl;
      other = differ actual expected is;
      alike = λ at actual expected within. absurd (omega (arith, within));
    }

compares : (at : ℕ) (old lines : Lines) → Compares at old lines (other_line at old lines)
compares at [] [] = ((λ k actual expected within. absurd (omega (arith, within))), (λ within. refl))
compares at [] (line ∷ lines) = ((λ k actual expected within. absurd (omega (arith, within))), (λ within. refl))
compares at (expected ∷ old) [] = (
  (λ k actual other within is_expected is_there. absurd (none-some _ (sym (slice_get_past {X = List ℕ} [] k (omega arith)) ∙ is_there))),
  (λ within. absurd (omega (arith, within))),
)
compares at (expected ∷ old) (actual ∷ lines) =
    first_by at expected actual old lines (bytes_eq actual expected) refl (other_line (suc at) old lines) (compares (suc at) old lines)

-- ---- the reported reason is a true one, and if there is none, the change applies

-- if the old lines are there, they can be replaced by others
can_splice : (hunk : Edit) (lines : Lines) → 1 ≤ hunk.line → hunk.line - 1 + length hunk.old ≤ length lines
    → take (length hunk.old) (drop (hunk.line - 1) lines) ≡ hunk.old
    → (changed : Lines) × SplicesLines hunk.line hunk.old hunk.new lines changed
can_splice hunk lines positive within same =
    let start = hunk.line - 1 in
    let size : length (take start lines) ≡ start = length-take-le start lines (omega (arith, within)) in
    let later : drop start lines ≡ hunk.old ++ drop (start + length hunk.old) lines =
    sym (take-append-drop (length hunk.old) (drop start lines)) ∙ (λ j. same j ++ drop-drop (length hunk.old) start lines j) in (
      take start lines ++ hunk.new ++ drop (start + length hunk.old) lines,
      record {
        before = take start lines;
        after = drop (start + length hunk.old) lines;
        at = omega (arith, size, positive);
        was = sym (take-append-drop start lines) ∙ ap (λ (ls : Lines). take start lines ++ ls) later
            ∙ sym (append_assoc (take start lines) hunk.old (drop (start + length hunk.old) lines));
        becomes = refl;
      },
    )

-- a reason is a true one; if there is none, a change in range applies
abbrev Verdict : Primitive → Files → Option Misfit → Type 0
Verdict change tree (Some why) = IsMisfit change tree why
Verdict change tree None = InRange change → (next : Files) × Applies change tree next

module _ (hunk : Edit) (tree : Files) (lines : Lines) (found : get tree hunk.path ≡ Some lines) where
  edits : Edits (Hunk hunk) tree hunk lines
  edits = record { edits = refl; found = found }

  -- lines from the first of an edit on are those of the file at their places
  in_file : (count : ℕ) → AlikeUpTo count hunk.old (drop (hunk.line - 1) lines) → AreInFile hunk lines count
  in_file count alike at actual expected within is_expected is_there =
      alike at actual expected within is_expected (get_drop lines (hunk.line - 1) at ∙ is_there)

  -- a line differs
  other_is_misfit : (why : Misfit) → FindsOther hunk.line hunk.old (drop (hunk.line - 1) lines) why → IsMisfit (Hunk hunk) tree why
  other_is_misfit why finds =
      let is_so : IsMisfit (Hunk hunk) tree (OtherLine (hunk.line + finds.before) finds.actual finds.expected) =
      record {
        hunk = hunk;
        lines = lines;
        edits = edits;
        before = finds.before;
        is_at = refl;
        is_expected = finds.is_expected;
        is_there = sym (get_drop lines (hunk.line - 1) finds.before) ∙ finds.is_there;
        other = finds.other;
        alike = in_file finds.before finds.alike;
      } in
      subst (IsMisfit (Hunk hunk) tree) (sym finds.is) is_so

  -- the file ends too early, or the old lines are there
  by_end : Compares hunk.line hunk.old (drop (hunk.line - 1) lines) None → (b : Bool) → nat_lt (length lines) (hunk.line - 1 + length hunk.old) ≡ b
      → Verdict (Hunk hunk) tree (cond b (Some (EndsBefore (length lines) (hunk.line - 1 + length hunk.old) (lacking_at hunk (length lines)) (lacking hunk (length lines)))) None)
  by_end none true is = record {
    hunk = hunk;
    lines = lines;
    edits = edits;
    counts = refl;
    reaches = refl;
    later = ltb-true (length lines) (hunk.line - 1 + length hunk.old) is;
    alike = in_file (length hunk.old) none.0;
    is_lacked = refl;
    is_at = refl;
  }
  by_end none false is =
      λ range.
      let enough = ltb-false (length lines) (hunk.line - 1 + length hunk.old) is in
      let prevents = none.1 (omega (arith, enough, length-drop (hunk.line - 1) lines)) in
      let (changed, splices) = can_splice hunk lines range.counted enough prevents in
      (insert tree hunk.path changed, record { lines = lines; changed = changed; found = found; splices = splices; becomes = refl })

  by_lines : (other : Option Misfit) → Compares hunk.line hunk.old (drop (hunk.line - 1) lines) other
      → Verdict (Hunk hunk) tree (misfit_or other (ends_before hunk (length lines)))
  by_lines (Some why) finds = other_is_misfit why finds
  by_lines None none = by_end none (nat_lt (length lines) (hunk.line - 1 + length hunk.old)) refl

verdict : (change : Primitive) (tree : Files) → Verdict change tree (find_misfit change tree)
verdict (Add path) tree = by (get tree path) refl
  where
    by : (found : Option Lines) → get tree path ≡ found → Verdict (Add path) tree (add_misfit found)
    by None is = λ range. (_, record { absent = is; becomes = refl })
    by (Some lines) is = record { path = path; adds = refl; lines = lines; found = is }
verdict (Remove path) tree = by (get tree path) refl
  where
    by : (found : Option Lines) → get tree path ≡ found → Verdict (Remove path) tree (remove_misfit found)
    by None is = record { wants = refl; absent = is }
    by (Some []) is = λ range. (_, record { empty = is; becomes = refl })
    by (Some (line ∷ lines)) is =
        record { path = path; removes = refl; lines = line ∷ lines; found = is; counts = refl; some = λ none. omega (arith, none) }
verdict (Hunk hunk) tree = by (get tree hunk.path) refl
  where
    by : (found : Option Lines) → get tree hunk.path ≡ found → Verdict (Hunk hunk) tree (edit_misfit hunk found)
    by None is = record { wants = refl; absent = is }
    by (Some lines) is =
        by_lines hunk tree lines is (other_line hunk.line hunk.old (drop (hunk.line - 1) lines)) (compares hunk.line hunk.old (drop (hunk.line - 1) lines))

pub is_misfit : (change : Primitive) (tree : Files) (why : Misfit) → find_misfit change tree ≡ Some why → IsMisfit change tree why
is_misfit change tree why e = subst (Verdict change tree) e (verdict change tree)

pub none_applies : (change : Primitive) (tree : Files) → InRange change → find_misfit change tree ≡ None → (next : Files) × Applies change tree next
none_applies change tree range e = subst (Verdict change tree) e (verdict change tree) range

-- ---- if there is a reason, the change does not apply

get_in_front : (front back : Lines) (k : ℕ) (line : List ℕ) → slice_get front k ≡ Some line → slice_get (front ++ back) k ≡ Some line
get_in_front [] back k line is = absurd (none-some line is)
get_in_front (first ∷ front) back zero line is = is
get_in_front (first ∷ front) back (suc k) line is = get_in_front front back k line is

module _ (hunk : Edit) (lines other changed : Lines) (same : lines ≡ other) (splices : SplicesLines hunk.line hunk.old hunk.new other changed) where
  is : lines ≡ splices.before ++ (hunk.old ++ splices.after)
  is = same ∙ splices.was ∙ append_assoc splices.before hunk.old splices.after

  not_past_end : (has wants : ℕ) → has ≡ length lines → wants ≡ hunk.line - 1 + length hunk.old → ¬ (has < wants)
  not_past_end has wants counts reaches later =
      let long : length lines ≡ length splices.before + (length hunk.old + length splices.after) =
      ap length is ∙ length-append splices.before (hunk.old ++ splices.after)
      ∙ ap (λ n. length splices.before + n) (length-append hunk.old splices.after) in
      omega (arith, long, splices.at, counts, reaches, later)

  not_other : (before : ℕ) (actual expected : List ℕ) → slice_get hunk.old before ≡ Some expected
      → slice_get lines (hunk.line - 1 + before) ≡ Some actual → ¬ (actual ≢ expected)
  not_other before actual expected is_expected is_there differs =
      let start : length splices.before ≡ hunk.line - 1 = omega (arith, splices.at) in
      let later : drop (hunk.line - 1) lines ≡ hunk.old ++ splices.after =
      ap (drop (hunk.line - 1)) is ∙ drop_at splices.before (hunk.old ++ splices.after) (hunk.line - 1) start in
      let expects : slice_get lines (hunk.line - 1 + before) ≡ Some expected =
      sym (get_drop lines (hunk.line - 1) before) ∙ ap (λ (ls : Lines). slice_get ls before) later
      ∙ get_in_front hunk.old splices.after before expected is_expected in
      differs (same_Some _ _ (sym is_there ∙ expects))

pub not_applied : (change : Primitive) (tree next : Files) (why : Misfit) → IsMisfit change tree why → ¬ (Applies change tree next)
not_applied change tree next FileIsThere m applies =
    let adds = subst (λ c. Applies c tree next) m.adds applies in
    none-some _ (sym adds.absent ∙ m.found)
not_applied (Add path) tree next NoFile m applies = false≢true m.wants
not_applied (Remove path) tree next NoFile m applies = none-some _ (sym m.absent ∙ applies.empty)
not_applied (Hunk hunk) tree next NoFile m applies = none-some _ (sym m.absent ∙ applies.found)
not_applied change tree next (HasLines count) m applies =
    let removes = subst (λ c. Applies c tree next) m.removes applies in
    m.some (m.counts ∙ ap length (same_Some _ _ (sym m.found ∙ removes.empty)))
not_applied change tree next (EndsBefore has wants at lacks) m applies =
    let splices = subst (λ c. Applies c tree next) m.edits.edits applies in
    not_past_end m.hunk m.lines splices.lines splices.changed (same_Some _ _ (sym m.edits.found ∙ splices.found)) splices.splices has wants m.counts m.reaches m.later
not_applied change tree next (OtherLine at actual expected) m applies =
    let splices = subst (λ c. Applies c tree next) m.edits.edits applies in
    not_other m.hunk m.lines splices.lines splices.changed (same_Some _ _ (sym m.edits.found ∙ splices.found)) splices.splices m.before actual expected m.is_expected m.is_there m.other

-- ---- line by line

-- the result from an index of the old lines on
abbrev pub found_from : ℕ → ℕ → Lines → Lines → Option Misfit
found_from from at old lines = other_line (suc (from + at)) (drop at old) (drop (from + at) lines)

module _ (from at : ℕ) (old lines : Lines) (actual expected : List ℕ) (is_expected : slice_get old at ≡ Some expected) (is_there : slice_get lines (from + at) ≡ Some actual) where
  here : found_from from at old lines
      ≡ cond (bytes_eq actual expected) (other_line (suc (suc (from + at))) (drop (suc at) old) (drop (suc (from + at)) lines)) (Some (OtherLine (suc (from + at)) actual expected))
  here = (λ j. other_line (suc (from + at)) (at_front old at expected is_expected j) (at_front lines (from + at) actual is_there j))

  pub found_same : bytes_eq actual expected ≡ true → found_from from (at + 1) old lines ≡ found_from from at old lines
  found_same same =
      let next : at + 1 ≡ suc at = omega arith in
      let place : from + (at + 1) ≡ suc (from + at) = omega arith in
      (λ j. other_line (suc (place j)) (drop (next j) old) (drop (place j) lines))
      ∙ sym (here ∙ ap (λ b. cond b (other_line (suc (suc (from + at))) (drop (suc at) old) (drop (suc (from + at)) lines)) (Some (OtherLine (suc (from + at)) actual expected))) same)

  pub found_other : bytes_eq actual expected ≡ false → found_from from at old lines ≡ Some (OtherLine (suc (from + at)) actual expected)
  found_other other =
      here ∙ ap (λ b. cond b (other_line (suc (suc (from + at))) (drop (suc at) old) (drop (suc (from + at)) lines)) (Some (OtherLine (suc (from + at)) actual expected))) other

pub found_none : (from at : ℕ) (old lines : Lines) → length old ≡ at → found_from from at old lines ≡ None
found_none from at old lines all =
    ap (λ (ls : Lines). other_line (suc (from + at)) ls (drop (from + at) lines)) (drop_all at old (omega (arith, all)))

-- the first line of an edit that differs in the lines of a file
abbrev pub of_edit : Edit → Lines → Option Misfit
of_edit hunk lines = other_line hunk.line hunk.old (drop (hunk.line - 1) lines)

module _ (hunk : Edit) (lines : Lines) (from at : ℕ) (old : Lines) (found : found_from from at old lines ≡ of_edit hunk lines) where
  -- if the file has no more lines, none differs
  pub ends : (expected : List ℕ) → slice_get old at ≡ Some expected → slice_get lines (from + at) ≡ None → None ≡ of_edit hunk lines
  ends expected is_expected is_none =
      let past : drop (from + at) lines ≡ [] = drop_none lines (from + at) is_none in
      sym (λ j. other_line (suc (from + at)) (at_front old at expected is_expected j) (past j)) ∙ found

  module _ (actual expected : List ℕ) (is_expected : slice_get old at ≡ Some expected) (is_there : slice_get lines (from + at) ≡ Some actual) where
    pub differs : true ≡ not (bytes_eq actual expected) → (s e : List ℕ) → s ≡ actual → e ≡ expected
        → Some (OtherLine (from + at + 1) s e) ≡ of_edit hunk lines
    differs other s e s_is e_is =
        let number : from + at + 1 ≡ suc (from + at) = omega arith in
        (λ j. Some (OtherLine (number j) (s_is j) (e_is j)))
        ∙ sym (found_other from at old lines actual expected is_expected is_there (not-true (bytes_eq actual expected) (sym other)))
        ∙ found

    pub agrees : false ≡ not (bytes_eq actual expected) → found_from from (at + 1) old lines ≡ of_edit hunk lines
    agrees same = found_same from at old lines actual expected is_expected is_there (not-false (bytes_eq actual expected) (sym same)) ∙ found
