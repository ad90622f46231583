-- Patches that change other files than those that go are moved in front of them unchanged.
use Rattle.camp_questions.proofs.Words.{not-true, or_parts, or_true, Err, Ok, Result, ◌≡◌, ◌<◌, ◌==◌, ℕ, ◌+◌, Bool, true, false, true≢false, not, ◌||◌, List, [], ◌∷◌, ◌++◌, map, length, get_or, bytes_eq, refl, sym, ap, ◌∙◌, subst, inl, inr, arith, AllByRecursion, list_any, All, all_append, eq-eqb, name_itself, Key, Catch, Named, Primitive, ArrangesAfter, CatchCommutesBeforeAll, get_or-map, length-map, All-head, All-tail, ◌*◌, ◌%◌, IfOk, OnOk, InRange, PrimitivesCommute, Commute, path_of, inverse_all, Plain, TakenOut, PatchCatches, AreApart, AreOfPatch, AreFilesOf, BecomeMarked, HasMarkedFiles, IsMarkedPlain, IsPlainInRange, path_hash, hash_count, is_marked, hash_after, catch_hash, IsInverted, AllCommuteUnchanged, IsIndependent, CommuteCatch, HasFiles, here}
use Rattle.std.proofs.lemmas.Nat.{mod_below}
use Rattle.camp_questions.specs.declared.fast.changed_files.PatchFiles.{PatchFiles}
use Rattle.camp_questions.proofs.PartsArranged.{of_its_name}
use Rattle.camp_questions.proofs.ReachedPatches.{catches_at}

-- a hash number is less than the number of hash numbers
number_within : (number : ℕ) (bytes : List ℕ) → number < hash_count → hash_after number bytes < hash_count
number_within number [] less = less
number_within number (byte ∷ bytes) less =
    number_within ((number * 31 + byte) % hash_count) bytes (mod_below (number * 31 + byte) hash_count (omega arith))

pub numbers_within : (list : List Catch) → AllByRecursion (λ number. number < hash_count) (map catch_hash list)
numbers_within [] = tt
numbers_within (Plain p ∷ list) = (number_within 0 (path_of p.prim) (omega arith), numbers_within list)
numbers_within (Catch.Conflictor k ∷ list) = ((omega arith), numbers_within list)

-- a plain catch commutes unchanged past one of another patch and another file
passes_one : (marks : List Bool) (name : List ℕ) (a b : Named) → InRange a.prim → InRange b.prim → is_marked marks (path_hash (path_of a.prim)) ≡ true → is_marked marks (path_hash (path_of b.prim)) ≡ false → bytes_eq a.name name ≡ false → b.name ≡ name → Commute a b b a
passes_one marks name a b within inside marked free apart own = record {
  anywhere = record {
    apart = λ same. true≢false (sym (ap (λ n. bytes_eq n name) (ap (λ (key : Key). key.name) same ∙ own) ∙ name_itself name) ∙ apart);
    change = inl (record {
      paths = λ same. true≢false (sym marked ∙ ap (λ path. is_marked marks (path_hash path)) same ∙ free);
      second = refl;
      first = refl;
    });
    second = refl;
    first = refl;
  };
  ranges = (within, inside, inside, within);
}

passes_all : (marks : List Bool) (name : List ℕ) (going : List Catch) (b : Named) → AllByRecursion (IsMarkedPlain marks) going → AreApart name going → InRange b.prim → is_marked marks (path_hash (path_of b.prim)) ≡ false → b.name ≡ name → CatchCommutesBeforeAll going (Plain b) (Plain b) going
passes_all marks name [] b marked apart inside free own = (refl, refl)
passes_all marks name (Plain a ∷ going) b marked apart inside free own =
    (Plain b, Plain a, going, passes_all marks name going b marked.1 apart.1 inside free own, record { b' = b; a' = a; swap = passes_one marks name a b marked.0.0 inside marked.0.1 free apart.0 own; second = refl; first = refl }, refl)
passes_all marks name (Catch.Conflictor k ∷ going) b marked apart inside free own = absurd marked.0

-- if none of its files is marked, each catch of a patch commutes past those that go
pub all_pass : (marks : List Bool) (name : List ℕ) (going list : List Catch) → AllByRecursion (IsMarkedPlain marks) going → AreApart name going → AllByRecursion IsPlainInRange list → AreOfPatch name list → not (list_any (is_marked marks) (map catch_hash list)) ≡ true → AllCommuteUnchanged going list
all_pass marks name going [] marked apart inside own free = tt
all_pass marks name going (Plain b ∷ list) marked apart inside own free =
    let parts = or_parts (is_marked marks (path_hash (path_of b.prim))) (list_any (is_marked marks) (map catch_hash list)) (not-true _ free) in
    (passes_all marks name going b marked apart inside.0 parts.0 own.0, all_pass marks name going list marked apart inside.1 own.1 (ap not parts.1))
all_pass marks name going (Catch.Conflictor k ∷ list) marked apart inside own free = absurd inside.0

-- primitives that commute stay in their files
same_file : (p q q' p' : Primitive) → PrimitivesCommute p q q' p' → path_of p' ≡ path_of p
same_file p q q' p' (inl w) = ap path_of w.first
same_file p q q' p' (inr (inl w)) = ap path_of w.first
same_file p q q' p' (inr (inr w)) = ap path_of w.first ∙ sym (ap path_of w.is_p)

one_kept : (marks : List Bool) (a : Named) (k k' j' : Catch) → IsMarkedPlain marks (Plain a) → IsPlainInRange k → CommuteCatch (Plain a) k k' j' → IsPlainInRange k' × IsMarkedPlain marks j'
one_kept marks a (Plain b) k' j' marked inside w =
    let same = same_file a.prim b.prim w.b'.prim w.a'.prim w.swap.anywhere.change in
    (subst IsPlainInRange (sym w.second) w.swap.ranges.2, subst (IsMarkedPlain marks) (sym w.first) (w.swap.ranges.3, ap (λ path. is_marked marks (path_hash path)) same ∙ marked.1))
one_kept marks a (Catch.Conflictor k) k' j' marked inside w = absurd inside

-- the catches that go are still marked after a plain catch has commuted past them
kept_behind : (marks : List Bool) (going : List Catch) (k k' : Catch) (left : List Catch) → AllByRecursion (IsMarkedPlain marks) going → IsPlainInRange k → CatchCommutesBeforeAll going k k' left → IsPlainInRange k' × AllByRecursion (IsMarkedPlain marks) left
kept_behind marks [] k k' left marked inside w =
    (subst IsPlainInRange (sym w.0) inside, subst (AllByRecursion (IsMarkedPlain marks)) (sym w.1) tt)
kept_behind marks (Plain a ∷ going) k k' left marked inside w =
    let rest = kept_behind marks going k w.0 w.2 marked.1 inside w.3 in
    let one = one_kept marks a w.0 k' w.1 marked.0 rest.0 w.4 in
    (one.0, subst (AllByRecursion (IsMarkedPlain marks)) (sym w.5) (one.1, rest.1))
kept_behind marks (Catch.Conflictor j ∷ going) k k' left marked inside w = absurd marked.0

all_kept : (marks : List Bool) (name : List ℕ) (going list first left : List Catch) → AllByRecursion (IsMarkedPlain marks) going → AllByRecursion IsPlainInRange list → AreOfPatch name list → ArrangesAfter (name ∷ []) going list first left → AllByRecursion (IsMarkedPlain marks) left
all_kept marks name going [] first left marked inside own w =
    subst (AllByRecursion (IsMarkedPlain marks)) (sym w.1) marked
all_kept marks name going (k ∷ list) first left marked inside own (inl w) =
    let come = w.1 in
    let rest = kept_behind marks going k come.0 come.1 marked inside.0 come.3 in
    all_kept marks name come.1 list come.2 left rest.1 inside.1 own.1 come.4
all_kept marks name going (k ∷ list) first left marked inside own (inr w) =
    absurd (w.0 (of_its_name name k own.0))

-- the case in which a patch is moved in front, and the case in which it is not
pub still_marked : (marks : List Bool) (name : List ℕ) (going list left : List Catch) (yes : Bool) → AllByRecursion (IsMarkedPlain marks) going → AllByRecursion IsPlainInRange list → AreOfPatch name list → IsIndependent name going list yes left → AllByRecursion (IsMarkedPlain marks) left
still_marked marks name going list left true marked inside own w =
    all_kept marks name going list w.0 left marked inside own w.1
still_marked marks name going list left false marked inside own w =
    subst (AllByRecursion (IsMarkedPlain marks)) (sym w.0) marked

pub still_marked_after : {E : Type 0} (result : Result Bool E) (name : List ℕ) (list : List Catch) (old new : TakenOut) → HasMarkedFiles old → AllByRecursion IsPlainInRange list → AreOfPatch name list → new.files.items ≡ old.files.items → IfOk result (λ yes. IsIndependent name old.catches.items list yes new.catches.items) → OnOk result (HasMarkedFiles new)
still_marked_after (Ok aside) name list old new marked inside own same w = record {
  long = ap length same ∙ marked.long;
  marked = subst (λ marks. AllByRecursion (IsMarkedPlain marks) new.catches.items) (sym same) (still_marked old.files.items name old.catches.items list new.catches.items aside marked.marked inside own w);
}
still_marked_after (Err e) name list old new marked inside own same w = tt

-- more marks
more_marked : (old new : List Bool) (going : List Catch) → ((number : ℕ) → is_marked old number ≡ true → is_marked new number ≡ true) → AllByRecursion (IsMarkedPlain old) going → AllByRecursion (IsMarkedPlain new) going
more_marked old new [] more marked = tt
more_marked old new (Plain p ∷ going) more marked =
    ((marked.0.0, more (path_hash (path_of p.prim)) marked.0.1), more_marked old new going more marked.1)
more_marked old new (Catch.Conflictor k ∷ going) more marked = absurd marked.0

are_marked : (new : List Bool) (list : List Catch) → AllByRecursion IsPlainInRange list → ((number : ℕ) → list_any (λ other. number == other) (map catch_hash list) ≡ true → is_marked new number ≡ true) → AllByRecursion (IsMarkedPlain new) list
are_marked new [] inside all = tt
are_marked new (Plain p ∷ list) inside all =
    let own = path_hash (path_of p.prim) in
    let others = list_any (λ other. own == other) (map catch_hash list) in
    ((inside.0, all own (ap (λ b. b || others) (eq-eqb own own refl))), are_marked new list inside.1 (λ number there. all number (or_true (number == own) (list_any (λ other. number == other) (map catch_hash list)) there)))
are_marked new (Catch.Conflictor k ∷ list) inside all = absurd inside.0

-- the catches that go and those added to them are marked
pub joined_marked : (old new : List Bool) (going list : List Catch) → AllByRecursion (IsMarkedPlain old) going → AllByRecursion IsPlainInRange list → BecomeMarked old (map catch_hash list) new → AllByRecursion (IsMarkedPlain new) (going ++ list)
joined_marked old new going list marked inside too =
    all_append (IsMarkedPlain new) going list
    (more_marked old new going (λ number was. too number ∙ ap (λ b. b || list_any (λ other. number == other) (map catch_hash list)) was) marked)
    (are_marked new list inside (λ number there. too number ∙ or_true (is_marked old number) (list_any (λ other. number == other) (map catch_hash list)) there))

pub joined_going : (old new : TakenOut) (list : List Catch) → HasMarkedFiles old → AllByRecursion IsPlainInRange list → length new.files.items ≡ length old.files.items → BecomeMarked old.files.items (map catch_hash list) new.files.items → new.catches.items ≡ old.catches.items ++ list → HasMarkedFiles new
joined_going old new list marked inside long too goes = record {
  long = long ∙ marked.long;
  marked = subst (AllByRecursion (IsMarkedPlain new.files.items)) (sym goes) (joined_marked old.files.items new.files.items old.catches.items list marked.marked inside too);
}

-- primitives in range are plain catches in range
plain_in_range : (s : List Named) → All (λ p. InRange p.prim) s → AllByRecursion IsPlainInRange (map Plain s)
plain_in_range [] all = tt
plain_in_range (p ∷ s) all =
    (All-head (λ p. InRange p.prim) p s all, plain_in_range s (All-tail (λ p. InRange p.prim) p s all))

-- the catches of the patch at an index are plain and in range, and these are their files
pub has_files : (branch : List Catch) (patches : List PatchCatches) → IsInverted branch patches → (files : List PatchFiles) → AreFilesOf patches files → length files ≡ length patches → (place : ℕ) (p d : PatchCatches) (f e : PatchFiles) → place < length patches → p ≡ get_or patches place d → f ≡ get_or files place e → HasFiles p f
has_files branch patches inverted files are each place p d f e within is there = record {
  plain =
      let back = inverse_all inverted.forth in
      let all = plain_in_range back (inverted.room_back back here) in
      catches_at patches inverted.are place p d within is IsPlainInRange (subst (AllByRecursion IsPlainInRange) (sym inverted.inverses) all);
  numbers =
      ap (λ (x : PatchFiles). x.numbers.items) there
      ∙ sym (get_or-map (λ (x : PatchFiles). x.numbers.items) files place e e.numbers.items (omega (arith, within, each)))
      ∙ ap (λ l. get_or l place e.numbers.items) are
      ∙ get_or-map (λ (x : PatchCatches). map catch_hash x.catches.items) patches place d e.numbers.items within
      ∙ ap (λ (x : PatchCatches). map catch_hash x.catches.items) (sym is);
}

pub as_many_files : (patches : List PatchCatches) (files : List PatchFiles) → AreFilesOf patches files → length files ≡ length patches
as_many_files patches files are =
    sym (length-map files (λ (x : PatchFiles). x.numbers.items)) ∙ ap length are ∙ length-map patches (λ (x : PatchCatches). map catch_hash x.catches.items)
