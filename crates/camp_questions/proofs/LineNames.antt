-- Along the effects of a branch there are as many names as the file has lines.
use Rattle.camp_questions.proofs.Words.{◌≡◌, ◌≢◌, ◌<◌, ◌≤◌, ℕ, ◌+◌, ◌-◌, ◌==◌, Bool, true, false, true≢false, List, [], ◌∷◌, ◌++◌, Option, None, Some, length, take, drop, get_or, bytes_eq, refl, sym, ap, ◌∙◌, subst, arith, empty, get, get-empty, slice_range, splice, nat_cmp, eq_by_cmp, slice_cmp, bytes_eq-Decides, Edit, key_of, label_of, Key, Named, Primitive, Add, Remove, Hunk, Catch, name_of, Known, known_after_all, known_after_catches, known_after_change, known_after_hunk, new_line_names, names_of_lines, nothing_known, AppliesWithNames, AreKnownIn, EffectAppliesWithNames, LiesWithin, lines_or_none, drop_more, length-append, length-drop, length-take-le, eqb-true, Applies, Files, Lines, Splices, FitsAll, effect_of, AppliesAll, own_names, cond_both, cond, key_cmp, find, get-from_entries, get-insert, insert, same_map, key_ties, key_total, kept_in, get-with_file, get-with_file_other, get-with_file_same, same_path, with_file, Equal-is, eq_by_cmp_equiv}
use Rattle.camp_questions.proofs.CommonSteps.{own_count}
use Rattle.std.specs.BTreeMap as tree
use Rattle.std.specs.BTreeMap.{BTreeMap, is_at}
use Rattle.std.specs.Map.{lookup}

-- as many names as new lines are added
pub as_many : (taken : Option (List (List ℕ))) (own : List (List ℕ)) (count : ℕ) → length own ≡ count → length (new_line_names taken own count) ≡ count
as_many None own count long = long
as_many (Some taken) own count long = cond_both (length taken == count) taken own (λ l. length l ≡ count) (λ e. eqb-true (length taken) count e) (λ e. long)

-- as many lines are removed as a hunk has old ones
pub gone_count : (hunk : Edit) (known : Known) → LiesWithin hunk known → length (slice_range known.names (hunk.line - 1) (hunk.line - 1 + length hunk.old)) ≡ length hunk.old
gone_count hunk known within =
    let from : ℕ = hunk.line - 1 in
    let dropped = length-drop from known.names in
    length-take-le (from + length hunk.old - from) (drop from known.names) (omega (arith, within, dropped)) ∙ omega arith

-- and as many are added as it has new ones
pub coming_count : (name : List ℕ) (key : Key) (hunk : Edit) (known : Known) → LiesWithin hunk known
    → length (new_line_names (get known.taken key) (own_names (slice_range known.names (hunk.line - 1) (hunk.line - 1 + length hunk.old)) name hunk) (length hunk.new)) ≡ length hunk.new
coming_count name key hunk known within =
    let gone = slice_range known.names (hunk.line - 1) (hunk.line - 1 + length hunk.old) in
    as_many (get known.taken key) (own_names gone name hunk) (length hunk.new) (own_count gone name hunk (gone_count hunk known within))

spliced_count : (names coming : List (List ℕ)) (from to : ℕ) → from ≤ length names → length (splice names from to coming) ≡ from + (length coming + (length names - to))
spliced_count names coming from to within =
    length-append (take from names) (coming ++ drop to names) ∙ (λ i. length-take-le from names within i + (length-append coming (drop to names) ∙ ap (λ n. length coming + n) (length-drop to names)) i)

-- a path without a file before and after has no lines at either
pub alike : (m : Files) (q path : List ℕ) (x : Option Lines) → lines_or_none x ≡ lines_or_none (get m q) → lines_or_none (get (with_file m q x) path) ≡ lines_or_none (get m path)
alike m q path x same = ap lines_or_none (get-with_file m q x path) ∙ cond_both (eq_by_cmp (slice_cmp nat_cmp) path q) x (get m path) (λ o. lines_or_none o ≡ lines_or_none (get m path)) (λ e. same ∙ ap (λ p. lines_or_none (get m p)) (sym (same_path path q e))) (λ e. refl)

pub other_path : (a b : List ℕ) → bytes_eq a b ≡ false → a ≢ b
other_path a b e same = true≢false (sym ((bytes_eq-Decides a b).1 same) ∙ e)

-- a hunk removes lines that are there
pub stands_within : (path : List ℕ) (hunk : Edit) (old new : Files) (known : Known) → hunk.path ≡ path → Splices hunk.path hunk.line hunk.old hunk.new old new → AreKnownIn path old known → LiesWithin hunk known
stands_within path hunk old new known same w are =
    let found : length known.names ≡ length w.lines = are ∙ ap (λ p. length (lines_or_none (get old p))) (sym same) ∙ ap (λ o. length (lines_or_none o)) w.found in
    let s = w.splices in
    let parts : length w.lines ≡ length s.before + length hunk.old + length s.after = ap length s.was ∙ length-append (s.before ++ hunk.old) s.after ∙ ap (λ n. n + length s.after) (length-append s.before hunk.old) in
    omega (arith, found, parts, s.at)

pub hunk_counts : (path name : List ℕ) (key : Key) (hunk : Edit) (old new : Files) (known : Known) → hunk.path ≡ path → Splices hunk.path hunk.line hunk.old hunk.new old new → AreKnownIn path old known → AreKnownIn path new (known_after_hunk name key hunk known)
hunk_counts path name key hunk old new known same w are =
    let found : length known.names ≡ length w.lines = are ∙ ap (λ p. length (lines_or_none (get old p))) (sym same) ∙ ap (λ o. length (lines_or_none o)) w.found in
    let s = w.splices in
    let within = stands_within path hunk old new known same w are in
    let coming = new_line_names (get known.taken key) (own_names (slice_range known.names (hunk.line - 1) (hunk.line - 1 + length hunk.old)) name hunk) (length hunk.new) in
    let parts : length w.lines ≡ length s.before + length hunk.old + length s.after = ap length s.was ∙ length-append (s.before ++ hunk.old) s.after ∙ ap (λ n. n + length s.after) (length-append s.before hunk.old) in
    let becomes : length w.changed ≡ length s.before + length hunk.new + length s.after = ap length s.becomes ∙ length-append (s.before ++ hunk.new) s.after ∙ ap (λ n. n + length s.after) (length-append s.before hunk.new) in
    let now : get new path ≡ Some w.changed = ap (λ p. get new p) (sym same) ∙ ap (λ t. get t hunk.path) w.becomes ∙ get-with_file_same old hunk.path (Some w.changed) in
    let from : ℕ = hunk.line - 1 in
    let to : ℕ = from + length hunk.old in
    let starts : from ≤ length known.names = omega (arith, within) in
    let many : length coming ≡ length hunk.new = coming_count name key hunk known within in
    let counted : length (splice known.names from to coming) ≡ from + (length coming + (length known.names - to)) = spliced_count known.names coming from to starts in
    let here : length (splice known.names from to coming) ≡ length w.changed = omega (arith, found, parts, becomes, many, counted, s.at) in
    here ∙ ap (λ o. length (lines_or_none o)) (sym now)

-- after a change there are as many names as lines
pub change_counts : (path name : List ℕ) (key : Key) (p : Primitive) (old new : Files) (known : Known) → Applies p old new → AreKnownIn path old known → AreKnownIn path new (known_after_change path name key p known)
change_counts path name key (Add q) old new known w are =
    are ∙ ap length (sym (ap (λ t. lines_or_none (get t path)) w.becomes ∙ alike old q path (Some []) (ap lines_or_none (sym w.absent))))
change_counts path name key (Remove q) old new known w are =
    are ∙ ap length (sym (ap (λ t. lines_or_none (get t path)) w.becomes ∙ alike old q path None (ap lines_or_none (sym w.empty))))
change_counts path name key (Hunk hunk) old new known w are =
    cond_both (bytes_eq hunk.path path) (known_after_hunk name key hunk known) known (AreKnownIn path new)
    (λ e. hunk_counts path name key hunk old new known ((bytes_eq-Decides hunk.path path).0 e) w are)
    (λ e. are ∙ ap (λ o. length (lines_or_none o)) (sym (ap (λ t. get t path) w.becomes ∙ get-with_file_other old hunk.path path (Some w.changed) (other_path hunk.path path e))))

-- after an effect there are as many names as lines
pub effect_counts : (path name : List ℕ) (s : List Named) (old new : Files) (known : Known) → AppliesAll s old new → AreKnownIn path old known → AreKnownIn path new (known_after_all path name s known)
effect_counts path name [] old new known w are = subst (λ t. AreKnownIn path t known) (sym w) are
effect_counts path name (p ∷ s) old new known w are =
    effect_counts path name s w.0 new (known_after_change path name (key_of (label_of p)) p.prim known) w.2
    (change_counts path name (key_of (label_of p)) p.prim old w.0 known w.1 are)

-- a state between primitives: the rest of the effect leads to the same tree, and applies
pub record IsOnTheWay (path name : List ℕ) (start : Known) (effect rest : List Named) (known : Known) : Type 0 where
  pub leads : known_after_all path name rest known ≡ known_after_all path name effect start
  pub follows : EffectAppliesWithNames path rest known

next_applies : (path name : List ℕ) (start : Known) (effect : List Named) (i : ℕ) (p d : Named) (known : Known) → i < length effect → p ≡ get_or effect i d → IsOnTheWay path name start effect (drop i effect) known → IsOnTheWay path name start effect (p ∷ drop (i + 1) effect) known
next_applies path name start effect i p d known within is way =
    subst (λ rest. IsOnTheWay path name start effect rest known) (drop_more effect i d within ∙ ap (λ q. q ∷ drop (i + 1) effect) (sym is)) way

pub applies_next : (path name : List ℕ) (start : Known) (effect : List Named) (i : ℕ) (p d : Named) (known : Known) → i < length effect → p ≡ get_or effect i d → IsOnTheWay path name start effect (drop i effect) known → AppliesWithNames path p.prim known
applies_next path name start effect i p d known within is way =
    let follows = (next_applies path name start effect i p d known within is way).follows in
    (follows.0, follows.2.0, follows.2.1, follows.3)

pub one_further : (path name : List ℕ) (start : Known) (effect : List Named) (i : ℕ) (p d : Named) (known next : Known) → i < length effect → p ≡ get_or effect i d → IsOnTheWay path name start effect (drop i effect) known → next ≡ known_after_change path name (key_of (label_of p)) p.prim known → IsOnTheWay path name start effect (drop (i + 1) effect) next
one_further path name start effect i p d known next within is way becomes =
    let here = next_applies path name start effect i p d known within is way in
    let follows = here.follows in
    subst (IsOnTheWay path name start effect (drop (i + 1) effect)) (sym becomes) (record {
      leads = here.leads;
      follows = (follows.2.0, follows.1, follows.2.2, change_counts path name (key_of (label_of p)) p.prim follows.0 follows.2.0 known follows.2.1 follows.3);
    })

pub hunk_stands : (path : List ℕ) (p : Primitive) (hunk : Edit) (known : Known) (b : Bool) → p ≡ Hunk hunk → AppliesWithNames path p known → b ≡ bytes_eq hunk.path path → b ≡ true → LiesWithin hunk known
hunk_stands path p hunk known b is applies same true_b =
    let w = subst (λ q. AppliesWithNames path q known) is applies in
    stands_within path hunk w.0 w.1 known ((bytes_eq-Decides hunk.path path).0 (sym same ∙ true_b)) w.2 w.3

-- after catches there are as many names as lines
pub catches_count : (path : List ℕ) (branch : List Catch) (old new : Files) (known : Known) → FitsAll branch old new → AreKnownIn path old known → AreKnownIn path new (known_after_catches path branch known)
catches_count path [] old new known w are = subst (λ t. AreKnownIn path t known) (sym w) are
catches_count path (k ∷ branch) old new known w are =
    catches_count path branch w.0 new (known_after_all path (name_of k) (effect_of k) known) w.2
    (effect_counts path (name_of k) (effect_of k) old w.0 known w.1.effect are)

-- a state between catches: the rest of them leads to the same tree, and fits
pub record IsAlong (path : List ℕ) (catches rest : List Catch) (known : Known) : Type 0 where
  pub leads : known_after_catches path rest known ≡ known_after_catches path catches nothing_known
  pub tree : Files
  pub aim : Files
  pub fits : FitsAll rest tree aim
  pub are : AreKnownIn path tree known

pub follows_next : (path : List ℕ) (catches : List Catch) (k : Catch) (rest : List Catch) (effect : List Named) (known : Known) → effect ≡ effect_of k → IsAlong path catches (k ∷ rest) known → EffectAppliesWithNames path effect known
follows_next path catches k rest effect known is along =
    (along.tree, along.fits.0, subst (λ s. AppliesAll s along.tree along.fits.0) (sym is) along.fits.1.effect, along.are)

pub one_along : (path name : List ℕ) (catches : List Catch) (k : Catch) (rest : List Catch) (effect : List Named) (known next : Known) → name ≡ name_of k → effect ≡ effect_of k → IsAlong path catches (k ∷ rest) known → next ≡ known_after_all path name effect known → IsAlong path catches rest next
one_along path name catches k rest effect known next called is along becomes =
    let to : next ≡ known_after_all path (name_of k) (effect_of k) known = becomes ∙ (λ i. known_after_all path (called i) (is i) known) in
    subst (IsAlong path catches rest) (sym to) (record {
      leads = along.leads;
      tree = along.fits.0;
      aim = along.aim;
      fits = along.fits.2;
      are = effect_counts path (name_of k) (effect_of k) along.tree along.fits.0 known along.fits.1.effect along.are;
    })

pub none_known : (path : List ℕ) → AreKnownIn path empty nothing_known
none_known path = ap (λ o. length (lines_or_none o)) (sym (get-empty (slice_cmp nat_cmp) path))

pub starts_along : (path : List ℕ) (catches rest : List Catch) (known : Known) (tree : Files) → FitsAll catches empty tree → rest ≡ catches → known ≡ nothing_known → IsAlong path catches rest known
starts_along path catches rest known tree fits all none =
    rw (all, none) (record { leads = refl; tree = empty; aim = tree; fits = fits; are = none_known path })

pub ends_along : (path : List ℕ) (catches rest : List Catch) (known : Known) → rest ≡ [] → IsAlong path catches rest known → known.names ≡ names_of_lines path catches
ends_along path catches rest known done along =
    ap (λ (k : Known). k.names) (sym (ap (λ r. known_after_catches path r known) done) ∙ along.leads)

-- ---- the names stored under the absolute labels of hunks, as a finite map

-- labels that compare as equal are equal
pub same_key : (a b : Key) → eq_by_cmp key_cmp a b ≡ true → a ≡ b
same_key a b e = key_ties a b ((Equal-is (key_cmp a b)).0 e)

listed_under : (entries : List (Key × List (List ℕ))) (key : Key) → find key_cmp key entries ≡ lookup (is_at (key_cmp key)) entries
listed_under [] key = refl
listed_under (e ∷ entries) key =
    ap (cond (eq_by_cmp key_cmp key e.0) (Some e.1)) (listed_under entries key)

-- the stored names of a label are those found in the map
pub found_under : (taken : BTreeMap Key (List (List ℕ))) (key : Key) → get (kept_in taken) key ≡ tree.get key_cmp taken key
found_under taken key = get-from_entries key_total taken.entries key ∙ listed_under taken.entries key

-- names are stored under one label
pub kept_then : (taken next : BTreeMap Key (List (List ℕ))) (key : Key) (names : List (List ℕ)) → ((q : Key) → tree.get key_cmp next q ≡ cond (is_at (key_cmp key) q) (Some names) (tree.get key_cmp taken q)) → kept_in next ≡ insert (kept_in taken) key names
kept_then taken next key names updates =
    same_map key_total key_ties (kept_in next) (insert (kept_in taken) key names)
    (λ q. found_under next q ∙ updates q ∙ sym (get-insert key_total (kept_in taken) key names q ∙ (λ i. cond ((eq_by_cmp_equiv key_total).symm q key i) (Some names) (found_under taken q i))))
