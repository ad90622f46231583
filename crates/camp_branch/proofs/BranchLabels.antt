-- The labels and the names of branches, by their patches.
use Rattle.camp_branch.proofs.Words.{◌≡◌, ◌≤◌, ◌==◌, ℕ, zero, suc, ◌+◌, Bool, true, false, not, cond, List, [], ◌∷◌, ◌++◌, map, filter, length, bytes_eq, Ok, refl, sym, ap, ◌∙◌, subst, inl, inr, arith, AllByRecursion, append-nil, append_assoc, map-append, filter-append, Key, Primitive, catch_key, KeysPart, keys_of, Catch, AreDistinct, HasPatches, IsSized, Patch, each_once, has_patch, is_among, labels_from, labels_of, name_of, names_of, patch_names, recorded, others_of, those_of, ObliterateGives, other_names, PullGives, common_names, true≢false, cond-false, cond-true, cond_both, false_from_ne_true, ne_eqb, or_from, keep_labels}
use Rattle.camp_branch.proofs.Names.{all_append, all_filter, among_once, distinct_append, distinct_filter, each_among, filter_image, each_named, filter_within, is_among_is, name_itself, not_among, not_kept, passes_is_kept, same_name, without_other}
use Rattle.camp_branch.proofs.Steps.{left_by, pulled_by}

-- the names of labels
abbrev pub key_names : List Key → List (List ℕ)
key_names keys = map (λ k. k.name) keys

pub named_by_keys : (branch : List Catch) → map name_of branch ≡ key_names (keys_of branch)
named_by_keys [] = refl
named_by_keys (k ∷ branch) = ap (λ t. name_of k ∷ t) (named_by_keys branch)

-- the names but for one
abbrev but_for : List ℕ → List (List ℕ) → List (List ℕ)
but_for name names = filter (λ other. not (bytes_eq name other)) names

not_itself : (name : List ℕ) (names : List (List ℕ)) → but_for name (name ∷ names) ≡ but_for name names
not_itself name names = cond-false (not (bytes_eq name name)) _ _ (ap not (name_itself name))

-- the labels of one patch have one name
once_of_patch : (name : List ℕ) (place changes : ℕ) (keys : List Key) → 1 ≤ changes → each_once (key_names (labels_from name place changes ++ keys)) ≡ name ∷ but_for name (each_once (key_names keys))
once_of_patch name place zero keys le = absurd (omega arith)
once_of_patch name place (suc zero) keys le = refl
once_of_patch name place (suc (suc changes)) keys le =
    ap (λ t. name ∷ but_for name t) (once_of_patch name (place + 1) (suc changes) keys (omega arith)) ∙ ap (λ t. name ∷ t) (not_itself name _ ∙ filter_within (λ other. not (bytes_eq name other)) (λ other. not (bytes_eq name other)) (λ x e. e) _)

once_of_patches : (patches : List Patch) → AreDistinct (patch_names patches) → AllByRecursion IsSized patches → each_once (key_names (labels_of patches)) ≡ patch_names patches
once_of_patches [] distinct sized = refl
once_of_patches (p ∷ patches) distinct sized =
    once_of_patch p.name 1 p.changes (labels_of patches) sized.0.0 ∙ ap (λ t. p.name ∷ but_for p.name t) (once_of_patches patches distinct.1 sized.1) ∙ ap (λ t. p.name ∷ t) (without_other p.name (patch_names patches) distinct.0)

pub names_of_patches : (branch : List Catch) (patches : List Patch) → HasPatches branch patches → names_of branch ≡ patch_names patches
names_of_patches branch patches has =
    ap each_once (named_by_keys branch ∙ ap key_names has.labels) ∙ once_of_patches patches has.distinct has.sized

module _ (passes : List ℕ → Bool) where
  labels_kept : (name : List ℕ) (place changes : ℕ) → passes name ≡ true → filter (λ k. passes k.name) (labels_from name place changes) ≡ labels_from name place changes
  labels_kept name place zero e = refl
  labels_kept name place (suc changes) e =
      cond-true (passes name) _ _ e ∙ ap (λ t. record { name = name; place = place } ∷ t) (labels_kept name (place + 1) changes e)

  labels_dropped : (name : List ℕ) (place changes : ℕ) → passes name ≡ false → filter (λ k. passes k.name) (labels_from name place changes) ≡ []
  labels_dropped name place zero e = refl
  labels_dropped name place (suc changes) e = cond-false (passes name) _ _ e ∙ labels_dropped name (place + 1) changes e

  -- the labels with some names are those of the patches with these names
  pub labels_of_chosen : (patches : List Patch) → filter (λ k. passes k.name) (labels_of patches) ≡ labels_of (filter (λ p. passes p.name) patches)
  labels_of_chosen [] = refl
  labels_of_chosen (p ∷ patches) =
      let rest = filter (λ q. passes q.name) patches in
      filter-append (λ (k : Key). passes k.name) (labels_from p.name 1 p.changes) (labels_of patches) ∙ cond_both (passes p.name) (p ∷ rest) rest (λ l. filter (λ k. passes k.name) (labels_from p.name 1 p.changes) ++ filter (λ k. passes k.name) (labels_of patches) ≡ labels_of l) (λ e i. labels_kept p.name 1 p.changes e i ++ labels_of_chosen patches i) (λ e i. labels_dropped p.name 1 p.changes e i ++ labels_of_chosen patches i)

pub labels_of-append : (ps qs : List Patch) → labels_of (ps ++ qs) ≡ labels_of ps ++ labels_of qs
labels_of-append [] qs = refl
labels_of-append (p ∷ ps) qs =
    ap (λ t. labels_from p.name 1 p.changes ++ t) (labels_of-append ps qs) ∙ sym (append_assoc (labels_from p.name 1 p.changes) (labels_of ps) (labels_of qs))

-- arranging by names gives the catches whose names pass the test, and the rest
abbrev Chosen : List (List ℕ) → List Key → List Key → List Key → Type 0
Chosen names keys first rest =
    (first ≡ filter (λ k. is_among names k.name) keys) × (rest ≡ filter (λ k. not (is_among names k.name)) keys)

chosen_by : (names : List (List ℕ)) (keys first rest : List Key) → KeysPart names keys first rest → Chosen names keys first rest
chosen_by names [] first rest w = w
chosen_by names (key ∷ keys) first rest (inl w) =
    let v = w.1 in
    let e = (is_among_is names key.name).0 w.0 in
    let more = chosen_by names keys v.0 rest v.1 in
    (v.2 ∙ ap (λ t. key ∷ t) more.0 ∙ sym (cond-true (is_among names key.name) _ _ e), more.1 ∙ sym (cond-false (not (is_among names key.name)) _ _ (ap not e)))
chosen_by names (key ∷ keys) first rest (inr w) =
    let v = w.1 in
    let e = not_among names key.name w.0 in
    let more = chosen_by names keys first v.0 v.1 in
    (more.0 ∙ sym (cond-false (is_among names key.name) _ _ e), v.2 ∙ ap (λ t. key ∷ t) more.1 ∙ sym (cond-true (not (is_among names key.name)) _ _ (ap not e)))

-- a name of which a branch has no patch is the name of none of its patches
pub not_a_patch : (branch : List Catch) (patches : List Patch) (name : List ℕ) → HasPatches branch patches → has_patch branch name ≡ false → is_among (patch_names patches) name ≡ false
not_a_patch branch patches name has e =
    ap (λ names. is_among names name) (sym (names_of_patches branch patches has)) ∙ among_once (map name_of branch) name ∙ e

names_chosen : (passes : List ℕ → Bool) (patches : List Patch) → patch_names (filter (λ p. passes p.name) patches) ≡ filter passes (patch_names patches)
names_chosen passes patches = sym (filter_image (λ (p : Patch). p.name) passes patches)

-- patches whose names pass a test that no name of some others passes
apart_from : (names : List (List ℕ)) (patches : List Patch) (ours : List (List ℕ)) → ((name : List ℕ) → is_among names name ≡ true → is_among ours name ≡ false) → AllByRecursion (λ name. is_among (patch_names (those_of names patches)) name ≡ false) ours
apart_from names patches ours apart = each_among _ ours (λ name e.
    ap (λ l. is_among l name) (names_chosen (is_among names) patches) ∙ not_kept (is_among names) (patch_names patches) name (false_from_ne_true (is_among names name) (λ f. true≢false (sym e ∙ apart name f))))

chosen_keys : (from to : List Catch) (wanted : List (List ℕ)) (theirs : List Patch) (behind chosen left ours : List Key) → keys_of from ≡ labels_of theirs → Chosen (common_names from to) (keys_of from) ours behind → Chosen wanted behind chosen left → ((name : List ℕ) → is_among wanted name ≡ true → has_patch to name ≡ false) → chosen ≡ labels_of (those_of wanted theirs)
chosen_keys from to wanted theirs behind chosen left ours are v w lacked =
    w.0 ∙ ap (filter (λ k. is_among wanted k.name)) v.1 ∙ filter_within (λ (k : Key). is_among wanted k.name) (λ k. not (is_among (common_names from to) k.name)) (λ k e. ap not (not_kept (has_patch to) (names_of from) k.name (lacked k.name e))) (keys_of from) ∙ ap (filter (λ k. is_among wanted k.name)) are ∙ labels_of_chosen (is_among wanted) theirs

pub pulled_patches : (from to pulled : List Catch) (wanted : List (List ℕ)) (theirs ours : List Patch) → PullGives from to wanted (Ok pulled) → HasPatches from theirs → HasPatches to ours → ((name : List ℕ) → is_among wanted name ≡ true → has_patch to name ≡ false) → HasPatches pulled (ours ++ those_of wanted theirs)
pulled_patches from to pulled wanted theirs ours gives v w lacked =
    let p = pulled_by from to wanted pulled gives in
    let common = common_names from to in
    let front = chosen_by common (keys_of from) (keys_of p.from_common) (keys_of p.behind) (keep_labels.arranged common from p.from_common p.behind p.own_front) in
    let choice = chosen_by wanted (keys_of p.behind) (keys_of p.chosen) (keys_of p.left) (keep_labels.arranged wanted p.behind p.chosen p.left p.choice) in
    let taken = (keep_labels.merged_lists p.chosen p.others p.taken p.beside p.merge).0 ∙ chosen_keys from to wanted theirs _ _ _ _ v.labels front choice lacked in
    let theirs_apart = apart_from wanted theirs (patch_names ours) (λ name e. not_a_patch to ours name w (lacked name e)) in
    record {
      distinct = subst AreDistinct (sym (map-append (λ (q : Patch). q.name) ours (those_of wanted theirs))) (distinct_append (patch_names ours) (patch_names (those_of wanted theirs)) w.distinct (distinct_filter (λ (q : Patch). q.name) (λ q. is_among wanted q.name) theirs v.distinct) theirs_apart);
      sized = all_append IsSized ours (those_of wanted theirs) w.sized (all_filter (λ (q : Patch). q.name) (λ q. is_among wanted q.name) IsSized theirs v.sized);
      labels = ap keys_of p.becomes ∙ map-append catch_key to p.taken ∙ (λ i. w.labels i ++ taken i) ∙ sym (labels_of-append ours (those_of wanted theirs));
    }

own_names : (patches : List Patch) → AllByRecursion (λ p. is_among (patch_names patches) p.name ≡ true) patches
own_names patches = each_named (λ (p : Patch). p.name) _ patches (λ p c. (is_among_is (patch_names patches) p.name).0 c)

same_chosen : (passes : List ℕ → Bool) (names : List (List ℕ)) (patches : List Patch) → AllByRecursion (λ p. is_among names p.name ≡ true) patches → filter (λ p. is_among (filter passes names) p.name) patches ≡ filter (λ p. passes p.name) patches
same_chosen passes names [] w = refl
same_chosen passes names (p ∷ patches) w =
    (λ i. cond (passes_is_kept passes names p.name w.0 i) (p ∷ same_chosen passes names patches w.1 i) (same_chosen passes names patches w.1 i))

pub left_patches : (branch left : List Catch) (names : List (List ℕ)) (own : List Patch) → ObliterateGives branch names (Ok left) → HasPatches branch own → HasPatches left (others_of names own)
left_patches branch left names own gives has =
    let a = left_by branch names left gives in
    let passes : List ℕ → Bool = λ name. not (is_among names name) in
    let first = chosen_by (other_names branch names) (keys_of branch) (keys_of left) (keys_of a.0) (keep_labels.arranged (other_names branch names) branch left a.0 a.1) in
    let those : filter (λ p. is_among (other_names branch names) p.name) own ≡ others_of names own =
    ap (λ (all : List (List ℕ)). filter (λ (p : Patch). is_among (filter passes all) p.name) own) (names_of_patches branch own has) ∙ same_chosen passes (patch_names own) own (own_names own) in
    record {
      distinct = distinct_filter (λ (q : Patch). q.name) (λ q. passes q.name) own has.distinct;
      sized = all_filter (λ (q : Patch). q.name) (λ q. passes q.name) IsSized own has.sized;
      labels = first.0 ∙ ap (filter (λ k. is_among (other_names branch names) k.name)) has.labels ∙ labels_of_chosen (is_among (other_names branch names)) own ∙ ap labels_of those;
    }

pub names_of_pulled : (from to pulled : List Catch) (wanted : List (List ℕ)) (theirs ours : List Patch) → HasPatches from theirs → HasPatches to ours → HasPatches pulled (ours ++ those_of wanted theirs) → names_of pulled ≡ names_of to ++ filter (is_among wanted) (names_of from)
names_of_pulled from to pulled wanted theirs ours v w has =
    names_of_patches pulled (ours ++ those_of wanted theirs) has ∙ map-append (λ (p : Patch). p.name) ours (those_of wanted theirs) ∙ (λ i. sym (names_of_patches to ours w) i ++ (names_chosen (is_among wanted) theirs ∙ ap (filter (is_among wanted)) (sym (names_of_patches from theirs v))) i)

pub names_of_left : (branch left : List Catch) (names : List (List ℕ)) (own : List Patch) → HasPatches branch own → HasPatches left (others_of names own) → names_of left ≡ other_names branch names
names_of_left branch left names own v has =
    names_of_patches left (others_of names own) has ∙ names_chosen (λ name. not (is_among names name)) own ∙ ap (filter (λ name. not (is_among names name))) (sym (names_of_patches branch own v))

-- a patch has as many labels as changes
pub labels_count : (name : List ℕ) (place n : ℕ) → length (labels_from name place n) ≡ n
labels_count name place zero = refl
labels_count name place (suc n) = ap suc (labels_count name (place + 1) n)

-- the labels of recorded catches
recorded_labels : (name : List ℕ) (place : ℕ) (changes : List Primitive) → keys_of (recorded name place changes) ≡ labels_from name place (length changes)
recorded_labels name place [] = refl
recorded_labels name place (change ∷ changes) =
    ap (λ t. record { name = name; place = place } ∷ t) (recorded_labels name (place + 1) changes)

-- a name that is not among others is none of them
pub none_else : (name : List ℕ) (names : List (List ℕ)) → is_among names name ≡ false → AllByRecursion (λ other. is_among (name ∷ []) other ≡ false) names
none_else name names e = each_among _ names (λ other f.
    or_from _ _ (false_from_ne_true (bytes_eq other name) (λ g. true≢false (sym (subst (λ n. is_among names n ≡ true) (same_name other name g) f) ∙ e))) refl)

pub recorded_patches : (branch : List Catch) (patches : List Patch) (name : List ℕ) (changes : List Primitive) → HasPatches branch patches → has_patch branch name ≡ false → 1 ≤ length changes → length changes ≤ 64 → HasPatches (branch ++ recorded name 1 changes) (patches ++ record { name = name; changes = length changes } ∷ [])
recorded_patches branch patches name changes has new some few =
    let patch : Patch = record { name = name; changes = length changes } in
    let lacks = not_a_patch branch patches name has new in
    record {
      distinct = subst AreDistinct (sym (map-append (λ (q : Patch). q.name) patches (patch ∷ []))) (distinct_append (patch_names patches) (name ∷ []) has.distinct (refl, tt) (none_else name (patch_names patches) lacks));
      sized = all_append IsSized patches (patch ∷ []) has.sized ((some, few), tt);
      labels = map-append catch_key branch (recorded name 1 changes) ∙ (λ i. has.labels i ++ (recorded_labels name 1 changes ∙ sym (append-nil (labels_from name 1 (length changes)))) i) ∙ sym (labels_of-append patches (patch ∷ []));
    }

-- the names of the labels at position 1
abbrev pub starts_of : List Key → List (List ℕ)
starts_of keys = key_names (filter (λ k. k.place == 1) keys)

later_places : (name : List ℕ) (place changes : ℕ) (keys : List Key) → 2 ≤ place → starts_of (labels_from name place changes ++ keys) ≡ starts_of keys
later_places name place zero keys le = refl
later_places name place (suc changes) keys le =
    ap key_names (cond-false (place == 1) _ _ (ne_eqb place 1 (λ e. absurd (omega arith)))) ∙ later_places name (place + 1) changes keys (omega arith)

starts_of_patch : (name : List ℕ) (changes : ℕ) (keys : List Key) → 1 ≤ changes → starts_of (labels_from name 1 changes ++ keys) ≡ name ∷ starts_of keys
starts_of_patch name zero keys le = absurd (omega arith)
starts_of_patch name (suc changes) keys le = ap (λ t. name ∷ t) (later_places name 2 changes keys (omega arith))

starts_of_patches : (patches : List Patch) → AllByRecursion IsSized patches → starts_of (labels_of patches) ≡ patch_names patches
starts_of_patches [] sized = refl
starts_of_patches (p ∷ patches) sized =
    starts_of_patch p.name p.changes (labels_of patches) sized.0.0 ∙ ap (λ t. p.name ∷ t) (starts_of_patches patches sized.1)

-- the names of the catches at position 1
abbrev pub starts : List Catch → List (List ℕ)
starts branch = map name_of (filter (λ k. (catch_key k).place == 1) branch)

starts_by_keys : (branch : List Catch) → starts branch ≡ starts_of (keys_of branch)
starts_by_keys branch =
    named_by_keys (filter (λ k. (catch_key k).place == 1) branch) ∙ sym (ap key_names (filter_image catch_key (λ k. k.place == 1) branch))

-- a lawful branch has a catch at position 1 for each of its names
pub starts_are_names : (branch : List Catch) (patches : List Patch) → HasPatches branch patches → starts branch ≡ names_of branch
starts_are_names branch patches has =
    starts_by_keys branch ∙ ap starts_of has.labels ∙ starts_of_patches patches has.sized ∙ sym (names_of_patches branch patches has)
