-- Direct dependencies, found by index.
use Rattle.camp_questions.proofs.Words.{◌≡◌, ◌<◌, ◌≤◌, ◌==◌, ℕ, zero, suc, ◌+◌, ◌-◌, Bool, true, false, not, ◌&&◌, ◌||◌, cond, inl, inr, List, [], ◌∷◌, ◌++◌, filter, map, length, take, drop, get_or, bytes_eq, append-nil, refl, sym, ap, ◌∙◌, subst, and_false, and_true, arith, AllByRecursion, list_any, drop_all, drop_more, filter-append, map-append, take_more, name_itself, AreDistinct, goes_between, needs_directly, needs_other, all_append, cases_eq, cases_order, eq-eqb, ne_eqb, All-filter, All-from_recursion, recursion_from_All, get_or-map, get_or_default, get_or_past, length-map, take_all, filter_image, other_way, Needing, Node, Needed, needing, NoneBeforeDepends, EndAtOwnIndex, name_at_index, needs_index, node_in, indexes_below}
use Rattle.camp_questions.proofs.MarkedNames.{among_marked, apart_places}
use Rattle.camp_questions.proofs.PatchFronts.{all_are}

filter_again : (f g : ℕ → Bool) (l : List ℕ) → filter g (filter f l) ≡ filter (λ k. f k && g k) l
filter_again f g [] = refl
filter_again f g (n ∷ l) = elim (f n) as (λ b. filter g (cond b (n ∷ filter f l) (filter f l)) ≡ cond (b && g n) (n ∷ filter (λ k. f k && g k) l) (filter (λ k. f k && g k) l)) [
  | true ↦ ap (λ t. cond (g n) (n ∷ t) t) (filter_again f g l)
  | false ↦ filter_again f g l
]

-- tests that agree on the first n indexes filter them alike
filter_up_to : (f g : ℕ → Bool) (n : ℕ) → ((k : ℕ) → k < n → f k ≡ g k) → filter f (indexes_below n) ≡ filter g (indexes_below n)
filter_up_to f g zero same = refl
filter_up_to f g (suc n) same =
    filter-append f (indexes_below n) (n ∷ []) ∙ (λ i. filter_up_to f g n (λ k less. same k (omega (arith, less))) i ++ cond (same n (omega arith) i) (n ∷ []) []) ∙ sym (filter-append g (indexes_below n) (n ∷ []))

pub one_more_place : (f : ℕ → Bool) (n : ℕ) → filter f (indexes_below (n + 1)) ≡ filter f (indexes_below n) ++ cond (f n) (n ∷ []) []
one_more_place f n =
    let e : n + 1 ≡ suc n = omega arith in
    ap (λ m. filter f (indexes_below m)) e ∙ filter-append f (indexes_below n) (n ∷ [])

-- the names at all indexes
names_up_to : (names : List (List ℕ)) (n : ℕ) → n ≤ length names → map (name_at_index names) (indexes_below n) ≡ take n names
names_up_to names zero within = refl
names_up_to names (suc n) within =
    let e : n + 1 ≡ suc n = omega arith in
    map-append (name_at_index names) (indexes_below n) (n ∷ []) ∙ ap (λ l. l ++ name_at_index names n ∷ []) (names_up_to names n (omega (arith, within))) ∙ sym (take_more names n [] (omega (arith, within))) ∙ ap (λ m. take m names) e

-- the names at the indexes whose names pass a test
pub names_that_pass : (test : List ℕ → Bool) (names : List (List ℕ)) (places : List ℕ) → places ≡ filter (λ k. test (name_at_index names k)) (indexes_below (length names)) → map (name_at_index names) places ≡ filter test names
names_that_pass test names places are =
    ap (map (name_at_index names)) are ∙ sym (filter_image (name_at_index names) test (indexes_below (length names))) ∙ ap (filter test) (names_up_to names (length names) (omega arith) ∙ take_all (length names) names (omega arith))

-- indexes after the last one that passes change nothing
filter_behind : (f : ℕ → Bool) (end left : ℕ) → ((k : ℕ) → end ≤ k → k < end + left → f k ≡ false) → filter f (indexes_below (end + left)) ≡ filter f (indexes_below end)
filter_behind f end zero none =
    let e : end + 0 ≡ end = omega arith in ap (λ n. filter f (indexes_below n)) e
filter_behind f end (suc left) none =
    let e : end + suc left ≡ (end + left) + 1 = omega arith in
    ap (λ n. filter f (indexes_below n)) e ∙ one_more_place f (end + left) ∙ ap (λ b. filter f (indexes_below (end + left)) ++ cond b ((end + left) ∷ []) []) (none (end + left) (omega arith) (omega arith)) ∙ append-nil (filter f (indexes_below (end + left))) ∙ filter_behind f end left (λ k past less. none k past (omega (arith, less)))

all_within_up_to : (n : ℕ) → AllByRecursion (λ k. k < n) (indexes_below n)
all_within_up_to zero = tt
all_within_up_to (suc n) =
    all_append (λ k. k < suc n) (indexes_below n) (n ∷ []) (all_are {P = λ k. k < n} {Q = λ k. k < suc n} (λ k less. omega (arith, less)) (indexes_below n) (all_within_up_to n)) ((omega arith), tt)

pub places_within : (f : ℕ → Bool) (n : ℕ) → AllByRecursion (λ k. k < n) (filter f (indexes_below n))
places_within f n =
    recursion_from_All (λ k. k < n) (filter f (indexes_below n)) (All-filter f (λ k. k < n) (indexes_below n) (All-from_recursion (λ k. k < n) (indexes_below n) (all_within_up_to n)))

-- the first of the indexes is the least
first_joined : (l : List ℕ) (n : ℕ) (b : Bool) → AllByRecursion (λ k. get_or l 0 0 ≤ k) l → AllByRecursion (λ k. k < n) l → AllByRecursion (λ k. get_or (l ++ cond b (n ∷ []) []) 0 0 ≤ k) (l ++ cond b (n ∷ []) [])
first_joined [] n true least within = (omega arith, tt)
first_joined [] n false least within = tt
first_joined (j ∷ l) n b least within = all_append (λ k. j ≤ k) (j ∷ l) (cond b (n ∷ []) []) least (last b)
  where
    last : (b : Bool) → AllByRecursion (λ k. j ≤ k) (cond b (n ∷ []) [])
    last true = let less = within.0 in (omega (arith, less), tt)
    last false = tt

pub first_is_least : (f : ℕ → Bool) (n : ℕ) → AllByRecursion (λ k. get_or (filter f (indexes_below n)) 0 0 ≤ k) (filter f (indexes_below n))
first_is_least f zero = tt
first_is_least f (suc n) =
    subst (λ l. AllByRecursion (λ k. get_or l 0 0 ≤ k) l) (sym (filter-append f (indexes_below n) (n ∷ []))) (first_joined (filter f (indexes_below n)) n (f n) (first_is_least f n) (places_within f n))

-- after the last mark there is no dependency
pub none_behind : (marks : List Bool) (at k : ℕ) → length marks ≤ k → needs_index marks at k ≡ false
none_behind marks at k past =
    ap (λ b. not (k == at) && b) (get_or_past marks k false past) ∙ and_false (not (k == at))

-- marks that end before all indexes remove none of them
none_left_out : (marks : List Bool) (at : ℕ) (places : List ℕ) → AllByRecursion (λ k. length marks ≤ k) places → filter (λ k. not (needs_index marks at k)) places ≡ places
none_left_out marks at [] past = refl
none_left_out marks at (k ∷ places) past =
    (λ i. cond (not (none_behind marks at k past.0 i)) (k ∷ filter (λ k. not (needs_index marks at k)) places) (filter (λ k. not (needs_index marks at k)) places)) ∙ ap (λ l. k ∷ l) (none_left_out marks at places past.1)

-- if the first of the indexes, which is the least, is after an index, all are
all_behind : (place : ℕ) (places : List ℕ) (first : ℕ) → place ≤ first → AllByRecursion (λ k. first ≤ k) places → AllByRecursion (λ k. place ≤ k) places
all_behind place places first past least = all_are {P = λ k. first ≤ k} {Q = λ k. place ≤ k} (λ k behind. omega (arith, past, behind)) places least

pub ends_before : (marks : List Bool) (at : ℕ) (places : List ℕ) (first : ℕ) → first ≡ get_or places 0 first → length marks ≤ first → AllByRecursion (λ k. get_or places 0 0 ≤ k) places → filter (λ k. not (needs_index marks at k)) places ≡ places
ends_before marks at [] first is past least = refl
ends_before marks at (k ∷ places) first is past least =
    none_left_out marks at (k ∷ places) (all_behind (length marks) (k ∷ places) first past (subst (λ f. AllByRecursion (λ j. f ≤ j) (k ∷ places)) (sym is) least))

-- none from an index on, and none at the one before
pub none_from : (f : ℕ → Bool) (end count before : ℕ) → end ≡ before + 1 → ((k : ℕ) → end ≤ k → k < count → f k ≡ false) → f before ≡ false → (k : ℕ) → before ≤ k → k < count → f k ≡ false
none_from f end count before next none here k far less = elim (cases_eq k before) [
  | inl same ↦ ap f same ∙ here
  | inr other ↦ none k (omega (arith, far, next, other)) less
]

-- the marks of one more patch end at its own index
pub one_ends : (all : List Needed) (i : ℕ) (q : Needed) → i < length all → q ≡ get_or all i q → length q.needs.items ≤ i + 1 → ((k : ℕ) (d : Needed) → k < i → length (get_or all k d).needs.items ≤ k + 1) → (k : ℕ) (d : Needed) → k < i + 1 → length (get_or all k d).needs.items ≤ k + 1
one_ends all i q within is ends so_far k d less = elim (cases_eq k i) [
  | inl same ↦
      let long : length (get_or all k d).needs.items ≡ length q.needs.items = ap (λ m. length (get_or all m d).needs.items) same ∙ ap (λ (x : Needed). length x.needs.items) (get_or_default all i d q within ∙ sym is) in
      omega (arith, long, same, ends)
  | inr other ↦ so_far k d (omega (arith, less, other))
]

one_past : (needs between more : Bool) → ((needs && not more) && not between) ≡ (needs && not (between || more))
one_past true true true = refl
one_past true true false = refl
one_past true false true = refl
one_past true false false = refl
one_past false between more = refl

-- whether a patch depends on the one at an index, and none of some other dependencies does
abbrev pub left_over : List (List ℕ) → Needed → List Needed → ℕ → Bool
left_over names p others k =
    needs_directly (map (needing names) others) (needing names p) (name_at_index names k)

module _ (names : List (List ℕ)) (all : List Needed) (named : map (λ (p : Needed). p.name) all ≡ names) (distinct : AreDistinct names) where
  long : length all ≡ length names
  long = sym (length-map all (λ (p : Needed). p.name)) ∙ ap length named

  name_of_patch : (at : ℕ) (p d : Needed) → at < length all → p ≡ get_or all at d → p.name ≡ name_at_index names at
  name_of_patch at p d within is =
      ap (λ (x : Needed). x.name) is ∙ sym (get_or-map (λ (x : Needed). x.name) all at d d.name within) ∙ ap (λ l. get_or l at d.name) named ∙ get_or_default names at d.name [] (omega (arith, within, long))

  same_place : (k at : ℕ) → k < length names → at < length names → bytes_eq (name_at_index names k) (name_at_index names at) ≡ (k == at)
  same_place k at less within = elim (cases_order k at) [
    | inl same ↦ ap (λ m. bytes_eq (name_at_index names m) (name_at_index names at)) same ∙ name_itself (name_at_index names at) ∙ sym (eq-eqb k at same)
    | inr other ↦ elim other [
      | inl before ↦ apart_places names k at [] distinct before within ∙ sym (ne_eqb k at (λ e. omega (arith, before, e)))
      | inr behind ↦ other_way (name_at_index names at) (name_at_index names k) (apart_places names at k [] distinct behind less) ∙ sym (ne_eqb k at (λ e. omega (arith, behind, e)))
    ]
  ]

  -- whether one patch depends on another, by names and by indexes
  pub needs_by_place : (at k : ℕ) (p d : Needed) → at < length all → p ≡ get_or all at d → k < length names → needs_other (needing names p) (name_at_index names k) ≡ needs_index p.needs.items at k
  needs_by_place at k p d within is less =
      (λ i. not ((ap (bytes_eq (name_at_index names k)) (name_of_patch at p d within is) ∙ same_place k at less (omega (arith, within, long))) i) && among_marked names p.needs.items k [] distinct less i)

  module _ (at : ℕ) (p d : Needed) (within : at < length all) (is : p ≡ get_or all at d) where
    pub starts_past : (places : List ℕ) (left : ℕ) → left ≡ length all → places ≡ filter (needs_index p.needs.items at) (indexes_below (length all)) → places ≡ filter (left_over names p (drop left all)) (indexes_below (length names))
    starts_past places left whole are =
        are ∙ ap (λ n. filter (needs_index p.needs.items at) (indexes_below n)) long
        ∙ filter_up_to (needs_index p.needs.items at) (left_over names p []) (length names) (λ k less. sym (needs_by_place at k p d within is less) ∙ sym (and_true (needs_other (needing names p) (name_at_index names k))))
        ∙ ap (λ l. filter (left_over names p l) (indexes_below (length names))) (sym (drop_all left all (omega (arith, whole))))

    module _ (places : List ℕ) (left i : ℕ) (q e : Needed) (one : left ≡ i + 1) (inside : i < length all) (there : q ≡ get_or all i e) (so_far : places ≡ filter (left_over names p (drop left all)) (indexes_below (length names))) where
      behind : drop i all ≡ q ∷ drop (i + 1) all
      behind = drop_more all i e inside ∙ ap (λ x. x ∷ drop (i + 1) all) (sym there)

      needs_it : needs_other (needing names p) q.name ≡ needs_index p.needs.items at i
      needs_it =
          ap (needs_other (needing names p)) (name_of_patch i q e inside there) ∙ needs_by_place at i p d within is (omega (arith, inside, long))

      -- one of its dependencies removes its own dependencies
      pub goes_past : (next : List ℕ) → needs_index p.needs.items at i ≡ true → next ≡ filter (λ k. not (needs_index q.needs.items i k)) places → next ≡ filter (left_over names p (drop i all)) (indexes_below (length names))
      goes_past next needed are =
          are ∙ ap (filter (λ k. not (needs_index q.needs.items i k))) (so_far ∙ ap (λ m. filter (left_over names p (drop m all)) (indexes_below (length names))) one)
          ∙ filter_again (left_over names p (drop (i + 1) all)) (λ k. not (needs_index q.needs.items i k)) (indexes_below (length names))
          ∙ filter_up_to (λ k. left_over names p (drop (i + 1) all) k && not (needs_index q.needs.items i k)) (left_over names p (q ∷ drop (i + 1) all)) (length names) (λ k less.
          ap (λ b. left_over names p (drop (i + 1) all) k && not b) (sym (ap (λ b. b && needs_other (needing names q) (name_at_index names k)) (needs_it ∙ needed) ∙ needs_by_place i k q e inside there less))
          ∙ one_past (needs_other (needing names p) (name_at_index names k)) (goes_between (needing names p) (name_at_index names k) (needing names q)) (list_any (goes_between (needing names p) (name_at_index names k)) (map (needing names) (drop (i + 1) all))))
          ∙ ap (λ l. filter (left_over names p l) (indexes_below (length names))) (sym behind)

      -- a patch that is no dependency removes none
      pub stays_past : needs_index p.needs.items at i ≡ false → places ≡ filter (left_over names p (drop i all)) (indexes_below (length names))
      stays_past needless =
          so_far ∙ ap (λ m. filter (left_over names p (drop m all)) (indexes_below (length names))) one
          ∙ filter_up_to (left_over names p (drop (i + 1) all)) (left_over names p (q ∷ drop (i + 1) all)) (length names) (λ k less.
          ap (λ b. needs_other (needing names p) (name_at_index names k) && not (b || list_any (goes_between (needing names p) (name_at_index names k)) (map (needing names) (drop (i + 1) all)))) (sym (ap (λ b. b && needs_other (needing names q) (name_at_index names k)) (needs_it ∙ needless))))
          ∙ ap (λ l. filter (left_over names p l) (indexes_below (length names))) (sym behind)

    skipped : (places : List ℕ) (end left : ℕ) → ((k : ℕ) → end ≤ k → k < length all → needs_index p.needs.items at k ≡ false) → end + left ≤ length all → places ≡ filter (left_over names p (drop (end + left) all)) (indexes_below (length names)) → places ≡ filter (left_over names p (drop end all)) (indexes_below (length names))
    skipped places end zero none inside so_far =
        let e : end + 0 ≡ end = omega arith in
        so_far ∙ ap (λ m. filter (left_over names p (drop m all)) (indexes_below (length names))) e
    skipped places end (suc left) none inside so_far =
        let i = end + left in
        let here : i < length all = omega (arith, inside) in
        skipped places end left none (omega (arith, inside)) (stays_past places (end + suc left) i (get_or all i p) p (omega arith) here refl so_far (none i (omega arith) here))

    -- patches after its last dependency are no dependencies, so their own ones do not matter
    pub starts_at : (places : List ℕ) (end : ℕ) → end ≤ length all → ((k : ℕ) → end ≤ k → k < length all → needs_index p.needs.items at k ≡ false) → places ≡ filter (needs_index p.needs.items at) (indexes_below end) → places ≡ filter (left_over names p (drop end all)) (indexes_below (length names))
    starts_at places end inside none are =
        let test = needs_index p.needs.items at in
        let left = length all - end in
        let whole : end + left ≡ length all = omega (arith, inside) in
        let behind : filter test (indexes_below (end + left)) ≡ filter test (indexes_below end) = filter_behind test end left (λ k far less. none k far (omega (arith, less, whole))) in
        skipped places end left none (omega (arith, whole)) (starts_past places (end + left) whole (are ∙ sym behind ∙ ap (λ n. filter test (indexes_below n)) whole))

    settled_past : (places : List ℕ) (left : ℕ) → EndAtOwnIndex all → left ≤ length all → AllByRecursion (λ k. left ≤ k) places → places ≡ filter (left_over names p (drop left all)) (indexes_below (length names)) → places ≡ filter (left_over names p (drop 0 all)) (indexes_below (length names))
    settled_past places zero ends inside behind so_far = so_far
    settled_past places (suc i) ends inside behind so_far =
        let q = get_or all i p in
        let here : i < length all = omega (arith, inside) in
        let end = ends i p here in
        let one : suc i ≡ i + 1 = omega arith in
        let rest = settled_past places i ends (omega (arith, inside)) (all_behind i places (suc i) (omega arith) behind) in
        let out = none_left_out q.needs.items i places (all_behind (length q.needs.items) places (suc i) (omega (arith, end)) behind) in
        elim (needs_index p.needs.items at i) as (λ b. needs_index p.needs.items at i ≡ b → places ≡ filter (left_over names p (drop 0 all)) (indexes_below (length names))) [
          | true ↦ λ e. rest (goes_past places (suc i) i q p one here refl so_far places e (sym out))
          | false ↦ λ e. rest (stays_past places (suc i) i q p one here refl so_far e)
        ] refl

    -- if no patch before an index removes one of the indexes that are left, they are all
    pub ends_settled : (in_place : Bool) (places : List ℕ) (left settled : ℕ) → (in_place ≡ true → EndAtOwnIndex all) → left ≤ settled → left ≤ length all → NoneBeforeDepends in_place places settled → places ≡ filter (left_over names p (drop left all)) (indexes_below (length names)) → places ≡ filter (left_over names p (drop 0 all)) (indexes_below (length names))
    ends_settled in_place places left settled ends less inside (inl none) so_far =
        let e : left ≡ 0 = omega (arith, less, none) in
        so_far ∙ ap (λ m. filter (left_over names p (drop m all)) (indexes_below (length names))) e
    ends_settled in_place places left settled ends less inside (inr are) so_far =
        settled_past places left (ends are.0) inside (all_behind left places settled less are.1) so_far

    pub all_past : (places : List ℕ) (left : ℕ) → left ≡ 0 → places ≡ filter (left_over names p (drop left all)) (indexes_below (length names)) → map (name_at_index names) places ≡ (node_in names (map (needing names) all) (needing names p)).needs
    all_past places left none so_far =
        names_that_pass (needs_directly (map (needing names) all) (needing names p)) names places (so_far ∙ ap (λ m. filter (left_over names p (drop m all)) (indexes_below (length names))) none)

    pub places_inside : (places : List ℕ) (left : ℕ) → places ≡ filter (left_over names p (drop left all)) (indexes_below (length names)) → AllByRecursion (λ k. k < length names) places
    places_inside places left so_far =
        subst (AllByRecursion (λ k. k < length names)) (sym so_far) (places_within (left_over names p (drop left all)) (length names))

-- one more patch is in the graph
pub one_node : (draw : Needing → Node) (needing_of : Needed → Needing) (all : List Needed) (i : ℕ) (p d : Needed) (nodes next : List Node) (node : Node) → i < length all → p ≡ get_or all i d → nodes ≡ map draw (map needing_of (take i all)) → node ≡ draw (needing_of p) → next ≡ nodes ++ node ∷ [] → next ≡ map draw (map needing_of (take (i + 1) all))
one_node draw needing_of all i p d nodes next node within is so_far drawn becomes =
    let more : take (i + 1) all ≡ take i all ++ p ∷ [] = take_more all i d within ∙ ap (λ x. take i all ++ x ∷ []) (sym is) in
    becomes ∙ (λ k. so_far k ++ drawn k ∷ []) ∙ sym (ap (λ l. map draw (map needing_of l)) more ∙ ap (map draw) (map-append needing_of (take i all) (p ∷ [])) ∙ map-append draw (map needing_of (take i all)) (needing_of p ∷ []))
