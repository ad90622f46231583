-- The part of a graph that belongs to one patch, by the dependencies of its own patches alone.
use Rattle.camp_questions.proofs.Words.{arith, graph_part, whole_picture, ◌≡◌, ℕ, Bool, true, false, true≢false, not, ◌&&◌, ◌||◌, cond, List, [], ◌∷◌, ◌++◌, map, filter, bytes_eq, refl, sym, ap, ◌∙◌, subst, inl, inr, ◌⊎◌, ◌↔◌, Contains, AllByRecursion, list_any, Catch, Needs, CanMoveToFront, Drawn, IsGraph, Needing, NeedsThese, goes_between, needs_directly, needs_other, node_of, Node, IsPlain, IsReached, NeedsDirectly, NeedsPatch, itself, along, IsLawfulBranch, has_patch, is_among, name_of, names_of, map-map, map-id, is_among_is, cases_Bool, has_image, among_kept, among_once, name_itself, same_name, or_true, and_from, and_parts, not-true, both_ways, Needed, needing, marked, node_in, kept_node, is_one_or_neighbour, filter_image, in_order, ◌<◌, ◌+◌, take, length, get_or, map-append, take_more, all_append, PatchCatches, catches_in_order, IsInverted, AreAlike, GrowsToTakeOut, AreBlockedBy, reverse, reverse-reverse, AreConflicts, AreDistinct, names_of_patches}
use Rattle.camp_branch.proofs.Names.{distinct_filter}
use Rattle.camp_questions.proofs.Arrows.{arrow_is_need, is_there, need_is_arrow, one_needed}
use Rattle.camp_questions.proofs.BranchGrowths.{needs_are_determined, needs_are_least, needs_come_first, none_lacked, to_front}
use Rattle.camp_questions.proofs.Growing.{grown_in_order}
use Rattle.camp_questions.proofs.PatchesBack.{needed_taken_back}
use Rattle.camp_questions.proofs.GraphSteps.{drawn_in, each_needs, is_drawn, marked_by, needing_in}
use Rattle.camp_questions.proofs.Growths.{alone_among, among_cases, among_first, among_parts, among_second, in_order_there, names_differ}
use Rattle.camp_questions.proofs.HangingParts.{parts_are_reached}
use Rattle.camp_questions.proofs.KeptElements.{fact_of, of_each}
use Rattle.camp_questions.proofs.LeastHeld.{needs_and_held_are_one}
use Rattle.camp_questions.proofs.PatchFronts.{all_are, all_images, one_passing}
use Rattle.camp_questions.proofs.ReachedNeeds.{needs_are_reached}
use Rattle.camp_questions.specs.Inside.PartsOfOne.{AreMarkedAmong, AreRelated, IsMarkedAmong, IsPartOfOne}

-- tests that agree on the elements of a list filter it alike
filter_alike : (test other : List ℕ → Bool) (list : List (List ℕ)) → AllByRecursion (λ n. test n ≡ other n) list → filter test list ≡ filter other list
filter_alike test other [] w = refl
filter_alike test other (n ∷ list) w =
    (λ i. cond (w.0 i) (n ∷ filter test list) (filter test list)) ∙ ap (λ l. cond (other n) (n ∷ l) l) (filter_alike test other list w.1)

-- of two filters either may come first
filter_swap : (f g : List ℕ → Bool) (l : List (List ℕ)) → filter f (filter g l) ≡ filter g (filter f l)
filter_swap f g [] = refl
filter_swap f g (n ∷ l) = at (f n) (g n) refl refl (filter_swap f g l)
  where
    at : (a b : Bool) → f n ≡ a → g n ≡ b → filter f (filter g l) ≡ filter g (filter f l) → filter f (filter g (n ∷ l)) ≡ filter g (filter f (n ∷ l))
    at true true e h rest = rw (e, h) (rw e (ap (λ t. n ∷ t) rest))
    at true false e h rest = rw (e, h) rest
    at false true e h rest = rw (e, h) (rw e rest)
    at false false e h rest = rw (e, h) rest

-- images that agree on the elements of a list
map_alike : {X Y : Type 0} (f g : X → Y) (list : List X) → AllByRecursion (λ x. f x ≡ g x) list → map f list ≡ map g list
map_alike f g [] w = refl
map_alike f g (x ∷ list) w = λ i. w.0 i ∷ map_alike f g list w.1 i

module _ (branch : List Catch) (plain : IsPlain branch) (lawful : IsLawfulBranch branch) (x : List ℕ) (has : is_among (names_of branch) x ≡ true) (related : List (List ℕ)) (are : AreRelated branch x related) where
  abbrev own : List (List ℕ)
  own = names_of branch

  abbrev needed_of : List ℕ → List (List ℕ)
  needed_of n = (needs_are_determined branch (n ∷ [])).0

  needs_of : (n : List ℕ) → Needs branch (n ∷ []) (needed_of n)
  needs_of n = (needs_are_determined branch (n ∷ [])).1

  has_own : (n : List ℕ) → is_among own n ≡ has_patch branch n
  has_own n = among_once (map name_of branch) n

  come : (n : List ℕ) → is_among own n ≡ true → CanMoveToFront branch (needed_of n) × (is_among (needed_of n) n ≡ true)
  come n there =
      let w = needs_come_first branch (n ∷ []) (needed_of n) (none_lacked branch (n ∷ []) (alone_among n (map name_of branch) (sym (has_own n) ∙ there))) (needs_of n) in
      (w.0, w.1.has n (ap (λ b. b || false) (name_itself n)))

  -- a dependency of a dependency is one
  through : (a b c : List ℕ) → is_among own a ≡ true → is_among (needed_of a) b ≡ true → is_among (needed_of b) c ≡ true → is_among (needed_of a) c ≡ true
  through a b c there ab bc =
      needs_are_least branch (b ∷ []) (needed_of b) (needed_of a) plain (needs_of b) (alone_among b (needed_of a) ab) (come a there).0 c bc

  need_in : (a b : List ℕ) → NeedsPatch branch a b → is_among (needed_of a) b ≡ true
  need_in a b w =
      ap (λ l. is_among l b) (one_needed branch (a ∷ []) (needed_of a) w.1.0 (needs_of a) w.1.1) ∙ w.1.2

  need_from : (a b : List ℕ) → bytes_eq b a ≡ false → is_among (needed_of a) b ≡ true → NeedsPatch branch a b
  need_from a b two e =
      ((λ same. true≢false (sym (ap (λ n. bytes_eq n a) same ∙ name_itself a) ∙ two)), (needed_of a, needs_of a, e))

  -- a patch is a dependency of the one, or depends on it
  abbrev IsOnOneSide : List ℕ → Type 0
  IsOnOneSide n = (is_among (needed_of x) n ≡ true) ⊎ (is_among (needed_of n) x ≡ true)

  held_or_needed : (n : List ℕ) → is_among own n ≡ true → (is_among (needed_of n) x ≡ true) ↔ (is_among are.held n ≡ true)
  held_or_needed n there =
      needs_and_held_are_one branch x n (needed_of n) are.held plain (sym (has_own x) ∙ has) (sym (has_own n) ∙ there) (needs_of n) are.holds

  side_of : (n : List ℕ) → is_among related n ≡ true → (is_among own n ≡ true) × IsOnOneSide n
  side_of n there =
      let parts = and_parts (is_among own n) (is_among (are.needed ++ are.held) n) (sym (ap (λ l. is_among l n) are.are ∙ among_kept (is_among (are.needed ++ are.held)) own n) ∙ there) in (
        parts.0,
        elim (among_parts are.needed are.held n parts.1) [
          | inl e ↦ inl (ap (λ l. is_among l n) (one_needed branch (x ∷ []) (needed_of x) are.needed (needs_of x) are.needs) ∙ e)
          | inr e ↦ inr ((held_or_needed n parts.0).1 e)
        ],
      )

  of_side : (n : List ℕ) → is_among own n ≡ true → IsOnOneSide n → is_among related n ≡ true
  of_side n there side =
      let either : is_among (are.needed ++ are.held) n ≡ true = elim side [
        | inl e ↦ among_first are.needed are.held n (ap (λ l. is_among l n) (one_needed branch (x ∷ []) are.needed (needed_of x) are.needs (needs_of x)) ∙ e)
        | inr e ↦ among_second are.needed are.held n ((held_or_needed n there).0 e)
      ] in
      ap (λ l. is_among l n) are.are ∙ among_kept (is_among (are.needed ++ are.held)) own n ∙ and_from (is_among own n) (is_among (are.needed ++ are.held) n) there either

  abbrev GoesBetween : List ℕ → List ℕ → Type 0
  GoesBetween p q =
      (m : List ℕ) × (is_among related m ≡ true) × NeedsPatch branch p m × NeedsPatch branch m q

  -- where a patch goes between two of these, one of these does
  between : (p q b : List ℕ) → is_among related p ≡ true → is_among related q ≡ true → NeedsPatch branch p b → NeedsPatch branch b q → GoesBetween p q
  between p q b rp rq pb bq = elim kp.1 [
    | inl up ↦ by_b (inl (through x p b has up (need_in p b pb)))
    | inr down ↦ elim kq.1 [
      | inl uq ↦ below down uq (cases_Bool (bytes_eq q x)) (cases_Bool (bytes_eq x p))
      | inr dq ↦ by_b (inr (through b q x own_b (need_in b q bq) dq))
    ]
  ]
    where
      kp : (is_among own p ≡ true) × IsOnOneSide p
      kp = side_of p rp

      kq : (is_among own q ≡ true) × IsOnOneSide q
      kq = side_of q rq

      own_b : is_among own b ≡ true
      own_b = is_there branch p b pb

      by_b : IsOnOneSide b → GoesBetween p q
      by_b side = (b, of_side b own_b side, pb, bq)

      below : is_among (needed_of p) x ≡ true → is_among (needed_of x) q ≡ true → (bytes_eq q x ≡ true) ⊎ (bytes_eq q x ≡ false) → (bytes_eq x p ≡ true) ⊎ (bytes_eq x p ≡ false) → GoesBetween p q
      below down uq (inl e) other =
          by_b (inr (subst (λ n. is_among (needed_of b) n ≡ true) (same_name q x e) (need_in b q bq)))
      below down uq (inr e) (inl f) =
          by_b (inl (subst (λ n. is_among (needed_of n) b ≡ true) (sym (same_name x p f)) (need_in p b pb)))
      below down uq (inr e) (inr f) =
          (x, of_side x has (inl (come x has).1), need_from p x f down, need_from x q e uq)

  -- the whole graph
  abbrev whole : List Needing
  whole = map (needing_in branch) own

  whole_names : map (λ (p : Needing). p.name) whole ≡ own
  whole_names = map-map (λ (p : Needing). p.name) (needing_in branch) own ∙ map-id own

  module _ (all : List Needed) (marks : AreMarkedAmong branch related related all) where
    abbrev part : List Needing
    part = map (needing related) all

    abbrev IsMarked : Needed → Type 0
    IsMarked = IsMarkedAmong branch related

    marked_is : (p : Needed) (m : IsMarked p) (n : List ℕ) → is_among (needing related p).needs n ≡ (is_among related n && is_among m.grown n)
    marked_is p m n =
        ap (λ l. is_among (marked related l) n) m.marks ∙ ap (λ l. is_among l n) (marked_by (is_among m.grown) related) ∙ among_kept (is_among m.grown) related n

    known : (p : Needed) → IsMarked p → (q : List ℕ) → needs_other (needing related p) q ≡ true → NeedsPatch branch p.name q
    known p m q e =
        let parts = and_parts (not (bytes_eq q p.name)) (is_among (needing related p).needs q) e in
        let both = and_parts (is_among related q) (is_among m.grown q) (sym (marked_is p m q) ∙ parts.1) in (
          λ same. true≢false (sym (ap (λ n. bytes_eq n p.name) same ∙ name_itself p.name) ∙ not-true (bytes_eq q p.name) parts.0),
          (m.needed, m.needs, sym (m.same q (side_of q both.0).0) ∙ both.1),
        )

    knows : (p : Needed) → IsMarked p → (q : List ℕ) → is_among related q ≡ true → NeedsPatch branch p.name q → needs_other (needing related p) q ≡ true
    knows p m q rq w =
        let grown = m.same q (side_of q rq).0 ∙ ap (λ l. is_among l q) (one_needed branch (p.name ∷ []) m.needed w.1.0 m.needs w.1.1) ∙ w.1.2 in
        and_from (not (bytes_eq q p.name)) (is_among (needing related p).needs q) (ap not (names_differ q p.name w.0)) (marked_is p m q ∙ and_from (is_among related q) (is_among m.grown q) rq grown)

    passes_there : (test : Needing → Bool) (some : List Needed) (name : List ℕ) → AllByRecursion IsMarked some → ((p : Needed) → IsMarked p → p.name ≡ name → test (needing related p) ≡ true) → is_among (map (λ (p : Needed). p.name) some) name ≡ true → list_any test (map (needing related) some) ≡ true
    passes_there test [] name each passes among = absurd (true≢false (sym among))
    passes_there test (p ∷ some) name each passes among = elim (among_cases p.name (map (λ (q : Needed). q.name) some) name among) [
      | inl e ↦ ap (λ b. b || list_any test (map (needing related) some)) (passes p each.0 (sym e))
      | inr e ↦ or_true (test (needing related p)) (list_any test (map (needing related) some)) (passes_there test some name each.1 passes e)
    ]

    module _ (p : Needed) (m : IsMarked p) (rp : is_among related p.name ≡ true) (q : List ℕ) (rq : is_among related q ≡ true) where
      direct_to : needs_directly part (needing related p) q ≡ true → NeedsDirectly branch p.name q
      direct_to e =
          let parts = and_parts (needs_other (needing related p) q) (not (list_any (goes_between (needing related p) q) part)) e in
          record {
            needs = known p m q parts.0;
            none_between = λ b pb bq.
                let w = between p.name q b rp rq pb bq in
                let passes : (r : Needed) → IsMarked r → r.name ≡ w.0 → goes_between (needing related p) q (needing related r) ≡ true = λ r n same.
                and_from (needs_other (needing related p) r.name) (needs_other (needing related r) q) (knows p m r.name (ap (is_among related) same ∙ w.1) (subst (NeedsPatch branch p.name) (sym same) w.2)) (knows r n q rq (subst (λ l. NeedsPatch branch l q) (sym same) w.3)) in
                true≢false (sym (passes_there (goes_between (needing related p) q) all w.0 marks.marked passes (ap (λ l. is_among l w.0) marks.names_are ∙ w.1)) ∙ not-true (list_any (goes_between (needing related p) q) part) parts.1);
          }

      none_goes_between : (b : Bool) → list_any (goes_between (needing related p) q) part ≡ b → NeedsDirectly branch p.name q → not b ≡ true
      none_goes_between false e direct = refl
      none_goes_between true e direct =
          let Fact : Needing → Type 0 = λ n. (r : Needed) × IsMarked r × (needing related r ≡ n) in
          let facts : AllByRecursion Fact part = all_images (needing related) Fact all (all_are (λ r n. (r, n, refl)) all marks.marked) in
          let one = one_passing Fact (goes_between (needing related p) q) part facts e in
          let r : Needed = one.1.0 in
          let goes : goes_between (needing related p) q (needing related r) ≡ true = ap (goes_between (needing related p) q) one.1.2 ∙ one.2 in
          let parts = and_parts (needs_other (needing related p) r.name) (needs_other (needing related r) q) goes in
          absurd (direct.none_between r.name (known p m r.name parts.0) (known r one.1.1 q parts.1))

      direct_from : NeedsDirectly branch p.name q → needs_directly part (needing related p) q ≡ true
      direct_from direct =
          and_from (needs_other (needing related p) q) (not (list_any (goes_between (needing related p) q) part)) (knows p m q rq direct.needs) (none_goes_between (list_any (goes_between (needing related p) q) part) refl direct)

      -- the same patches are direct dependencies in the part and in the whole graph
      direct_alike : needs_directly part (needing related p) q ≡ needs_directly whole (needing_in branch p.name) q
      direct_alike =
          let these : NeedsThese branch (needing_in branch p.name) = (needed_of p.name, needs_of p.name, λ n. refl) in
          both_ways (needs_directly part (needing related p) q) (needs_directly whole (needing_in branch p.name) q)
          (λ e. need_is_arrow branch whole whole_names (each_needs branch own) (needing_in branch p.name) these q (direct_to e))
          (λ e. direct_from (arrow_is_need branch whole whole_names (each_needs branch own) (needing_in branch p.name) these q e))

    module _ (keeps : List ℕ → Bool) (same : (n : List ℕ) → keeps n ≡ is_among related n) where
      kept_are : related ≡ filter keeps own
      kept_are =
          are.are ∙ filter_alike (is_among (are.needed ++ are.held)) keeps own (of_each (λ n. is_among (are.needed ++ are.held) n ≡ keeps n) own (λ n c. sym (same n ∙ ap (λ l. is_among l n) are.are ∙ among_kept (is_among (are.needed ++ are.held)) own n ∙ ap (λ b. b && is_among (are.needed ++ are.held) n) ((is_among_is own n).0 c))))

      node_alike : (p : Needed) → IsMarked p → is_among related p.name ≡ true → node_in related part (needing related p) ≡ kept_node keeps (node_of branch whole (needing_in branch p.name))
      node_alike p m rp =
          let here = needs_directly part (needing related p) in
          let there = needs_directly whole (needing_in branch p.name) in
          let needs : filter here related ≡ filter keeps (filter there own) =
          filter_alike here there related (of_each (λ q. here q ≡ there q) related (λ q c. direct_alike p m rp q ((is_among_is related q).0 c)))
          ∙ ap (filter there) kept_are ∙ filter_swap there keeps own in
          λ i. record { name = p.name; needs = needs i }

      -- the nodes of the part
      pub part_nodes : map (node_in related part) part ≡ map (kept_node keeps) (filter (λ (n : Node). keeps n.name) (drawn_in branch).patches)
      part_nodes =
          let named : List ℕ → Node = λ n. kept_node keeps (node_of branch whole (needing_in branch n)) in
          let each : AllByRecursion (λ (p : Needed). node_in related part (needing related p) ≡ named p.name) all = of_each (λ (p : Needed). node_in related part (needing related p) ≡ named p.name) all (λ p c.
          node_alike p (fact_of IsMarked all p marks.marked c) ((is_among_is related p.name).0 (subst (λ l. Contains l p.name) marks.names_are (has_image (λ (q : Needed). q.name) all p c)))) in
          map-map (node_in related part) (needing related) all
          ∙ map_alike (λ (p : Needed). node_in related part (needing related p)) (λ (p : Needed). named p.name) all each
          ∙ sym (map-map named (λ (p : Needed). p.name) all) ∙ ap (map named) (marks.names_are ∙ kept_are)
          ∙ sym (ap (map (kept_node keeps)) (filter_image (node_of branch whole) (λ (n : Node). keeps n.name) whole ∙ ap (map (node_of branch whole)) (filter_image (needing_in branch) (λ (n : Needing). keeps n.name) own)) ∙ map-map (kept_node keeps) (node_of branch whole) (map (needing_in branch) (filter keeps own)) ∙ map-map (λ (n : Needing). kept_node keeps (node_of branch whole n)) (needing_in branch) (filter keeps own))

  -- a patch that reaches another along arrows is of the branch
  reaches_own : (graph : Drawn) → map (λ (n : Node). n.name) graph.patches ≡ own → (a b : List ℕ) → IsReached graph a b → is_among own b ≡ true → is_among own a ≡ true
  reaches_own graph called a b itself there = there
  reaches_own graph called a b (along arrow rest) there =
      ap (is_among own) (sym arrow.2) ∙ (is_among_is own arrow.0.name).0 (subst (λ l. Contains l arrow.0.name) called (has_image (λ (n : Node). n.name) graph.patches arrow.0 arrow.1))

  -- these patches are the part that belongs to the one
  pub hangs_alike : (graph : Drawn) → IsGraph branch graph → (n : List ℕ) → is_one_or_neighbour graph.patches (x ∷ []) n ≡ is_among related n
  hangs_alike graph is n =
      both_ways (is_one_or_neighbour graph.patches (x ∷ []) n) (is_among related n) forth back
    where
      called : map (λ (p : Node). p.name) graph.patches ≡ own
      called =
          ap (map (λ (p : Node). p.name)) is.patches ∙ map-map (λ (p : Node). p.name) (node_of branch is.all) is.all ∙ is.names

      by_reach : (a b : List ℕ) → is_among own a ≡ true → (is_among (needed_of a) b ≡ true) ↔ IsReached graph a b
      by_reach a b there =
          needs_are_reached branch graph a (needed_of a) lawful plain is (sym (has_own a) ∙ there) (needs_of a) b

      needed_own : (b : List ℕ) → is_among (needed_of x) b ≡ true → is_among own b ≡ true
      needed_own b e =
          let needs = needs_of x in
          has_own b ∙ in_order_there branch ((x ∷ []) ++ needs.0) b (ap (λ l. is_among l b) (sym needs.2) ∙ e)

      from : IsReached graph x n → is_among related n ≡ true
      from reached =
          let e = (by_reach x n has).1 reached in of_side n (needed_own n e) (inl e)

      into : IsReached graph n x → is_among related n ≡ true
      into reached =
          let there = reaches_own graph called n x reached has in of_side n there (inr ((by_reach n x there).1 reached))

      forth : is_one_or_neighbour graph.patches (x ∷ []) n ≡ true → is_among related n ≡ true
      forth e =
          let hang = (parts_are_reached branch graph (x ∷ []) lawful is n).0 e in
          let one : hang.0 ≡ x = elim (among_cases x [] hang.0 hang.1) [ inl e ↦ e | inr e ↦ absurd (true≢false (sym e)) ] in
          elim hang.2 [
            | inl reached ↦ from (subst (λ m. IsReached graph m n) one reached)
            | inr reached ↦ into (subst (λ m. IsReached graph n m) one reached)
          ]

      back : is_among related n ≡ true → is_one_or_neighbour graph.patches (x ∷ []) n ≡ true
      back e =
          let side = side_of n e in
          let reached : IsReached graph x n ⊎ IsReached graph n x = elim side.1 [
            | inl w ↦ inl ((by_reach x n has).0 w)
            | inr w ↦ inr ((by_reach n x side.0).0 w)
          ] in
          (parts_are_reached branch graph (x ∷ []) lawful is n).1 (x, ap (λ b. b || false) (name_itself x), reached)

-- at first no patch is marked
pub none_marked : (branch : List Catch) (among : List (List ℕ)) (all : List Needed) → all ≡ [] → AreMarkedAmong branch among (take 0 among) all
none_marked branch among all none = rw none (record { names_are = refl; marked = tt })

-- one more patch is
pub one_marked : (branch : List Catch) (among own : List (List ℕ)) (i : ℕ) (n d : List ℕ) (all next : List Needed) (one : Needed) → i < length own → n ≡ get_or own i d → AreMarkedAmong branch among (take i own) all → IsMarkedAmong branch among one → one.name ≡ n → next ≡ all ++ one ∷ [] → AreMarkedAmong branch among (take (i + 1) own) next
one_marked branch among own i n d all next one within is each marks called becomes = record {
  names_are =
      ap (map (λ (patch : Needed). patch.name)) becomes ∙ map-append (λ (patch : Needed). patch.name) all (one ∷ []) ∙ (λ k. each.names_are k ++ (called ∙ is) k ∷ []) ∙ sym (take_more own i d within);
  marked = subst (AllByRecursion (IsMarkedAmong branch among)) (sym becomes) (all_append (IsMarkedAmong branch among) all (one ∷ []) each.marked (marks, tt));
}

-- what goes with a patch of the inverted branch is marked
pub grown_marks : (branch : List Catch) (back : List PatchCatches) (among set grown : List (List ℕ)) (one : Needed) → IsInverted branch (reverse back) → AreAlike set (one.name ∷ []) → GrowsToTakeOut (catches_in_order back) set grown → one.needs.items ≡ map (is_among grown) among → IsMarkedAmong branch among one
grown_marks branch back among set grown one inverted alike grows are = record {
  needed = in_order branch grown;
  grown = grown;
  needs =
      let turned = subst (λ l. GrowsToTakeOut (catches_in_order l) set grown) (sym (reverse-reverse back)) grows in
      grown_in_order (map name_of branch) (CanMoveToFront branch) (AreBlockedBy branch) (to_front branch) branch (one.name ∷ []) set grown (in_order branch grown) alike (needed_taken_back branch (reverse back) set grown inverted turned) refl;
  same = λ n there.
      sym (among_kept (is_among grown) (names_of branch) n ∙ ap (λ b. b && is_among grown n) there);
  marks = are;
}

-- the graph of a branch, with its pairs as they were found
pub drawn_with : (branch : List Catch) (pairs : List (List ℕ × List ℕ)) → AreConflicts branch pairs → IsGraph branch (record { patches = (drawn_in branch).patches; conflicts = pairs })
drawn_with branch pairs are = record {
  all = (is_drawn branch).all;
  names = (is_drawn branch).names;
  needs = (is_drawn branch).needs;
  patches = (is_drawn branch).patches;
  conflicts = are;
}

-- no patch is among the related ones twice
pub related_distinct : (branch : List Catch) (name : List ℕ) (related : List (List ℕ)) → IsLawfulBranch branch → AreRelated branch name related → AreDistinct related
related_distinct branch name related lawful are =
    let own = names_of branch in
    let passes = is_among (are.needed ++ are.held) in
    let distinct : AreDistinct own = subst AreDistinct (sym (names_of_patches branch lawful.patches lawful.has)) lawful.has.distinct in
    subst AreDistinct (map-id (filter passes own) ∙ sym are.are) (distinct_filter (λ n. n) passes own (subst AreDistinct (sym (map-id own)) distinct))

-- the part that belongs to the only patch of a list belongs to the patches of the list
pub part_alone : (branch : List Catch) (names : List (List ℕ)) (name d : List ℕ) (part : Drawn) → length names ≡ 1 → name ≡ get_or names 0 d → IsPartOfOne branch name part → (graph : Drawn) × IsGraph branch graph × ((pairs : List (List ℕ × List ℕ)) → whole_picture part pairs ≡ graph_part names (whole_picture graph pairs))
part_alone branch [] name d part one is w = absurd (omega (arith, one))
part_alone branch (n ∷ []) name d part one is w =
    (w.0, w.1, λ pairs. w.2 pairs ∙ ap (λ m. graph_part (m ∷ []) (whole_picture w.0 pairs)) is)
part_alone branch (n ∷ m ∷ rest) name d part one is w = absurd (omega (arith, one))
