-- The part of a graph that belongs to some patches: those reached from them along arrows, and those that reach them.
use Rattle.camp_questions.proofs.Words.{or_none, ◌≡◌, ℕ, zero, suc, Bool, true, false, true≢false, ◌||◌, inl, inr, List, [], ◌∷◌, ◌++◌, map, map-append, append_assoc, bytes_eq, refl, sym, ap, ◌∙◌, subst, arith, Contains, list_any, or_true, Catch, is_among, is_among_is, names_of, same_name, AreDistinct, IsLawfulBranch, Drawn, IsGraph, Node, IsReached, itself, along, if◌then◌else◌, names_of_patches, has_image, false_from_ne_true, Contains-append_right, IsConnected, PartsAreReached, with_needing, with_needing_one, with_needs, map-map, node_of, each_among}
use Rattle.camp_questions.proofs.BackwardArrows.{arrows_lead_backwards}
use Rattle.camp_questions.proofs.Growths.{among_cases, among_first, among_parts, among_second}
use Rattle.camp_questions.proofs.PatchFronts.{at_first, one_passing, same_head}
use Rattle.camp_questions.proofs.ReachedNeeds.{reached_through}

-- ---- names among others

-- one of the direct dependencies is among names
any_of : (needs names : List (List ℕ)) (n : List ℕ) → is_among needs n ≡ true → is_among names n ≡ true → list_any (is_among names) needs ≡ true
any_of [] names n need there = absurd (true≢false (sym need))
any_of (m ∷ needs) names n need there = elim (among_cases m needs n need) [
  | inl e ↦ ap (λ b. b || list_any (is_among names) needs) (ap (is_among names) (sym e) ∙ there)
  | inr e ↦ or_true (is_among names m) (list_any (is_among names) needs) (any_of needs names n e there)
]

-- of distinct names, none at an index or after it also comes before it
never_before : (front : List (List ℕ)) (x : List ℕ) (rest : List (List ℕ)) (y : List ℕ) (before between behind : List (List ℕ)) → AreDistinct (front ++ x ∷ rest) → is_among (x ∷ rest) y ≡ true → front ++ x ∷ rest ≡ before ++ y ∷ (between ++ x ∷ behind) → ⊥
never_before [] x rest y [] between behind distinct there e =
    true≢false (sym (ap (λ l. is_among l x) (same_head e).1 ∙ among_second between (x ∷ behind) x (at_first x behind x refl)) ∙ distinct.0)
never_before [] x rest y (n ∷ before) between behind distinct there e =
    let last = among_second between (x ∷ behind) x (at_first x behind x refl) in
    let later = among_second before (y ∷ (between ++ x ∷ behind)) x (or_true (bytes_eq x y) (is_among (between ++ x ∷ behind) x) last) in
    true≢false (sym (ap (λ l. is_among l x) (same_head e).1 ∙ later) ∙ distinct.0)
never_before (f ∷ front) x rest y [] between behind distinct there e =
    true≢false (sym (ap (is_among (front ++ x ∷ rest)) (same_head e).0 ∙ among_second front (x ∷ rest) y there) ∙ distinct.0)
never_before (f ∷ front) x rest y (n ∷ before) between behind distinct there e =
    never_before front x rest y before between behind distinct.1 there (same_head e).1

-- ---- arrows lead backwards

abbrev called : List Node → List (List ℕ)
called nodes = map (λ (n : Node). n.name) nodes

-- no patch has an arrow to itself, or to a later one
abbrev AreOrdered : List Node → Type 0
AreOrdered [] = Unit {0}
AreOrdered (p ∷ nodes) =
    ((q : Node) → Contains (p ∷ nodes) q → is_among p.needs q.name ≡ false) × AreOrdered nodes

next_of : (p : Node) (nodes : List Node) (q : Node) → Contains nodes q → Contains (p ∷ nodes) q
next_of p nodes q there = let within = there.1 in (suc there.0, (omega arith), there.2)

module _ (branch : List Catch) (graph : Drawn) (lawful : IsLawfulBranch branch) (is : IsGraph branch graph) where
  own_called : called graph.patches ≡ names_of branch
  own_called = ap called is.patches ∙ map-map (λ (n : Node). n.name) (node_of branch is.all) is.all ∙ is.names

  needs_none : (front : List Node) (p : Node) (nodes : List Node) → graph.patches ≡ front ++ p ∷ nodes → (q : Node) → Contains (p ∷ nodes) q → is_among p.needs q.name ≡ true → ⊥
  needs_none front p nodes parts q there e =
      let at : Contains graph.patches p = subst (λ l. Contains l p) (sym parts) (Contains-append_right front (p ∷ nodes) p (zero, (omega arith), refl)) in
      let stands = arrows_lead_backwards branch graph lawful is p.name q.name (p, at, refl, e) in
      let names : called graph.patches ≡ called front ++ p.name ∷ called nodes = ap called parts ∙ map-append (λ (n : Node). n.name) front (p ∷ nodes) in
      let distinct : AreDistinct (names_of branch) = subst AreDistinct (sym (names_of_patches branch lawful.patches lawful.has)) lawful.has.distinct in
      let among = (is_among_is (called (p ∷ nodes)) q.name).0 (has_image (λ (n : Node). n.name) (p ∷ nodes) q there) in
      never_before (called front) p.name (called nodes) q.name stands.before stands.between stands.behind (subst AreDistinct (sym own_called ∙ names) distinct) among (sym names ∙ own_called ∙ stands.are)

  ordered_from : (front nodes : List Node) → graph.patches ≡ front ++ nodes → AreOrdered nodes
  ordered_from front [] parts = tt
  ordered_from front (p ∷ nodes) parts = (
    λ q there. false_from_ne_true (is_among p.needs q.name) (needs_none front p nodes parts q there),
    ordered_from (front ++ p ∷ []) nodes (parts ∙ sym (append_assoc front (p ∷ []) nodes)),
  )

-- ---- a list with a few more elements after it, or without

more_kept : (b : Bool) (names more : List (List ℕ)) (n : List ℕ) → is_among names n ≡ true → is_among (if b then names ++ more else names) n ≡ true
more_kept true names more n e = among_first names more n e
more_kept false names more n e = e

more_come : (b : Bool) (names more : List (List ℕ)) (n : List ℕ) → b ≡ true → is_among more n ≡ true → is_among (if b then names ++ more else names) n ≡ true
more_come true names more n is e = among_second names more n e
more_come false names more n is e = absurd (true≢false (sym is))

-- a name that is none of the few was there before
more_apart : (b : Bool) (names more : List (List ℕ)) (n : List ℕ) → is_among more n ≡ false → is_among (if b then names ++ more else names) n ≡ true → is_among names n ≡ true
more_apart true names more n lacks e = elim (among_parts names more n e) [
  | inl w ↦ w
  | inr w ↦ absurd (true≢false (sym w ∙ lacks))
]
more_apart false names more n lacks e = e

-- ---- dependencies

kept_needs : (nodes : List Node) (names : List (List ℕ)) (n : List ℕ) → is_among names n ≡ true → is_among (with_needs nodes names) n ≡ true
kept_needs [] names n e = e
kept_needs (p ∷ nodes) names n e =
    more_kept (is_among (with_needs nodes names) p.name) (with_needs nodes names) p.needs n (kept_needs nodes names n e)

first_closed : (b : Bool) (names needs : List (List ℕ)) (name other : List ℕ) → is_among names name ≡ b → is_among needs other ≡ true → is_among (if b then names ++ needs else names) name ≡ true → is_among (if b then names ++ needs else names) other ≡ true
first_closed true names needs name other e need there = among_second names needs other need
first_closed false names needs name other e need there = absurd (true≢false (sym there ∙ e))

-- the direct dependencies of a patch among them are among them
needs_closed : (nodes : List Node) (names : List (List ℕ)) (n : Node) (other : List ℕ) → AreOrdered nodes → Contains nodes n → is_among n.needs other ≡ true → is_among (with_needs nodes names) n.name ≡ true → is_among (with_needs nodes names) other ≡ true
needs_closed [] names n other ordered (k, within, same) need there = absurd (omega arith)
needs_closed (p ∷ nodes) names n other ordered (zero, within, same) need there =
    let before = with_needs nodes names in
    first_closed (is_among before p.name) before p.needs p.name other refl (ap (λ (q : Node). is_among q.needs other) same ∙ need) (ap (λ (q : Node). is_among (with_needs (p ∷ nodes) names) q.name) same ∙ there)
needs_closed (p ∷ nodes) names n other ordered (suc k, within, same) need there =
    let before = with_needs nodes names in
    let b = is_among before p.name in
    more_kept b before p.needs other (needs_closed nodes names n other ordered.1 (k, (omega arith), same) need (more_apart b before p.needs n.name (ordered.0 n (suc k, within, same)) there))

-- ---- dependents

kept_needing : (nodes : List Node) (names : List (List ℕ)) (n : List ℕ) → is_among names n ≡ true → is_among (with_needing nodes names) n ≡ true
kept_needing [] names n e = e
kept_needing (p ∷ nodes) names n e =
    kept_needing nodes (with_needing_one names p) n (more_kept (list_any (is_among names) p.needs) names (p.name ∷ []) n e)

-- a name that is no patch of the list was there before
own_needing : (nodes : List Node) (names : List (List ℕ)) (n : List ℕ) → ((q : Node) → Contains nodes q → bytes_eq n q.name ≡ false) → is_among (with_needing nodes names) n ≡ true → is_among names n ≡ true
own_needing [] names n none e = e
own_needing (p ∷ nodes) names n none e =
    more_apart (list_any (is_among names) p.needs) names (p.name ∷ []) n (ap (λ b. b || false) (none p (zero, (omega arith), refl))) (own_needing nodes (with_needing_one names p) n (λ q there. none q (next_of p nodes q there)) e)

-- a patch that depends directly on one among them is among them
needing_closed : (nodes : List Node) (names : List (List ℕ)) (n : Node) (other : List ℕ) → AreOrdered nodes → Contains nodes n → is_among n.needs other ≡ true → is_among (with_needing nodes names) other ≡ true → is_among (with_needing nodes names) n.name ≡ true
needing_closed [] names n other ordered (k, within, same) need there = absurd (omega arith)
needing_closed (p ∷ nodes) names n other ordered (zero, within, same) need there =
    let own : is_among p.needs other ≡ true = ap (λ (q : Node). is_among q.needs other) same ∙ need in
    let here : is_among names other ≡ true = own_needing (p ∷ nodes) names other (λ q at. false_from_ne_true (bytes_eq other q.name) (λ e. true≢false (sym own ∙ ap (is_among p.needs) (same_name other q.name e) ∙ ordered.0 q at))) there in
    let joins = more_come (list_any (is_among names) p.needs) names (p.name ∷ []) p.name (any_of p.needs names other own here) (at_first p.name [] p.name refl) in
    ap (λ (q : Node). is_among (with_needing (p ∷ nodes) names) q.name) (sym same) ∙ kept_needing nodes (with_needing_one names p) p.name joins
needing_closed (p ∷ nodes) names n other ordered (suc k, within, same) need there =
    needing_closed nodes (with_needing_one names p) n other ordered.1 (k, (omega arith), same) need there

-- ---- reached patches

module _ (graph : Drawn) where
  -- some patches of the graph
  abbrev AreThere : List Node → Type 0
  AreThere nodes = (node : Node) → Contains nodes node → Contains graph.patches node

  -- reached from one of some names, or one of them is reached from it
  abbrev From : List (List ℕ) → List ℕ → Type 0
  From names other = (name : List ℕ) × (is_among names name ≡ true) × IsReached graph name other

  abbrev Into : List (List ℕ) → List ℕ → Type 0
  Into names other = (name : List ℕ) × (is_among names name ≡ true) × IsReached graph other name

  one_more_from : (names before : List (List ℕ)) (p : Node) (other : List ℕ) (b : Bool) → is_among before p.name ≡ b → Contains graph.patches p → ((n : List ℕ) → is_among before n ≡ true → From names n) → is_among (if b then before ++ p.needs else before) other ≡ true → From names other
  one_more_from names before p other true e at later there =
      elim (among_parts before p.needs other there) [
        | inl w ↦ later other w
        | inr w ↦ let from = later p.name e in (from.0, from.1, reached_through from.2 (along (p, at, refl, w) itself))
      ]
  one_more_from names before p other false e at later there = later other there

  needed_from : (nodes : List Node) → AreThere nodes → (names : List (List ℕ)) (other : List ℕ) → is_among (with_needs nodes names) other ≡ true → From names other
  needed_from [] are names other there = (other, there, itself)
  needed_from (p ∷ nodes) are names other there =
      one_more_from names (with_needs nodes names) p other (is_among (with_needs nodes names) p.name) refl (are p (zero, (omega arith), refl)) (needed_from nodes (λ q at. are q (next_of p nodes q at)) names) there

  one_more_into : (names : List (List ℕ)) (p : Node) (other name : List ℕ) (b : Bool) → list_any (is_among names) p.needs ≡ b → Contains graph.patches p → IsReached graph other name → is_among (if b then names ++ p.name ∷ [] else names) name ≡ true → Into names other
  one_more_into names p other name true e at reached there = elim (among_parts names (p.name ∷ []) name there) [
    | inl w ↦ (name, w, reached)
    | inr w ↦
        let one = one_passing (λ n. is_among p.needs n ≡ true) (is_among names) p.needs (each_among (λ n. is_among p.needs n ≡ true) p.needs (λ n among. among)) e in
        let same = same_name name p.name (sym (or_none (bytes_eq name p.name)) ∙ w) in
        (one.0, one.2, reached_through (subst (IsReached graph other) same reached) (along (p, at, refl, one.1) itself))
  ]
  one_more_into names p other name false e at reached there = (name, there, reached)

  needing_into : (nodes : List Node) → AreThere nodes → (names : List (List ℕ)) (other : List ℕ) → is_among (with_needing nodes names) other ≡ true → Into names other
  needing_into [] are names other there = (other, there, itself)
  needing_into (p ∷ nodes) are names other there =
      let into = needing_into nodes (λ q at. are q (next_of p nodes q at)) (with_needing_one names p) other there in
      one_more_into names p other into.0 (list_any (is_among names) p.needs) refl (are p (zero, (omega arith), refl)) into.2 into.1

  module _ (names : List (List ℕ)) (ordered : AreOrdered graph.patches) where
    from_there : {name other : List ℕ} → IsReached graph name other → is_among (with_needs graph.patches names) name ≡ true → is_among (with_needs graph.patches names) other ≡ true
    from_there itself there = there
    from_there (along {between = between} arrow rest) there =
        from_there rest (needs_closed graph.patches names arrow.0 between ordered arrow.1 arrow.3 (ap (is_among (with_needs graph.patches names)) arrow.2 ∙ there))

    to_there : {name other : List ℕ} → IsReached graph name other → is_among (with_needing graph.patches names) other ≡ true → is_among (with_needing graph.patches names) name ≡ true
    to_there itself there = there
    to_there (along {between = between} arrow rest) there =
        ap (is_among (with_needing graph.patches names)) (sym arrow.2) ∙ needing_closed graph.patches names arrow.0 between ordered arrow.1 arrow.3 (to_there rest there)

pub parts_are_reached : PartsAreReached
parts_are_reached branch graph names lawful is other = (hangs, reached)
  where
    needed : List (List ℕ)
    needed = with_needs graph.patches names

    needing : List (List ℕ)
    needing = with_needing graph.patches names

    ordered : AreOrdered graph.patches
    ordered = ordered_from branch graph lawful is [] graph.patches refl

    hangs : is_among (needed ++ needing) other ≡ true → IsConnected graph names other
    hangs there = elim (among_parts needed needing other there) [
      | inl w ↦ let from = needed_from graph graph.patches (λ q at. at) names other w in (from.0, from.1, inl from.2)
      | inr w ↦ let into = needing_into graph graph.patches (λ q at. at) names other w in (into.0, into.1, inr into.2)
    ]

    reached : IsConnected graph names other → is_among (needed ++ needing) other ≡ true
    reached (name, among, inl from) =
        among_first needed needing other (from_there graph names ordered from (kept_needs graph.patches names name among))
    reached (name, among, inr into) =
        among_second needed needing other (to_there graph names ordered into (kept_needing graph.patches names name among))
