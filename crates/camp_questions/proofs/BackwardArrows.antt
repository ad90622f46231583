-- The arrows of a graph lead backwards.
use Rattle.camp_questions.proofs.Words.{◌⊎◌, ◌≡◌, ◌≢◌, ℕ, Bool, true, false, true≢false, ◌||◌, cond, List, [], ◌∷◌, ◌++◌, map, bytes_eq, refl, sym, ap, ◌∙◌, subst, inl, inr, Key, Catch, IsBlockedAfter, is_among, is_among_is, name_of, names_of, same_name, CanMoveToFront, AreBlockedBy, AreAmong, NeedsDirectly, NeedsPatch, Node, ◌↔◌, HasPatches, Patch, IsLawfulBranch, has_patch, among_once, names_of_patches, ArrowsLeadBackwards, NameComesBefore, false_from_ne_true, has_image, map-map, node_of}
use Rattle.camp_questions.proofs.Arrows.{arrows_are_direct_needs}
use Rattle.camp_questions.proofs.Growths.{all_within, alone_among, among_cases}
use Rattle.camp_questions.proofs.BranchGrowths.{in_order_among}
use Rattle.camp_questions.proofs.PatchFronts.{AreNotOf, AreOf, StandFirst, ends, stand_first, up_to}
use Rattle.camp_questions.proofs.KeptElements.{fact_of}
use Rattle.camp_questions.proofs.Stuck.{sticks_between}

module _ (names : List (List ℕ)) where
  -- a patch of none of the names is not the one that is blocked
  none_stick : (rest list : List Catch) (patch on : Key) → AreNotOf names list → ¬ (IsBlockedAfter names rest list patch on)
  none_stick rest [] patch on are w = w
  none_stick rest (k ∷ list) patch on are (inl w) =
      true≢false (sym ((is_among_is names (name_of k)).0 w.0) ∙ are.0)
  none_stick rest (k ∷ list) patch on are (inr (inl w)) =
      true≢false (sym ((is_among_is names (name_of k)).0 w.0) ∙ are.0)
  none_stick rest (k ∷ list) patch on are (inr (inr w)) = none_stick (rest ++ k ∷ []) list patch on are.1 w.1

  -- the patch that blocks comes before any that is of none of the names
  stuck_in_front : (rest front behind : List Catch) (patch on : Key) → AreNotOf names behind → IsBlockedAfter names rest (front ++ behind) patch on → IsBlockedAfter names rest front patch on
  stuck_in_front rest [] behind patch on are w = absurd (none_stick rest behind patch on are w)
  stuck_in_front rest (k ∷ front) behind patch on are (inl w) = inl w
  stuck_in_front rest (k ∷ front) behind patch on are (inr (inl w)) =
      let come = w.1 in
      inr (inl (w.0, (come.0, come.1, come.2, stuck_in_front come.1 front behind patch on are come.3)))
  stuck_in_front rest (k ∷ front) behind patch on are (inr (inr w)) =
      inr (inr (w.0, stuck_in_front (rest ++ k ∷ []) front behind patch on are w.1))

fewer_of : (names others : List (List ℕ)) → AreAmong names others → (list : List Catch) → AreNotOf others list → AreNotOf names list
fewer_of names others among [] are = tt
fewer_of names others among (k ∷ list) are =
    (false_from_ne_true (is_among names (name_of k)) (λ e. true≢false (sym (among (name_of k) e) ∙ are.0)), fewer_of names others among list are.1)

one_of : (names : List (List ℕ)) (list : List Catch) (n : List ℕ) → AreOf names list → is_among (map name_of list) n ≡ true → is_among names n ≡ true
one_of names [] n are there = absurd (true≢false (sym there))
one_of names (k ∷ list) n are there = elim (among_cases (name_of k) (map name_of list) n there) [
  | inl e ↦ ap (is_among names) e ∙ are.0
  | inr e ↦ one_of names list n are.1 e
]

-- what blocks names up to an index is itself among those up to it
stuck_up_to : (branch : List Catch) (patches : List Patch) → HasPatches branch patches → (last : List ℕ) (names : List (List ℕ)) (name : List ℕ) → AreAmong names (up_to (names_of branch) last) → AreBlockedBy branch names name → is_among (up_to (names_of branch) last) name ≡ true
stuck_up_to branch patches has last names name among stop =
    let first = subst (λ own. StandFirst (up_to own last) branch) (sym (names_of_patches branch patches has)) (stand_first patches branch last has.distinct has.labels) in
    let others = fewer_of names (up_to (names_of branch) last) among first.behind first.others in
    let stuck = stuck_in_front names [] first.front first.behind stop.0 stop.1 others (subst (λ l. IsBlockedAfter names [] l stop.0 stop.1) first.is stop.2) in
    let there = (sticks_between names first.front stop.0 stop.1 stuck).0.0 in
    ap (is_among (up_to (names_of branch) last)) stop.3 ∙ one_of (up_to (names_of branch) last) first.front stop.1.name first.are there

-- names up to an index come before it
split_at : (names : List (List ℕ)) (name : List ℕ) → is_among names name ≡ true → (before : List (List ℕ)) × (behind : List (List ℕ)) × (names ≡ before ++ name ∷ behind)
split_at [] name there = absurd (true≢false (sym there))
split_at (n ∷ names) name there = elim (among_cases n names name there) [
  | inl e ↦ ([], names, ap (λ x. x ∷ names) (sym e))
  | inr e ↦ let rest = split_at names name e in (n ∷ rest.0, rest.1, ap (λ l. n ∷ l) rest.2)
]

earlier_stands : (names : List (List ℕ)) (last name : List ℕ) → is_among names last ≡ true → is_among (up_to names last) name ≡ true → name ≢ last → NameComesBefore names name last
earlier_stands [] last name has there different = absurd (true≢false (sym has))
earlier_stands (n ∷ names) last name has there different =
    at (bytes_eq last n) refl has there (λ w v. earlier_stands names last name w v different)
  where
    next : (is_among names last ≡ true → is_among (up_to names last) name ≡ true → NameComesBefore names name last) → is_among names last ≡ true → (name ≡ n) ⊎ (is_among (up_to names last) name ≡ true) → NameComesBefore (n ∷ names) name last
    next later w (inl e) =
        let rest = split_at names last w in
        record { before = []; between = rest.0; behind = rest.1; are = ap (λ x. x ∷ names) (sym e) ∙ ap (λ l. name ∷ l) rest.2 }
    next later w (inr v) =
        let rest = later w v in
        record { before = n ∷ rest.before; between = rest.between; behind = rest.behind; are = ap (λ l. n ∷ l) rest.are }

    at : (b : Bool) → bytes_eq last n ≡ b → (b || is_among names last) ≡ true → is_among (cond b (n ∷ []) (n ∷ up_to names last)) name ≡ true → (is_among names last ≡ true → is_among (up_to names last) name ≡ true → NameComesBefore names name last) → NameComesBefore (n ∷ names) name last
    at true e w v later = elim (among_cases n [] name v) [
      | inl f ↦ absurd (different (f ∙ sym (same_name last n e)))
      | inr f ↦ absurd (true≢false (sym f))
    ]
    at false e w v later = next later w (among_cases n (up_to names last) name v)

-- the dependencies of a patch are among the patches up to it
pub needs_up_to : (branch : List Catch) (name other : List ℕ) → IsLawfulBranch branch → is_among (names_of branch) name ≡ true → NeedsPatch branch name other → is_among (up_to (names_of branch) name) other ≡ true
needs_up_to branch name other lawful there needs =
    let own = names_of branch in
    let grown = needs.1.1 in
    let among : AreAmong (name ∷ []) (up_to own name) = alone_among name (up_to own name) (ends own name there) in
    all_within (CanMoveToFront branch) (AreBlockedBy branch) (up_to own name) (stuck_up_to branch lawful.patches lawful.has name) (name ∷ []) grown.0 among grown.1 other (in_order_among branch ((name ∷ []) ++ grown.0) other (ap (λ l. is_among l other) (sym grown.2) ∙ needs.1.2))

-- and come before it
needs_stand_before : (branch : List Catch) (name other : List ℕ) → IsLawfulBranch branch → has_patch branch name ≡ true → NeedsPatch branch name other → NameComesBefore (names_of branch) other name
needs_stand_before branch name other lawful has needs =
    let there : is_among (names_of branch) name ≡ true = among_once (map name_of branch) name ∙ has in
    earlier_stands (names_of branch) name other there (needs_up_to branch name other lawful there needs) needs.0

pub arrows_lead_backwards : ArrowsLeadBackwards
arrows_lead_backwards branch graph lawful is name other arrow =
    let called : List Node → List (List ℕ) = map (λ (n : Node). n.name) in
    let own : called graph.patches ≡ names_of branch = ap called is.patches ∙ map-map (λ (n : Node). n.name) (node_of branch is.all) is.all ∙ is.names in
    let fact = fact_of (λ (node : Node). (n : List ℕ) → (is_among node.needs n ≡ true) ↔ NeedsDirectly branch node.name n) graph.patches arrow.0 (arrows_are_direct_needs branch graph is) arrow.1 in
    let direct = subst (λ n. NeedsDirectly branch n other) arrow.2 ((fact other).0 arrow.3) in
    let there = (is_among_is (called graph.patches) arrow.0.name).0 (has_image (λ (n : Node). n.name) graph.patches arrow.0 arrow.1) in
    let has = sym (among_once (map name_of branch) name) ∙ ap (λ l. is_among l name) (sym own) ∙ ap (is_among (called graph.patches)) (sym arrow.2) ∙ there in
    needs_stand_before branch name other lawful has direct.needs
