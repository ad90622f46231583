-- Two changes that commute give the same names to lines in both orders.
use Rattle.camp_questions.proofs.Words.{◌≡◌, ◌≢◌, ◌≤◌, ℕ, ◌+◌, ◌-◌, Bool, true, false, true≢false, cond, List, [], ◌∷◌, ◌++◌, map, Some, length, take, drop, bytes_eq, refl, sym, ap, ◌∙◌, subst, inl, inr, arith, empty, get, get-insert, insert, same_map, slice_range, splice, eq_by_cmp, bytes_eq-Decides, Edit, key_cmp, key_of, key_ties, key_total, label_of, Key, Named, Primitive, Add, Remove, Hunk, Catch, Known, known_after_catches, known_after_change, known_after_hunk, new_line_names, nothing_known, annotated, Annotated, LiesWithin, AreKnownIn, append_assoc, drop_at, length-append, length-take-le, take-append-drop, take_at, drop-drop, Files, Splices, FitsAll, false_from_ne_true, FinMap, SplicesLines, Align, CatchMovesToFront, Plain, Leads, PrimitivesCommute, Commute, at_line, path_of, cut_run, equivalent_run, AppliesAll, Annotates, own_names, AnnotateAlike, OrderKeepsNames, tree_of_effects, BothPlain, CommuteCatch}
use Rattle.camp_prim.proofs.HunksOfOneFile.{SplicesTwice, lower_first, upper_first}
use Rattle.camp_seq.proofs.ExchangeSteps.{shared}
use Rattle.camp_seq.proofs.ListEquivalence.{after_one, swapped}
use Rattle.camp_seq.specs.Equivalence.{CommutesOnce, backwards, exchanged, same, through, ◌~◌}
use Rattle.camp_questions.proofs.LineNames.{catches_count, coming_count, gone_count, hunk_counts, none_known, stands_within, same_key}
use Rattle.camp_questions.proofs.PlainLabels.{plain_effects}

abbrev Taken : Type 0
Taken = FinMap key_cmp (List (List ℕ))

other_at : {X : Type 0} (a b : Key) (x y : X) (c : Bool) → eq_by_cmp key_cmp b a ≡ c → a ≢ b → cond c x y ≡ y
other_at a b x y true e apart = absurd (apart (sym (same_key b a e)))
other_at a b x y false e apart = refl

-- names stored under one label do not change those under another
kept_apart : (taken : Taken) (a b : Key) (x : List (List ℕ)) → a ≢ b → get (insert taken a x) b ≡ get taken b
kept_apart taken a b x apart =
    get-insert key_total taken a x b ∙ other_at a b (Some x) (get taken b) (eq_by_cmp key_cmp b a) refl apart

either_first : {X : Type 0} (c d : Bool) (x y z : X) → (c ≡ true → d ≡ true → ⊥) → cond d y (cond c x z) ≡ cond c x (cond d y z)
either_first true true x y z apart = absurd (apart refl refl)
either_first true false x y z apart = refl
either_first false d x y z apart = refl

both_kept : (taken : Taken) (a b : Key) (x y : List (List ℕ)) → a ≢ b → insert (insert taken a x) b y ≡ insert (insert taken b y) a x
both_kept taken a b x y apart = same_map key_total key_ties _ _ (λ k.
    get-insert key_total (insert taken a x) b y k
    ∙ ap (λ z. cond (eq_by_cmp key_cmp k b) (Some y) z) (get-insert key_total taken a x k)
    ∙ either_first (eq_by_cmp key_cmp k a) (eq_by_cmp key_cmp k b) (Some x) (Some y) (get taken k) (λ e f. apart (sym (same_key k a e) ∙ same_key k b f))
    ∙ ap (λ z. cond (eq_by_cmp key_cmp k a) (Some x) z) (sym (get-insert key_total taken b y k))
    ∙ sym (get-insert key_total (insert taken b y) a x k))

-- names replaced at the line of a hunk
module _ (names gone coming after : List (List ℕ)) (line count : ℕ) (put : SplicesLines line gone coming names after) (many : length gone ≡ count) where
  gone_is : slice_range names (line - 1) (line - 1 + count) ≡ gone
  gone_is =
      let from : ℕ = line - 1 in
      let behind : drop from names ≡ gone ++ put.after = ap (drop from) (put.was ∙ append_assoc put.before gone put.after) ∙ drop_at put.before (gone ++ put.after) from (omega (arith, put.at)) in
      ap (take (from + count - from)) behind ∙ take_at gone put.after (from + count - from) (omega (arith, many))

  after_is : splice names (line - 1) (line - 1 + count) coming ≡ after
  after_is =
      let from : ℕ = line - 1 in
      let front : take from names ≡ put.before = ap (take from) (put.was ∙ append_assoc put.before gone put.after) ∙ take_at put.before (gone ++ put.after) from (omega (arith, put.at)) in
      let rear : drop (from + count) names ≡ put.after = ap (drop (from + count)) put.was ∙ drop_at (put.before ++ gone) put.after (from + count) (length-append put.before gone ∙ omega (arith, put.at, many)) in
      (λ i. front i ++ (coming ++ rear i)) ∙ sym (append_assoc put.before coming put.after) ∙ sym put.becomes

-- the state after a hunk, given the names that it removes and adds
behind_is : (name : List ℕ) (key : Key) (hunk : Edit) (known : Known) (gone coming after : List (List ℕ)) → SplicesLines hunk.line gone coming known.names after → length gone ≡ length hunk.old
    → new_line_names (get known.taken key) (own_names gone name hunk) (length hunk.new) ≡ coming → known_after_hunk name key hunk known ≡ record { names = after; taken = insert known.taken key gone }
behind_is name key hunk known gone coming after put many comes =
    let from : ℕ = hunk.line - 1 in
    let to : ℕ = from + length hunk.old in
    let go : slice_range known.names from to ≡ gone = gone_is known.names gone coming after hunk.line (length hunk.old) put many in
    let become : splice known.names from to (new_line_names (get known.taken key) (own_names (slice_range known.names from to) name hunk) (length hunk.new)) ≡ after =
    ap (λ g. splice known.names from to (new_line_names (get known.taken key) (own_names g name hunk) (length hunk.new))) go ∙ ap (splice known.names from to) comes ∙ after_is known.names gone coming after hunk.line (length hunk.old) put many in
    λ i. record { names = become i; taken = insert known.taken key (go i) }

abbrev gone_at : Known → Edit → List (List ℕ)
gone_at known hunk = slice_range known.names (hunk.line - 1) (hunk.line - 1 + length hunk.old)

abbrev coming_at : List ℕ → Key → Edit → Known → List (List ℕ)
coming_at name key hunk known =
    new_line_names (get known.taken key) (own_names (gone_at known hunk) name hunk) (length hunk.new)

-- a hunk replaces the names that it removes by those that it adds
puts_names : (name : List ℕ) (key : Key) (hunk : Edit) (known : Known) → 1 ≤ hunk.line → LiesWithin hunk known → SplicesLines hunk.line (gone_at known hunk) (coming_at name key hunk known) known.names (known_after_hunk name key hunk known).names
puts_names name key hunk known line within =
    let from : ℕ = hunk.line - 1 in
    let to : ℕ = from + length hunk.old in
    let rest : drop (to - from) (drop from known.names) ≡ drop to known.names = drop-drop (to - from) from known.names ∙ ap (λ n. drop n known.names) {x = from + (to - from)} {y = to} (omega arith) in
    let size : length (take from known.names) ≡ from = length-take-le from known.names (omega (arith, within)) in
    record {
      before = take from known.names;
      after = drop to known.names;
      at = omega (arith, line, size);
      was = sym (append_assoc (take from known.names) (gone_at known hunk) (drop to known.names) ∙ ap (λ l. take from known.names ++ (gone_at known hunk ++ l)) (sym rest) ∙ ap (λ l. take from known.names ++ l) (take-append-drop (to - from) (drop from known.names)) ∙ take-append-drop from known.names);
      becomes = sym (append_assoc (take from known.names) (coming_at name key hunk known) (drop to known.names));
    }

-- two changes of one list, the second one first, at these lines
abbrev Turned : Edit → Edit → ℕ → ℕ → Type 0
Turned h k at_first at_second =
    (gone coming gone' coming' old new : List (List ℕ)) → length gone ≡ length h.old → length coming ≡ length h.new → length gone' ≡ length k.old → length coming' ≡ length k.new →
    SplicesTwice h.line gone coming k.line gone' coming' old new → SplicesTwice at_first gone' coming' at_second gone coming old new

-- the second is below what the first leaves
turned_below : (h k : Edit) (gap : ℕ) → k.line ≡ h.line + length h.new + gap → Turned h k (h.line + length h.old + gap) h.line
turned_below h k gap stands gone coming gone' coming' old new many comes many' comes' t =
    subst (λ l. SplicesTwice l gone' coming' h.line gone coming old new) (ap (λ c. h.line + c + gap) many) (lower_first h.line k.line gap gone coming gone' coming' old new (stands ∙ ap (λ c. h.line + c + gap) (sym comes)) t)

-- the first is below what the second removes
turned_above : (h k : Edit) (gap : ℕ) → h.line ≡ k.line + length k.old + gap → Turned h k k.line (k.line + length k.new + gap)
turned_above h k gap stands gone coming gone' coming' old new many comes many' comes' t =
    subst (λ l. SplicesTwice k.line gone' coming' l gone coming old new) (ap (λ c. k.line + c + gap) comes') (upper_first h.line k.line gap gone coming gone' coming' old new (stands ∙ ap (λ c. k.line + c + gap) (sym many')) t)

module _ (n m : List ℕ) (a b : Key) (apart : a ≢ b) where
  -- two hunks of one file
  one_file : (h k : Edit) (at_first at_second : ℕ) (known : Known) → Turned h k at_first at_second → 1 ≤ h.line → 1 ≤ k.line → LiesWithin h known → LiesWithin k (known_after_hunk n a h known)
      → known_after_hunk m b k (known_after_hunk n a h known) ≡ known_after_hunk n a (at_line at_second h) (known_after_hunk m b (at_line at_first k) known)
  one_file h k at_first at_second known turn line line' within within' =
      let next = known_after_hunk n a h known in
      let gone = gone_at known h in
      let coming = coming_at n a h known in
      let gone' = gone_at next k in
      let coming' = coming_at m b k next in
      let after = (known_after_hunk m b k next).names in
      let many : length gone ≡ length h.old = gone_count h known within in
      let many' : length gone' ≡ length k.old = gone_count k next within' in
      let t = turn gone coming gone' coming' known.names after many (coming_count n a h known within) many' (coming_count m b k next within')
      (record { between = next.names; first = puts_names n a h known line within; second = puts_names m b k next line' within' }) in
      let kept' : new_line_names (get known.taken b) (own_names gone' m k) (length k.new) ≡ coming' = ap (λ o. new_line_names o (own_names gone' m k) (length k.new)) (sym (kept_apart known.taken a b gone apart)) in
      let kept : new_line_names (get (insert known.taken b gone') a) (own_names gone n h) (length h.new) ≡ coming = ap (λ o. new_line_names o (own_names gone n h) (length h.new)) (kept_apart known.taken b a gone' (λ e. apart (sym e))) in
      let between : Known = record { names = t.between; taken = insert known.taken b gone' } in
      let first : known_after_hunk m b (at_line at_first k) known ≡ between = behind_is m b (at_line at_first k) known gone' coming' t.between t.first many' kept' in
      let second : known_after_hunk n a (at_line at_second h) between ≡ record { names = after; taken = insert (insert known.taken b gone') a gone } = behind_is n a (at_line at_second h) between gone coming after t.second many kept in
      sym (ap (known_after_hunk n a (at_line at_second h)) first ∙ second ∙ (λ i. record { names = after; taken = sym (both_kept known.taken a b gone gone' apart) i }))

  module _ (path : List ℕ) where
    stays : (name : List ℕ) (key : Key) (p : Primitive) (known : Known) → path_of p ≢ path → known_after_change path name key p known ≡ known
    stays name key (Add q) known other = refl
    stays name key (Remove q) known other = refl
    stays name key (Hunk hunk) known other =
        ap (λ c. cond c (known_after_hunk name key hunk known) known) (false_from_ne_true (bytes_eq hunk.path path) (λ e. other ((bytes_eq-Decides hunk.path path).0 e)))

    two_files_at : (p q : Primitive) (known : Known) (c : Bool) → bytes_eq (path_of p) path ≡ c → path_of p ≢ path_of q → known_after_change path m b q (known_after_change path n a p known) ≡ known_after_change path n a p (known_after_change path m b q known)
    two_files_at p q known true e other =
        let there : path_of q ≢ path = λ f. other ((bytes_eq-Decides (path_of p) path).0 e ∙ sym f) in
        stays m b q (known_after_change path n a p known) there ∙ ap (known_after_change path n a p) (sym (stays m b q known there))
    two_files_at p q known false e other =
        let there : path_of p ≢ path = λ f. absurd (true≢false (sym ((bytes_eq-Decides (path_of p) path).1 f) ∙ e)) in
        ap (known_after_change path m b q) (stays n a p known there) ∙ sym (stays n a p (known_after_change path m b q known) there)

    -- the line of a hunk that applies
    from_one : (hunk : Edit) (old new : Files) → Splices hunk.path hunk.line hunk.old hunk.new old new → 1 ≤ hunk.line
    from_one hunk old new w = omega (arith, w.splices.at)

    two_hunks_at : (h k : Edit) (at_first at_second : ℕ) (old new : Files) (known : Known) (c : Bool) → bytes_eq h.path path ≡ c → h.path ≡ k.path → Turned h k at_first at_second → Leads (Hunk h) (Hunk k) old new → AreKnownIn path old known
        → known_after_change path m b (Hunk k) (known_after_change path n a (Hunk h) known) ≡ known_after_change path n a (Hunk (at_line at_second h)) (known_after_change path m b (Hunk (at_line at_first k)) known)
    two_hunks_at h k at_first at_second old new known true e one turn leads are =
        let here : h.path ≡ path = (bytes_eq-Decides h.path path).0 e in
        let there : bytes_eq k.path path ≡ true = (bytes_eq-Decides k.path path).1 (sym one ∙ here) in
        let within = stands_within path h old leads.between known here leads.first are in
        let next = hunk_counts path n a h old leads.between known here leads.first are in
        let within' = stands_within path k leads.between new (known_after_hunk n a h known) (sym one ∙ here) leads.second next in
        (λ i. cond (there i) (known_after_hunk m b k (cond (e i) (known_after_hunk n a h known) known)) (cond (e i) (known_after_hunk n a h known) known))
        ∙ one_file h k at_first at_second known turn (from_one h old leads.between leads.first) (from_one k leads.between new leads.second) within within'
        ∙ sym (λ i. cond (e i) (known_after_hunk n a (at_line at_second h) (cond (there i) (known_after_hunk m b (at_line at_first k) known) known)) (cond (there i) (known_after_hunk m b (at_line at_first k) known) known))
    two_hunks_at h k at_first at_second old new known false e one turn leads are =
        let there : bytes_eq k.path path ≡ false = ap (λ q. bytes_eq q path) (sym one) ∙ e in
        (λ i. cond (there i) (known_after_hunk m b k (cond (e i) (known_after_hunk n a h known) known)) (cond (e i) (known_after_hunk n a h known) known))
        ∙ sym (λ i. cond (e i) (known_after_hunk n a (at_line at_second h) (cond (there i) (known_after_hunk m b (at_line at_first k) known) known)) (cond (there i) (known_after_hunk m b (at_line at_first k) known) known))

    leads_as : (p q r s : Primitive) (old new : Files) → p ≡ r → q ≡ s → Leads p q old new → Leads r s old new
    leads_as p q r s old new e f leads =
        subst (λ x. Leads r x old new) f (subst (λ x. Leads x q old new) e leads)

    -- two changes that commute
    either_order : (p q q' p' : Primitive) (old new : Files) (known : Known) → PrimitivesCommute p q q' p' → Leads p q old new → AreKnownIn path old known → known_after_change path m b q (known_after_change path n a p known) ≡ known_after_change path n a p' (known_after_change path m b q' known)
    either_order p q q' p' old new known (inl s) leads are =
        two_files_at p q known (bytes_eq (path_of p) path) refl s.paths ∙ (λ i. known_after_change path n a (sym s.first i) (known_after_change path m b (sym s.second i) known))
    either_order p q q' p' old new known (inr (inl s)) leads are =
        (λ i. known_after_change path m b (s.is_q i) (known_after_change path n a (s.is_p i) known))
        ∙ two_hunks_at s.h s.k (s.h.line + length s.h.old + s.gap) s.h.line old new known (bytes_eq s.h.path path) refl s.path (turned_below s.h s.k s.gap s.stands) (leads_as p q (Hunk s.h) (Hunk s.k) old new s.is_p s.is_q leads) are
        ∙ sym (λ i. known_after_change path n a ((s.first ∙ s.is_p) i) (known_after_change path m b (s.second i) known))
    either_order p q q' p' old new known (inr (inr s)) leads are =
        (λ i. known_after_change path m b (s.is_q i) (known_after_change path n a (s.is_p i) known))
        ∙ two_hunks_at s.h s.k s.k.line (s.k.line + length s.k.new + s.gap) old new known (bytes_eq s.h.path path) refl s.path (turned_above s.h s.k s.gap s.stands) (leads_as p q (Hunk s.h) (Hunk s.k) old new s.is_p s.is_q leads) are
        ∙ sym (λ i. known_after_change path n a (s.first i) (known_after_change path m b ((s.second ∙ s.is_q) i) known))

plain_leads : (s : List Named) (old new : Files) → AppliesAll s old new → FitsAll (map Plain s) old new
plain_leads [] old new w = w
plain_leads (p ∷ s) old new w =
    (w.0, record { effect = (w.0, w.1, refl); seen = tt }, plain_leads s w.0 new w.2)

module _ (path : List ℕ) where
  behind_both : (before s : List Named) (known : Known) → known_after_catches path (map Plain (before ++ s)) known ≡ known_after_catches path (map Plain s) (known_after_catches path (map Plain before) known)
  behind_both [] s known = refl
  behind_both (p ∷ before) s known =
      behind_both before s (known_after_change path p.name (key_of (label_of p)) p.prim known)

  -- two patches that commute
  two_swapped : (p q q' p' : Named) (old new : Files) (known : Known) → Commute p q q' p' → Leads p.prim q.prim old new → AreKnownIn path old known
      → known_after_change path q.name (key_of (label_of q)) q.prim (known_after_change path p.name (key_of (label_of p)) p.prim known) ≡ known_after_change path p'.name (key_of (label_of p')) p'.prim (known_after_change path q'.name (key_of (label_of q')) q'.prim known)
  two_swapped p q q' p' old new known s leads are =
      either_order p.name q.name (key_of (label_of p)) (key_of (label_of q)) s.anywhere.apart path p.prim q.prim q'.prim p'.prim old new known s.anywhere.change leads are
      ∙ sym (λ i. known_after_change path (s.anywhere.first i).name (key_of (s.anywhere.first i)) p'.prim (known_after_change path (s.anywhere.second i).name (key_of (s.anywhere.second i)) q'.prim known))

  -- a list leads to this tree, and to this state of the annotation
  abbrev LeadsToKnown : Files → Known → List Named → Type 0
  LeadsToKnown tree known s = AppliesAll s empty tree × (known_after_catches path (map Plain s) nothing_known ≡ known)

  -- one exchange of neighbours keeps both
  exchange_keeps : (tree : Files) (known : Known) (s t : List Named) → CommutesOnce Commute s t → LeadsToKnown tree known s → LeadsToKnown tree known t
  exchange_keeps tree known s t e (runs, is) =
      let cut = cut_run e.before (e.p ∷ e.q ∷ e.after) empty tree (subst (λ l. AppliesAll l empty tree) e.was runs) in
      let at : Known = known_after_catches path (map Plain e.before) nothing_known in
      let are : AreKnownIn path cut.0 at = catches_count path (map Plain e.before) empty cut.0 nothing_known (plain_leads e.before empty cut.0 cut.1) (none_known path) in
      let two = two_swapped e.p e.q e.q' e.p' cut.0 cut.2.2.0 at e.turns (record { between = cut.2.0; first = cut.2.1; second = cut.2.2.1 }) are in (
        (equivalent_run s t (exchanged e) empty tree).0 runs,
        ap (λ l. known_after_catches path (map Plain l) nothing_known) e.becomes ∙ behind_both e.before (e.q' ∷ e.p' ∷ e.after) nothing_known ∙ ap (known_after_catches path (map Plain e.after)) (sym two) ∙ sym (behind_both e.before (e.p ∷ e.q ∷ e.after) nothing_known) ∙ sym (ap (λ l. known_after_catches path (map Plain l) nothing_known) e.was) ∙ is,
      )

half : (patches others : List Named) (path : List ℕ) (told : Annotated) → patches ~ others → Annotates (map Plain patches) path told → Annotates (map Plain others) path told
half patches others path told e (tree, leads, is) =
    let known : Known = known_after_catches path (map Plain patches) nothing_known in
    let runs : AppliesAll patches empty tree = subst (λ s. AppliesAll s empty tree) (plain_effects patches) (tree_of_effects (map Plain patches) empty tree leads) in
    let both = (shared (LeadsToKnown path tree known) (exchange_keeps path tree known) patches others e).0 (runs, refl) in
    (tree, plain_leads others empty tree both.0, is ∙ ap (λ (k : Known). annotated (get tree path) k.names) (sym both.1))

tell_alike : (patches others : List Named) → patches ~ others → AnnotateAlike (map Plain patches) (map Plain others)
tell_alike patches others e path told =
    (half patches others path told e, half others patches path told (backwards e))

-- a plain patch that comes first
first_plainly : (key : Key) (s : List Named) (k : Catch) (others : List Catch) → CatchMovesToFront key (map Plain s) k others → (p : Named) × (t : List Named) × (s ~ (p ∷ t)) × (k ≡ Plain p) × (others ≡ map Plain t)
first_plainly key [] k others w = absurd w
first_plainly key (j ∷ s) k others (inl w) = (j, s, same, w.1, w.2)
first_plainly key (j ∷ s) k others (inr w) =
    let v = w.1 in
    let first = first_plainly key s v.0 v.2 v.3 in
    let both : BothPlain j first.0 k v.1 = subst (λ c. CommuteCatch (Plain j) c k v.1) first.3 v.4 in
    (both.b', both.a' ∷ first.1, through (after_one j s (first.0 ∷ first.1) first.2) (swapped j first.0 both.b' both.a' first.1 both.swap), both.second, v.5 ∙ (λ i. both.first i ∷ first.4 i))

-- plain patches in the order of some labels
in_order : (order : List Key) (s : List Named) (aligned : List Catch) → Align order (map Plain s) aligned → (t : List Named) × (s ~ t) × (aligned ≡ map Plain t)
in_order [] s aligned w = (s, same, w)
in_order (key ∷ order) s aligned w =
    let first = first_plainly key s w.0 w.1 w.3 in
    let rest = in_order order first.1 w.2 (subst (λ l. Align order l w.2) first.4 w.4) in
    (first.0 ∷ rest.0, through first.2 (after_one first.0 first.1 rest.0 rest.1), w.5 ∙ (λ i. first.3 i ∷ rest.2 i))

pub order_keeps_names : OrderKeepsNames
order_keeps_names = record {
  swapped = tell_alike;
  aligned = λ patches order aligned w.
      let list = in_order order patches aligned w in
      subst (AnnotateAlike (map Plain patches)) (sym list.2) (tell_alike patches list.0 list.1);
}
