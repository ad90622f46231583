-- The laws of annotations.
use Rattle.camp_questions.proofs.Words.{◌≡◌, ◌≤◌, ℕ, ◌+◌, ◌-◌, ◌==◌, Bool, true, false, ◌||◌, cond, List, [], ◌∷◌, ◌++◌, map, bytes_eq, subst, Option, None, Some, length, take, drop, replicate, refl, sym, ap, ◌∙◌, arith, empty, get, get-empty, get-insert, insert, Edit, key_cmp, key_of, label_of, Key, Named, Primitive, Add, Remove, Hunk, key_total, effect_of, Catch, has_patch, is_among, name_of, name_itself, or_true, Known, known_after_all, known_after_catches, known_after_change, known_after_hunk, new_line_names, nothing_known, lines_or_none, LinesHaveNames, append_assoc, drop_at, drop-drop, length-append, length-take-le, take-append-drop, take_at, All, slice_range, splice, eq_by_cmp, is_eq, eq-eqb, All-append, All-drop, All-nil, All-replicate, All-take, none-some, same_Some, flipped, own_names, common_end, common_front, cond_both}
use Rattle.std.proofs.lemmas.Cmp.{tied_itself}
use Rattle.camp_questions.proofs.LineNames.{catches_count, coming_count, gone_count, none_known}

-- the names of removed lines are found under the absolute label of their hunk
found : (known : Known) (key : Key) (taken : List (List ℕ)) → get (insert known.taken key taken) key ≡ Some taken
found known key taken =
    get-insert key_total known.taken key taken key ∙ ap (λ o. cond (is_eq o) (Some taken) (get known.taken key)) (tied_itself key_total key)

-- replacing part of a list and then restoring it gives the list
back : (names coming : List (List ℕ)) (from to end : ℕ) → from ≤ to → to ≤ length names → end ≡ from + length coming → splice (splice names from to coming) from end (slice_range names from to) ≡ names
back names coming from to end ordered within ends =
    let front = take from names in
    let size : length front ≡ from = length-take-le from names (omega arith) in
    let first : take from (front ++ (coming ++ drop to names)) ≡ front = take_at front (coming ++ drop to names) from size in
    let last : drop end (front ++ (coming ++ drop to names)) ≡ drop to names = ap (drop end) (sym (append_assoc front coming (drop to names))) ∙ drop_at (front ++ coming) (drop to names) end (length-append front coming ∙ ap (λ n. n + length coming) size ∙ sym ends) in
    let part = take (to - from) (drop from names) in
    let rest : part ++ drop to names ≡ drop from names = ap (λ t. part ++ t) (sym (drop-drop (to - from) from names ∙ ap (λ n. drop n names) {x = from + (to - from)} {y = to} (omega arith))) ∙ take-append-drop (to - from) (drop from names) in
    (λ i. first i ++ (part ++ last i)) ∙ ap (λ t. front ++ t) rest ∙ take-append-drop from names

given_back : (name other : List ℕ) (key : Key) (hunk : Edit) (known : Known) → hunk.line - 1 + length hunk.old ≤ length known.names → (known_after_hunk other key (flipped hunk) (known_after_hunk name key hunk known)).names ≡ known.names
given_back name other key hunk known within =
    let from : ℕ = hunk.line - 1 in
    let to : ℕ = from + length hunk.old in
    let gone = slice_range known.names from to in
    let coming = new_line_names (get known.taken key) (own_names gone name hunk) (length hunk.new) in
    let many : length gone ≡ length hunk.old = gone_count hunk known within in
    let own = own_names (slice_range (splice known.names from to coming) from (from + length hunk.new)) other (flipped hunk) in
    let there : new_line_names (get (insert known.taken key gone) key) own (length hunk.old) ≡ gone = ap (λ o. new_line_names o own (length hunk.old)) (found known key gone) ∙ ap (λ b. cond b gone own) (eq-eqb (length gone) (length hunk.old) many) in
    ap (splice (splice known.names from to coming) from (from + length hunk.new)) there ∙ back known.names coming from to (from + length hunk.new) (omega arith) within (ap (λ n. from + n) (sym (coming_count name key hunk known within)))

-- a fact holds of all names that are known
record Holds (P : List ℕ → Type 0) (known : Known) : Type 0 where
  pub names : All P known.names
  pub taken : (key : Key) (taken : List (List ℕ)) → get known.taken key ≡ Some taken → All P taken

module _ (P : List ℕ → Type 0) where
  own_hold : (gone : List (List ℕ)) (name : List ℕ) (hunk : Edit) → P name → All P gone → All P (own_names gone name hunk)
  own_hold gone name hunk one all =
      let front : ℕ = common_front hunk.old hunk.new in
      let end : ℕ = common_end (drop front hunk.old) (drop front hunk.new) in
      let between : ℕ = length hunk.new - front - end in
      All-append P (take front gone ++ replicate between name) (drop (length gone - end) gone)
      (All-append P (take front gone) (replicate between name) (All-take P front gone all) (All-replicate P between name one))
      (All-drop P (length gone - end) gone all)

  coming_hold : (taken : Option (List (List ℕ))) (own : List (List ℕ)) (count : ℕ) → All P own → ((l : List (List ℕ)) → taken ≡ Some l → All P l) → All P (new_line_names taken own count)
  coming_hold None own count one all = one
  coming_hold (Some taken) own count one all = cond_both (length taken == count) taken own (All P) (λ e. all taken refl) (λ e. one)

  taken_hold : (b : Bool) (gone taken : List (List ℕ)) (o : Option (List (List ℕ))) → All P gone → ((l : List (List ℕ)) → o ≡ Some l → All P l) → cond b (Some gone) o ≡ Some taken → All P taken
  taken_hold true gone taken o one all e = subst (All P) (same_Some gone taken e) one
  taken_hold false gone taken o one all e = all taken e

  hunk_holds : (name : List ℕ) (key : Key) (hunk : Edit) (known : Known) → P name → Holds P known → Holds P (known_after_hunk name key hunk known)
  hunk_holds name key hunk known one all =
      let from : ℕ = hunk.line - 1 in
      let to : ℕ = from + length hunk.old in
      let gone = slice_range known.names from to in
      let coming = new_line_names (get known.taken key) (own_names gone name hunk) (length hunk.new) in
      let all_gone : All P gone = All-take P (to - from) (drop from known.names) (All-drop P from known.names all.names) in
      let come : All P coming = coming_hold (get known.taken key) (own_names gone name hunk) (length hunk.new) (own_hold gone name hunk one all_gone) (all.taken key) in
      record {
        names = All-append P (take from known.names) (coming ++ drop to known.names) (All-take P from known.names all.names) (All-append P coming (drop to known.names) come (All-drop P to known.names all.names));
        taken = λ q taken e. taken_hold (eq_by_cmp key_cmp q key) gone taken (get known.taken q) all_gone (all.taken q) (sym (get-insert key_total known.taken key gone q) ∙ e);
      }

  change_holds : (path name : List ℕ) (key : Key) (p : Primitive) (known : Known) → P name → Holds P known → Holds P (known_after_change path name key p known)
  change_holds path name key (Add q) known one all = all
  change_holds path name key (Remove q) known one all = all
  change_holds path name key (Hunk hunk) known one all =
      cond_both (bytes_eq hunk.path path) (known_after_hunk name key hunk known) known (Holds P) (λ e. hunk_holds name key hunk known one all) (λ e. all)

  effect_holds : (path name : List ℕ) (s : List Named) (known : Known) → P name → Holds P known → Holds P (known_after_all path name s known)
  effect_holds path name [] known one all = all
  effect_holds path name (p ∷ s) known one all =
      effect_holds path name s (known_after_change path name (key_of (label_of p)) p.prim known) one
      (change_holds path name (key_of (label_of p)) p.prim known one all)

  catches_hold : (path : List ℕ) (list : List Catch) (known : Known) → ((name : List ℕ) → is_among (map name_of list) name ≡ true → P name) → Holds P known → Holds P (known_after_catches path list known)
  catches_hold path [] known each all = all
  catches_hold path (k ∷ list) known each all =
      catches_hold path list (known_after_all path (name_of k) (effect_of k) known)
      (λ name among. each name (or_true (bytes_eq name (name_of k)) (is_among (map name_of list) name) among))
      (effect_holds path (name_of k) (effect_of k) known (each (name_of k) (ap (λ b. b || is_among (map name_of list) (name_of k)) (name_itself (name_of k)))) all)

  nothing_holds : Holds P nothing_known
  nothing_holds = record { names = All-nil P; taken = λ key taken e. absurd (none-some taken (sym (get-empty key_cmp key) ∙ e)) }

pub lines_have_names : LinesHaveNames
lines_have_names = record {
  each = λ branch path tree lines leads is. catches_count path branch empty tree nothing_known leads (none_known path) ∙ ap (λ o. length (lines_or_none o)) is;
  own = λ branch path. (catches_hold (λ name. has_patch branch name ≡ true) path branch nothing_known (λ name among. among) (nothing_holds (λ name. has_patch branch name ≡ true))).names;
  given_back = given_back;
}
