-- Names that a branch lacks, and catches that have them.
use Rattle.camp_repo.proofs.Words.{◌≡◌, ℕ, Bool, true, false, not, cond, ◌||◌, ◌&&◌, true≢false, None, Some, List, [], ◌∷◌, ◌++◌, take, drop, map, bytes_eq, refl, sym, ap, ◌∙◌, take-append-drop, Catch, has_patch, is_among, name_of, names_of, Agree, AreLacked, catches_named, first_lacked, wanted, agreed_has, split_has, and_false, name_itself, or_true, among_kept, among_once}
use Rattle.std.proofs.lemmas.List.Elements.{filter-append}

-- a branch has the patches of all its names
all_there : (catches : List Catch) (names : List (List ℕ)) → ((name : List ℕ) → is_among names name ≡ true → has_patch catches name ≡ true) → first_lacked catches names ≡ None
all_there catches [] has = refl
all_there catches (n ∷ names) has =
    ap (λ b. cond b (first_lacked catches names) (Some n)) (has n (ap (λ b. b || is_among names n) (name_itself n))) ∙ all_there catches names (λ name among. has name (or_true (bytes_eq name n) (is_among names name) among))

pub none_lacked : (catches : List Catch) → first_lacked catches (names_of catches) ≡ None
none_lacked catches = all_there catches (names_of catches) (λ name among. sym (among_once (map name_of catches) name) ∙ among)

without_has : (a b o : Bool) → (a ≡ true → o ≡ true) → (b && not o) ≡ ((a || b) && not o)
without_has true b o has = ap (λ x. b && not x) (has refl) ∙ and_false b ∙ sym (ap not (has refl))
without_has false b o has = refl

-- the wanted catches come after prefixes that agree
pub wanted_behind_fronts : (theirs ours : List Catch) (m : ℕ) → Agree theirs ours m → (name : List ℕ) → is_among (wanted ours (map name_of (drop m theirs))) name ≡ is_among (wanted ours (names_of theirs)) name
wanted_behind_fronts theirs ours m agree name =
    let lacks : List ℕ → Bool = λ n. not (has_patch ours n) in
    among_kept lacks (map name_of (drop m theirs)) name ∙ without_has (has_patch (take m theirs) name) (has_patch (drop m theirs) name) (has_patch ours name) (agreed_has theirs ours m agree name) ∙ ap (λ b. b && not (has_patch ours name)) (sym (split_has theirs m name) ∙ sym (among_once (map name_of theirs) name)) ∙ sym (among_kept lacks (names_of theirs) name)

none_named : (names : List (List ℕ)) (list : List Catch) → ((n : List ℕ) → has_patch list n ≡ true → is_among names n ≡ false) → catches_named names list ≡ []
none_named names [] never = refl
none_named names (k ∷ list) never =
    let here = never (name_of k) (ap (λ b. b || is_among (map name_of list) (name_of k)) (name_itself (name_of k))) in
    ap (λ c. cond c (k ∷ catches_named names list) (catches_named names list)) here ∙ none_named names list (λ n w. never n (or_true (bytes_eq n (name_of k)) (is_among (map name_of list) n) w))

no_wanted : (w o : Bool) → (w ≡ true → o ≡ false) → o ≡ true → w ≡ false
no_wanted true o lacks has = absurd (true≢false (sym has ∙ lacks refl))
no_wanted false o lacks has = refl

-- catches of lacked names come after prefixes that agree
pub named_behind : (theirs ours : List Catch) (m : ℕ) (names : List (List ℕ)) → Agree theirs ours m → AreLacked ours names → catches_named names theirs ≡ catches_named names (drop m theirs)
named_behind theirs ours m names agree lacked =
    let none = none_named names (take m theirs) (λ n has. no_wanted (is_among names n) (has_patch ours n) (lacked n) (agreed_has theirs ours m agree n has)) in
    ap (catches_named names) (sym (take-append-drop m theirs)) ∙ filter-append (λ k. is_among names (name_of k)) (take m theirs) (drop m theirs) ∙ ap (λ l. l ++ catches_named names (drop m theirs)) none
