-- The files of a tree are sorted by path, so those in a folder are adjacent.
use Rattle.camp_git.proofs.Words.{Bool, List, None, Option, Some, T, [], ap, arith, bytes_eq, drop, get_or, false, length, map, refl, subst, suc, sym, take, true, true≢false, zero, ℕ, ◌++◌, ◌+◌, ◌<◌, ◌∙◌, ◌∷◌, ◌≡◌, ◌≢◌, inl, inr, Ordering, Less, Equal, Greater, nat_cmp, none-some, same_Some, bytes_eq-Decides, nat_list_cmp_total, slice_cmp, contains_key, contains_key-keys, entries, entries_sorted, list_any, slice_get, is_lt, ordering_then, eq_by_cmp, Files, Lines}
use Rattle.std.specs.FinMap.{is_sorted, len, len-entries, nat_cmp-IsAntisymmetric}
use Rattle.std.specs.Cmp.{tied_itself}
use Rattle.std.specs.Ordering.{ordering_reverse}
use Rattle.std.proofs.lemmas.Cmp.{nat_cmp_total}
use Rattle.std.proofs.lemmas.List.{length-append, length-take, take-append-drop, take_more}
use Rattle.std.specs.Prelude.{MatchOption}
use Rattle.std.proofs.lemmas.Option.{slice_get-get_or, slice_get_within}
use Rattle.camp_git.specs.FastImport.{is_inside}
use Rattle.camp_git.specs.Inside.Finding.{IsPlaceOf}
use Rattle.std.specs.FinMap.Entries.{below_all}
use Rattle.std.proofs.lemmas.Map.Text.{is_eq-slice_cmp}
use Rattle.std.proofs.lemmas.Bool.{cases_order, false_from_ne_true, or_cases, or_left, or_right}
use Rattle.camp_share.proofs.Entries.{first, second, is_less}

module _ {K X : Type 0} (R : K → K → Ordering) where
  behind_key : (k : K) (es : List (K × X)) (i : ℕ) (e : K × X) → T (below_all R k es) → slice_get es i ≡ Some e → R k e.0 ≡ Less
  behind_key k [] i e h is = absurd (none-some e is)
  behind_key k (x ∷ es) zero e h is = subst (λ y. R k y.0 ≡ Less) (same_Some x e is) (is_less _ (first _ _ h))
  behind_key k (x ∷ es) (suc i) e h is = behind_key k es i e (second _ _ h) is

  -- of two entries the first has the lesser key
  pub rising : (es : List (K × X)) (i j : ℕ) (d e : K × X) → T (is_sorted R es) → i < j → slice_get es i ≡ Some d → slice_get es j ≡ Some e → R d.0 e.0 ≡ Less
  rising [] i j d e h l is other = absurd (none-some d is)
  rising (x ∷ es) i zero d e h l is other = absurd (omega arith)
  rising (x ∷ es) zero (suc j) d e h l is other =
      subst (λ y. R y.0 e.0 ≡ Less) (same_Some x d is) (behind_key x.0 es j e (first _ _ h) other)
  rising (x ∷ es) (suc i) (suc j) d e h l is other = rising es i j d e (second _ _ h) (omega arith) is other

-- one entry of the key
pub any_entry : (es : List (List ℕ × Lines)) (i : ℕ) (e : List ℕ × Lines) (test : List ℕ → Bool) → slice_get es i ≡ Some e → test e.0 ≡ true → list_any test (map (λ d. d.0) es) ≡ true
any_entry [] i e test is passes = absurd (none-some e is)
any_entry (x ∷ es) zero e test is passes =
    or_left (test x.0) (list_any test (map (λ d. d.0) es)) (ap (λ y. test y.0) (same_Some x e is) ∙ passes)
any_entry (x ∷ es) (suc i) e test is passes =
    or_right (test x.0) (list_any test (map (λ d. d.0) es)) (any_entry es i e test is passes)

pub entry_of : (es : List (List ℕ × Lines)) (path : List ℕ) → list_any (eq_by_cmp (slice_cmp nat_cmp) path) (map (λ d. d.0) es) ≡ true → (i : ℕ) × (e : List ℕ × Lines) × (slice_get es i ≡ Some e) × (e.0 ≡ path)
entry_of [] path is = absurd (true≢false (sym is))
entry_of (x ∷ es) path is =
    elim (or_cases (eq_by_cmp (slice_cmp nat_cmp) path x.0) (list_any (eq_by_cmp (slice_cmp nat_cmp) path) (map (λ d. d.0) es)) is) [
      | inl same ↦ (0, x, refl, sym ((bytes_eq-Decides path x.0).0 (sym (is_eq-slice_cmp path x.0) ∙ same)))
      | inr later ↦ let rest = entry_of es path later in (suc rest.0, rest.1, rest.2, rest.3)
    ]

module _ (tree : Files) where
  -- a path with a file is among the entries
  pub place_of_file : (path : List ℕ) → contains_key tree path ≡ true → (i : ℕ) × (e : List ℕ × Lines) × (slice_get (entries tree) i ≡ Some e) × (e.0 ≡ path)
  place_of_file path is = entry_of (entries tree) path (sym (contains_key-keys tree path) ∙ is)

  -- and an entry has a path with a file
  pub file_at_place : (i : ℕ) (e : List ℕ × Lines) → slice_get (entries tree) i ≡ Some e → contains_key tree e.0 ≡ true
  file_at_place i e is =
      contains_key-keys tree e.0 ∙ any_entry (entries tree) i e (eq_by_cmp (slice_cmp nat_cmp) e.0) is (is_eq-slice_cmp e.0 e.0 ∙ (bytes_eq-Decides e.0 e.0).1 refl)

  pub files_rise : (i j : ℕ) (d e : List ℕ × Lines) → i < j → slice_get (entries tree) i ≡ Some d → slice_get (entries tree) j ≡ Some e → slice_cmp nat_cmp d.0 e.0 ≡ Less
  files_rise i j d e = rising (slice_cmp nat_cmp) (entries tree) i j d e (entries_sorted tree)

then-is : {q : Ordering} (o p : Ordering) → o ≡ q → ordering_then o p ≡ ordering_then q p
then-is o p e = ap (λ r. ordering_then r p) e

other_way : (a b : ℕ) (o : Ordering) → nat_cmp b a ≡ o → nat_cmp a b ≡ ordering_reverse o
other_way a b o e = nat_cmp_total.antisymm a b ∙ ap ordering_reverse e

-- a path that is not less than some bytes, but not greater than a path that begins with them, begins with them
abbrev Begins : List ℕ → List ℕ → List ℕ → Type 0
Begins bytes rest other =
    ¬ (slice_cmp nat_cmp other bytes ≡ Less) → ¬ (slice_cmp nat_cmp (bytes ++ rest) other ≡ Less) → take (length bytes) other ≡ bytes

begins_more : (a b : ℕ) (bytes rest other : List ℕ) (o : Ordering) → nat_cmp b a ≡ o → Begins bytes rest other → Begins (a ∷ bytes) rest (b ∷ other)
begins_more a b bytes rest other Less e more low high = absurd (low (then-is _ _ e))
begins_more a b bytes rest other Greater e more low high =
    absurd (high (then-is _ _ (other_way a b Greater e)))
begins_more a b bytes rest other Equal e more low high =
    ap (λ y. y ∷ take (length bytes) other) (nat_cmp-IsAntisymmetric b a e) ∙ ap (λ t. a ∷ t) (more (λ l. low (then-is _ _ e ∙ l)) (λ l. high (then-is _ _ (other_way a b Equal e) ∙ l)))

between : (bytes rest other : List ℕ) → Begins bytes rest other
between [] rest [] low high = refl
between [] rest (b ∷ other) low high = refl
between (a ∷ bytes) rest [] low high = absurd (low refl)
between (a ∷ bytes) rest (b ∷ other) low high =
    begins_more a b bytes rest other (nat_cmp b a) refl (between bytes rest other) low high

-- a path that begins with some bytes is not less than them
not_before : (bytes rest : List ℕ) → ¬ (slice_cmp nat_cmp (bytes ++ rest) bytes ≡ Less)
not_before [] [] e = less≢equal (sym e)
  where
    less≢equal : Less ≢ Equal
    less≢equal e = true≢false (ap is_lt e)
not_before [] (b ∷ rest) e = true≢false (sym (ap is_lt e))
not_before (a ∷ bytes) rest e = not_before bytes rest (sym (then-is (nat_cmp a a) _ (same a)) ∙ e)
  where
    same : (n : ℕ) → nat_cmp n n ≡ Equal
    same n = tied_itself nat_cmp_total n

not_both : (a b : List ℕ) → slice_cmp nat_cmp a b ≡ Less → ¬ (slice_cmp nat_cmp b a ≡ Less)
not_both a b less back =
    true≢false (ap is_lt (sym less ∙ nat_list_cmp_total.antisymm a b ∙ ap ordering_reverse back))

module _ (tree : Files) (bytes : List ℕ) (place : ℕ) (is : IsPlaceOf tree bytes place) where
  -- the first file that is not less than some bytes begins with them, if any does
  pub starts_here : (other : List ℕ) → contains_key tree other ≡ true → take (length bytes) other ≡ bytes → (e : List ℕ × Lines) × (slice_get (entries tree) place ≡ Some e) × (take (length bytes) e.0 ≡ bytes)
  starts_here other has begins = by (place_of_file tree other has)
    where
      whole : other ≡ bytes ++ drop (length bytes) other
      whole = sym (take-append-drop (length bytes) other) ∙ ap (λ t. t ++ drop (length bytes) other) begins

      by : ((j : ℕ) × (d : List ℕ × Lines) × (slice_get (entries tree) j ≡ Some d) × (d.0 ≡ other)) → (e : List ℕ × Lines) × (slice_get (entries tree) place ≡ Some e) × (take (length bytes) e.0 ≡ bytes)
      by (j, d, at, called) = elim (cases_order j place) [
        | inl same ↦ (d, subst (λ n. slice_get (entries tree) n ≡ Some d) same at, ap (take (length bytes)) called ∙ begins)
        | inr rest ↦ elim rest [
          | inl before ↦ absurd (not_before bytes (drop (length bytes) other) (subst (λ t. slice_cmp nat_cmp t bytes ≡ Less) (called ∙ whole) (is.before j d before at)))
          | inr behind ↦ let e = get_or (entries tree) place d in
              let here : slice_get (entries tree) place ≡ Some e = slice_get-get_or (entries tree) place d (omega (behind, arith, slice_get_within (entries tree) j d at)) in
              let less : slice_cmp nat_cmp e.0 (bytes ++ drop (length bytes) other) ≡ Less = subst (λ t. slice_cmp nat_cmp e.0 t ≡ Less) (called ∙ whole) (files_rise tree place j e d behind here at) in
              (e, here, between bytes (drop (length bytes) other) e.0 (is.here e here) (not_both e.0 (bytes ++ drop (length bytes) other) less))
        ]
      ]

  -- and it has exactly these, if a file has
  pub stands_here : contains_key tree bytes ≡ true → (e : List ℕ × Lines) × (slice_get (entries tree) place ≡ Some e) × (e.0 ≡ bytes)
  stands_here has = by (place_of_file tree bytes has)
    where
      by : ((j : ℕ) × (d : List ℕ × Lines) × (slice_get (entries tree) j ≡ Some d) × (d.0 ≡ bytes)) → (e : List ℕ × Lines) × (slice_get (entries tree) place ≡ Some e) × (e.0 ≡ bytes)
      by (j, d, at, called) = elim (cases_order j place) [
        | inl same ↦ (d, subst (λ n. slice_get (entries tree) n ≡ Some d) same at, called)
        | inr rest ↦ elim rest [
          | inl before ↦ absurd (not_both bytes bytes (subst (λ t. slice_cmp nat_cmp t bytes ≡ Less) called (is.before j d before at)) (subst (λ t. slice_cmp nat_cmp t bytes ≡ Less) called (is.before j d before at)))
          | inr behind ↦ let e = get_or (entries tree) place d in
              let here : slice_get (entries tree) place ≡ Some e = slice_get-get_or (entries tree) place d (omega (behind, arith, slice_get_within (entries tree) j d at)) in
              absurd (is.here e here (subst (λ t. slice_cmp nat_cmp e.0 t ≡ Less) called (files_rise tree place j e d behind here at)))
        ]
      ]

module _ (tree : Files) where
  pub none_at_end : (n : ℕ) (file : List ℕ × Lines) → n ≡ len tree → ¬ (slice_get (entries tree) n ≡ Some file)
  none_at_end n file e is =
      let within = slice_get_within (entries tree) n file is in
      absurd (omega (arith, within, e, len-entries tree))

  -- the paths less than the bytes, if the file at an index is
  pub all_before : (bytes : List ℕ) (m : ℕ) → ((e : List ℕ × Lines) → slice_get (entries tree) m ≡ Some e → slice_cmp nat_cmp e.0 bytes ≡ Less) → m < len tree → (k : ℕ) (file : List ℕ × Lines) → k < m + 1 → slice_get (entries tree) k ≡ Some file → slice_cmp nat_cmp file.0 bytes ≡ Less
  all_before bytes m there within k file l is = elim (cases_order k m) [
    | inl same ↦ there file (subst (λ n. slice_get (entries tree) n ≡ Some file) same is)
    | inr rest ↦ elim rest [
      | inl less ↦ let e = get_or (entries tree) m file in
          let at : slice_get (entries tree) m ≡ Some e = slice_get-get_or (entries tree) m file (omega (within, arith, len-entries tree)) in
          nat_list_cmp_total.trans file.0 e.0 bytes (files_rise tree k m file e less is at) (there e at)
      | inr more ↦ absurd (omega (arith, l, more))
    ]
  ]

-- a path is in a folder if it is the folder's path, a slash and more
pub inside_begins : (folder path : List ℕ) → is_inside folder path ≡ true → take (length (folder ++ 47 ∷ [])) path ≡ folder ++ 47 ∷ []
inside_begins folder path e =
    sym ((bytes_eq-Decides (folder ++ 47 ∷ []) (take (length (folder ++ 47 ∷ [])) path)).0 e)

pub begins_inside : (folder path : List ℕ) → take (length (folder ++ 47 ∷ [])) path ≡ folder ++ 47 ∷ [] → is_inside folder path ≡ true
begins_inside folder path e =
    (bytes_eq-Decides (folder ++ 47 ∷ []) (take (length (folder ++ 47 ∷ [])) path)).1 (sym e)

pub begins : (bytes path : List ℕ) → bytes_eq bytes (take (length bytes) path) ≡ true → take (length bytes) path ≡ bytes
begins bytes path e = sym ((bytes_eq-Decides bytes (take (length bytes) path)).0 e)

pub is_begun : (bytes path : List ℕ) → take (length bytes) path ≡ bytes → bytes_eq bytes (take (length bytes) path) ≡ true
is_begun bytes path e = (bytes_eq-Decides bytes (take (length bytes) path)).1 (sym e)

pub lacks : (tree : Files) (path : List ℕ) → ¬ (contains_key tree path ≡ true) → contains_key tree path ≡ false
lacks tree path never = false_from_ne_true (contains_key tree path) never

at_slash : (folder path : List ℕ) → take (length (folder ++ 47 ∷ [])) path ≡ folder ++ 47 ∷ [] → (take (length folder) path ≡ folder) × (get_or path (length folder) 0 ≡ 47)
at_slash [] [] e = absurd (omega (arith, ap length e))
at_slash [] (b ∷ path) e = (refl, ap (λ l. get_or l 0 0) e)
at_slash (a ∷ folder) [] e = absurd (omega (arith, ap length e))
at_slash (a ∷ folder) (b ∷ path) e =
    let rest = at_slash folder path (ap (drop 1) e) in
    (ap (λ n. n ∷ take (length folder) path) (ap (λ l. get_or l 0 0) e) ∙ ap (λ l. a ∷ l) rest.0, rest.1)

-- a path is in the folder up to a slash, and in no other one of the same length
pub inside_at : (path : List ℕ) (at : ℕ) → at < length path → get_or path at 0 ≡ 47 → is_inside (take at path) path ≡ true
inside_at path at within is =
    let long : length (take at path ++ 47 ∷ []) ≡ at + 1 = omega (arith, within, length-append (take at path) (47 ∷ []), length-take at path) in
    begins_inside (take at path) path (ap (λ n. take n path) long ∙ take_more path at 0 within ∙ ap (λ b. take at path ++ b ∷ []) is)

pub none_long : (tree : Files) (path : List ℕ) (at : ℕ) → contains_key tree (take at path) ≡ false → (file : List ℕ) → length file ≡ at → contains_key tree file ≡ true → is_inside file path ≡ false
none_long tree path at lacks file long has =
    false_from_ne_true (is_inside file path) (λ inside.
    let begun = (at_slash file path (inside_begins file path inside)).0 in
    true≢false (sym has ∙ ap (contains_key tree) (sym begun ∙ ap (λ n. take n path) long) ∙ lacks))

pub no_slash : (path file : List ℕ) (at : ℕ) → length file ≡ at → ¬ (get_or path at 0 ≡ 47) → is_inside file path ≡ false
no_slash path file at long never =
    false_from_ne_true (is_inside file path) (λ inside. never (subst (λ n. get_or path n 0 ≡ 47) long (at_slash file path (inside_begins file path inside)).1))

pub matched : {A : Type 0} {P P' : Type 0} {Q Q' : A → Type 0} (o : Option A) → (P → P') → ((a : A) → Q a → Q' a) → MatchOption o P Q → MatchOption o P' Q'
matched None none some is = none is
matched (Some a) none some is = some a is
