-- Sets whose members change.
use Rattle.camp_ctx.proofs.Words.{◌≡◌, true, false, cond, T, ◌&&◌, Option, None, Some, List, [], ◌∷◌, map, refl, sym, ap, ◌∙◌, subst, option_map, get, entries, entries_sorted, from_sorted, is_sorted, find, same_map, get-from_sorted, get-entries, below_all, is_lt, eq_by_cmp, same_Some, Files, Named, AddsToContext, AddsAll, ContextedPatch, ContextedPatches, ChangesAt, EachMember, key_cmp, Key, HasAtMostOneResult, AlwaysHasResult, Applies, AppliesAll, KeepsValid, KeepsMembersValid, key_total, key_ties}
use Rattle.camp_ctx.specs.Laws.{AddingHasResult, AddingIsUnique, EmptyChangesNothing, KeepValid}
use Rattle.camp_ctx.proofs.AddResults.{add_exists, add_of_all_exists, one_add, one_add_of_all, one_passing_by, one_passing_of_all}
use Rattle.camp_ctx.proofs.AddValid.{valid_by_adding, valid_by_adding_all, valid_by_passing, valid_by_passing_all}
use Rattle.camp_ctx.proofs.ConflictLaws.{one_merge_behind}

-- at each label a change of one result has one result
one_change_at : (Change : ContextedPatch → ContextedPatch → Type 0) → HasAtMostOneResult Change → (was now other : Option ContextedPatch) → ChangesAt Change was now → ChangesAt Change was other → now ≡ other
one_change_at Change one None None None v w = refl
one_change_at Change one None None (Some z) v w = absurd w
one_change_at Change one None (Some y) other v w = absurd v
one_change_at Change one (Some x) None other v w = absurd v
one_change_at Change one (Some x) (Some y) None v w = absurd w
one_change_at Change one (Some x) (Some y) (Some z) v w = ap Some (one x y z v w)

pub one_change_of_members : (Change : ContextedPatch → ContextedPatch → Type 0) → HasAtMostOneResult Change → HasAtMostOneResult (EachMember Change)
one_change_of_members Change one xs ys zs v w =
    same_map key_total key_ties ys zs (λ key. one_change_at Change one (get xs key) (get ys key) (get zs key) (v key) (w key))

-- each value of some entries changed
abbrev pub changed : (ContextedPatch → ContextedPatch) → List (Key × ContextedPatch) → List (Key × ContextedPatch)
changed f = map (λ e. (e.0, f e.1))

below_changed : (f : ContextedPatch → ContextedPatch) (k : Key) (es : List (Key × ContextedPatch)) → below_all key_cmp k (changed f es) ≡ below_all key_cmp k es
below_changed f k [] = refl
below_changed f k (e ∷ es) = ap (λ b. is_lt (key_cmp k e.0) && b) (below_changed f k es)

pub sorted_changed : (f : ContextedPatch → ContextedPatch) (es : List (Key × ContextedPatch)) → is_sorted key_cmp (changed f es) ≡ is_sorted key_cmp es
sorted_changed f [] = refl
sorted_changed f (e ∷ es) = (λ i. below_changed f e.0 es i && sorted_changed f es i)

pub find_changed : (f : ContextedPatch → ContextedPatch) (q : Key) (es : List (Key × ContextedPatch)) → find key_cmp q (changed f es) ≡ option_map f (find key_cmp q es)
find_changed f q [] = refl
find_changed f q (e ∷ es) =
    elim (eq_by_cmp key_cmp q e.0) as (λ b. cond b (Some (f e.1)) (find key_cmp q (changed f es)) ≡ option_map f (cond b (Some e.1) (find key_cmp q es))) [
      | true ↦ refl
      | false ↦ find_changed f q es
    ]

changes_at : (Change : ContextedPatch → ContextedPatch → Type 0) (f : ContextedPatch → ContextedPatch) → ((x : ContextedPatch) → Change x (f x)) → (was : Option ContextedPatch) → ChangesAt Change was (option_map f was)
changes_at Change f is None = tt
changes_at Change f is (Some x) = is x

-- the set with every member changed by a function
pub with_changed : (ContextedPatch → ContextedPatch) → ContextedPatches → ContextedPatches
with_changed f xs = from_sorted (changed f (entries xs))

pub get_changed : (f : ContextedPatch → ContextedPatch) (xs : ContextedPatches) (q : Key) → get (with_changed f xs) q ≡ option_map f (get xs q)
unfolding with_changed
get_changed f xs q =
    get-from_sorted key_cmp (changed f (entries xs)) q (subst T (sym (sorted_changed f (entries xs))) (entries_sorted xs)) ∙ find_changed f q (entries xs) ∙ ap (option_map f) (sym (get-entries xs q))

pub members_change : (Change : ContextedPatch → ContextedPatch → Type 0) → AlwaysHasResult Change → AlwaysHasResult (EachMember Change)
members_change Change always xs =
    let f : ContextedPatch → ContextedPatch = λ x. (always x).0 in
    (with_changed f xs, λ key. subst (ChangesAt Change (get xs key)) (sym (get_changed f xs key)) (changes_at Change f (λ x. (always x).1) (get xs key)))

-- a member after the change is what a member before it became
pub member_before : (Change : ContextedPatch → ContextedPatch → Type 0) (was now : Option ContextedPatch) (y : ContextedPatch) → ChangesAt Change was now → now ≡ Some y → (x : ContextedPatch) × (was ≡ Some x) × Change x y
member_before Change None None y w is = cc
member_before Change None (Some z) y w is = absurd w
member_before Change (Some x) None y w is = absurd w
member_before Change (Some x) (Some z) y w is = (x, refl, subst (Change x) (same_Some z y is) w)

pub members_valid : (Change : ContextedPatch → ContextedPatch → Type 0) (Step : Files → Files → Type 0) → KeepsValid Change Step → KeepsMembersValid Change Step
members_valid Change Step keeps xs ys w old new step valid key y is =
    let b = member_before Change (get xs key) (get ys key) y (w key) is in
    keeps b.0 y b.2 old new step (valid key b.0 b.1)

unchanged_at : (was : Option ContextedPatch) → ChangesAt (AddsAll []) was was
unchanged_at None = tt
unchanged_at (Some x) = refl

pub unchanged : (xs : ContextedPatches) → EachMember (AddsAll []) xs xs
unchanged xs key = unchanged_at (get xs key)

pub empty_changes_nothing : EmptyChangesNothing
empty_changes_nothing = record {
  adds = λ x y is. is;
  adds_to_members = λ xs ys w. one_change_of_members (AddsAll []) (one_add_of_all []) xs ys xs w (unchanged xs);
}

alone_at : (a : Named) (was now : Option ContextedPatch) → ChangesAt (AddsAll (a ∷ [])) was now → ChangesAt (AddsToContext a) was now
alone_at a None None w = w
alone_at a None (Some y) w = w
alone_at a (Some x) None w = w
alone_at a (Some x) (Some y) w = subst (λ u. AddsToContext a u y) w.1 w.2

-- a list of one is added as its one element
pub added_alone : (a : Named) (r : List Named) (xs ys : ContextedPatches) → r ≡ a ∷ [] → EachMember (AddsAll r) xs ys → EachMember (AddsToContext a) xs ys
added_alone a r xs ys is w key =
    alone_at a (get xs key) (get ys key) (subst (λ s. ChangesAt (AddsAll s) (get xs key) (get ys key)) is (w key))

pub are_determined : AddingIsUnique
are_determined = record {
  adds = one_add;
  adds_all = one_add_of_all;
  adds_to_members = λ a. one_change_of_members (AddsToContext a) (one_add a);
  adds_all_to_members = λ r. one_change_of_members (AddsAll r) (one_add_of_all r);
  passes_by = one_passing_by;
  passes_by_all = one_passing_of_all;
  merges = one_merge_behind;
}

pub adding_has_result : AddingHasResult
adding_has_result = record {
  adds = add_exists;
  adds_all = add_of_all_exists;
  adds_to_members = λ a. members_change (AddsToContext a) (add_exists a);
  adds_all_to_members = λ r. members_change (AddsAll r) (add_of_all_exists r);
}

pub keep_valid : KeepValid
keep_valid = record {
  adds = valid_by_adding;
  adds_all = valid_by_adding_all;
  adds_to_members = λ a. members_valid (AddsToContext a) (Applies a.prim) (valid_by_adding a);
  adds_all_to_members = λ r. members_valid (AddsAll r) (AppliesAll r) (valid_by_adding_all r);
  passes_by = valid_by_passing;
  passes_by_all = valid_by_passing_all;
}
