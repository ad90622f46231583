-- Changes that are made one after the other, up to the first that can't be made.
use Rattle.std.specs.List.{AllByRecursion}
use Rattle.camp_why.proofs.Words.{◌+◌, ◌≡◌, ◌∙◌, ◌∷◌, ℕ, suc, Bool, true, false, cond, List, [], length, take, slice_get, None, Some, Option, ap, arith, ltb-true, nat_lt, none-some, option_map_or, refl, subst, sym, get, Files, Lines, AppliesEach, Applies, Applies-from_applied, InRange, Primitive, applied, applied-from_Applies, path_of, find_misfit, Misfit, Err, Ok, Result}
use Rattle.camp_why.proofs.Misfitting.{is_misfit, none_applies, not_applied}
use Rattle.camp_call.specs.declared.replies.Refusal.{Refusal}
use Rattle.camp_call.specs.declared.replies.Refusal.TheVariants.{DoesNotApply, TooLarge}
use Rattle.camp_repo.specs.Steps.{changed, led_to, longest_file, then_from}
use Rattle.camp_why.specs.Stops.{IsHindrance, IsStop, first_stop, hindrance, long_file, made_long, hindrance_or, refusal_at, stop_or}
use Rattle.camp_why.specs.declared.stops.Hindrance.{Hindrance}
use Rattle.camp_why.specs.declared.stops.Hindrance.TheVariants as hindrance_of
use Rattle.camp_why.specs.declared.stops.Stop.{Stop}

-- ---- the reported reason is a true one

module _ (change : Primitive) (tree : Files) where
  abbrev Hinders : Option Hindrance → Type 0
  Hinders None = Unit {0}
  Hinders (Some why) = IsHindrance change tree why

  by_length : (next : Files) → applied change tree ≡ Some next → (lines : Lines) → get next (path_of change) ≡ Some lines
      → (b : Bool) → nat_lt longest_file (length lines) ≡ b → Hinders (cond b (Some (hindrance_of.TooLong (length lines))) None)
  by_length next made lines is true long = record {
    next = next;
    applies = Applies-from_applied change tree next made;
    lines = lines;
    found = is;
    counts = refl;
    long = ltb-true longest_file (length lines) long;
  }
  by_length next made lines is false long = tt

  in_file : (next : Files) → applied change tree ≡ Some next → (found : Option Lines) → get next (path_of change) ≡ found → Hinders (long_file found)
  in_file next made None is = tt
  in_file next made (Some lines) is = by_length next made lines is (nat_lt longest_file (length lines)) refl

  in_tree : (made : Option Files) → applied change tree ≡ made → Hinders (made_long (path_of change) made)
  in_tree None is = tt
  in_tree (Some next) is = in_file next is (get next (path_of change)) refl

  by_reason : (reason : Option Misfit) → find_misfit change tree ≡ reason → Hinders (hindrance_or reason (made_long (path_of change) (applied change tree)))
  by_reason None is = in_tree (applied change tree) refl
  by_reason (Some reason) is = is_misfit change tree reason is

  pub is_hindrance : (why : Hindrance) → hindrance change tree ≡ Some why → IsHindrance change tree why
  is_hindrance why e = subst Hinders e (by_reason (find_misfit change tree) refl)

-- changes stop after this many others
record StopsAfter (at : ℕ) (changes : List Primitive) (tree : Files) (stop : Stop) : Type 0 where
  before : ℕ
  numbered : stop.change ≡ suc (at + before)
  met : Files
  leads : AppliesEach (take before changes) tree met
  change : Primitive
  is : slice_get changes before ≡ Some change
  of_file : stop.path ≡ path_of change
  hinders : IsHindrance change met stop.why

abbrev StopsIn : ℕ → List Primitive → Files → Option Stop → Type 0
StopsIn at changes tree None = Unit {0}
StopsIn at changes tree (Some stop) = StopsAfter at changes tree stop

module _ (at : ℕ) (change : Primitive) (changes : List Primitive) (tree : Files) where
  stop_later : (next : Files) → applied change tree ≡ Some next → (found : Option Stop) → StopsIn (suc at) changes next found → StopsIn at (change ∷ changes) tree found
  stop_later next led None rest = tt
  stop_later next led (Some stop) rest =
      let number : suc (suc at + rest.before) ≡ suc (at + suc rest.before) = omega arith in
      record {
        before = suc rest.before;
        numbered = rest.numbered ∙ number;
        met = rest.met;
        leads = (next, Applies-from_applied change tree next led, rest.leads);
        change = rest.change;
        is = rest.is;
        of_file = rest.of_file;
        hinders = rest.hinders;
      }

  -- by the reason against the first change, and the tree that it leads to
  stop_by : ((next : Files) → StopsIn (suc at) changes next (first_stop (suc (suc at)) changes next))
      → (h : Option Hindrance) → hindrance change tree ≡ h → (made : Option Files) → applied change tree ≡ made
      → StopsIn at (change ∷ changes) tree (stop_or (suc at) change h made (first_stop (suc (suc at)) changes))
  stop_by later (Some why) is made led =
      let number : suc at ≡ suc (at + 0) = omega arith in
      record { before = 0; numbered = number; met = tree; leads = refl; change = change; is = refl; of_file = refl; hinders = is_hindrance change tree why is }
  stop_by later None is None led = tt
  stop_by later None is (Some next) led = stop_later next led (first_stop (suc (suc at)) changes next) (later next)

is_stop_of : (at : ℕ) (changes : List Primitive) (tree : Files) → StopsIn at changes tree (first_stop (suc at) changes tree)
is_stop_of at [] tree = tt
is_stop_of at (change ∷ changes) tree =
    stop_by at change changes tree (is_stop_of (suc at) changes) (hindrance change tree) refl (applied change tree) refl

pub is_stop : (changes : List Primitive) (tree : Files) (stop : Stop) → first_stop 1 changes tree ≡ Some stop → IsStop changes tree stop
is_stop changes tree stop e =
    let later : StopsAfter 0 changes tree stop = subst (StopsIn 0 changes tree) e (is_stop_of 0 changes tree) in
    let number : suc (0 + later.before) ≡ suc later.before = omega arith in
    record {
      before = later.before;
      numbered = later.numbered ∙ number;
      met = later.met;
      leads = later.leads;
      change = later.change;
      is = later.is;
      of_file = later.of_file;
      hinders = later.hinders;
    }

-- ---- if changes are refused, they stop with this refusal

-- the first stop is reported for these changes, and has this refusal
pub record StopsWith (at : ℕ) (changes : List Primitive) (tree : Files) (refusal : Refusal) : Type 0 where
  pub stop : Stop
  pub first : first_stop at changes tree ≡ Some stop
  pub of : refusal_at stop.why ≡ refusal

stopped : (at : ℕ) (change : Primitive) (changes : List Primitive) (tree : Files) (why : Hindrance) (refusal : Refusal)
    → hindrance change tree ≡ Some why → refusal_at why ≡ refusal → StopsWith at (change ∷ changes) tree refusal
stopped at change changes tree why refusal hinders of = record {
  stop = record { change = at; path = path_of change; why = why };
  first = ap (λ h. stop_or at change h (applied change tree) (first_stop (suc at) changes)) hinders;
  of = of;
}

-- the refusal of a result
abbrev refusal_in : Result Files Refusal → Refusal
refusal_in (Ok tree) = DoesNotApply
refusal_in (Err refusal) = refusal

applies_free : (change : Primitive) (tree next : Files) → applied change tree ≡ Some next → (reason : Option Misfit)
    → find_misfit change tree ≡ reason → reason ≡ None
applies_free change tree next made None is = refl
applies_free change tree next made (Some why) is =
    absurd (not_applied change tree next why (is_misfit change tree why is) (Applies-from_applied change tree next made))

module _ (at : ℕ) (change : Primitive) (changes : List Primitive) (tree : Files) (refusal : Refusal) (range : InRange change)
    (later : (next : Files) → changed changes next ≡ Err refusal → StopsWith (suc at) changes next refusal) where
  misfits : applied change tree ≡ None → (reason : Option Misfit) → find_misfit change tree ≡ reason → DoesNotApply ≡ refusal
      → StopsWith at (change ∷ changes) tree refusal
  misfits nowhere None is of =
      let (next, applies) = none_applies change tree range is in
      absurd (none-some next (sym nowhere ∙ applied-from_Applies change tree next applies))
  misfits nowhere (Some why) is of =
      stopped at change changes tree (hindrance_of.Misfit why) refusal
      (ap (λ r. hindrance_or r (made_long (path_of change) (applied change tree))) is) of

  module _ (next : Files) (made : applied change tree ≡ Some next) where
    hinders : hindrance change tree ≡ long_file (get next (path_of change))
    hinders =
        let free = applies_free change tree next made (find_misfit change tree) refl in
        (λ j. hindrance_or (free j) (made_long (path_of change) (made j)))

    goes_on : hindrance change tree ≡ None → changed changes next ≡ Err refusal → StopsWith at (change ∷ changes) tree refusal
    goes_on none e =
        let rest = later next e in
        record {
          stop = rest.stop;
          first = (λ j. stop_or at change (none j) (made j) (first_stop (suc at) changes)) ∙ rest.first;
          of = rest.of;
        }

    at_length : (lines : Lines) → get next (path_of change) ≡ Some lines → (b : Bool) → nat_lt longest_file (length lines) ≡ b
        → then_from (cond b (Err TooLarge) (Ok next)) (changed changes) ≡ Err refusal → StopsWith at (change ∷ changes) tree refusal
    at_length lines found true is e =
        stopped at change changes tree (hindrance_of.TooLong (length lines)) refusal
        (hinders ∙ ap long_file found ∙ ap (λ b. cond b (Some (hindrance_of.TooLong (length lines))) None) is)
        (ap refusal_in e)
    at_length lines found false is e =
        goes_on (hinders ∙ ap long_file found ∙ ap (λ b. cond b (Some (hindrance_of.TooLong (length lines))) None) is) e

    by_file : (found : Option Lines) → get next (path_of change) ≡ found
        → then_from (cond (option_map_or (λ lines. nat_lt longest_file (length lines)) found false) (Err TooLarge) (Ok next)) (changed changes) ≡ Err refusal
        → StopsWith at (change ∷ changes) tree refusal
    by_file None found e = goes_on (hinders ∙ ap long_file found) e
    by_file (Some lines) found e = at_length lines found (nat_lt longest_file (length lines)) refl e

  by_made : (made : Option Files) → applied change tree ≡ made → then_from (led_to change made) (changed changes) ≡ Err refusal
      → StopsWith at (change ∷ changes) tree refusal
  by_made None is e = misfits is (find_misfit change tree) refl (ap refusal_in e)
  by_made (Some next) is e = by_file next is (get next (path_of change)) refl e

pub stops_with : (at : ℕ) (changes : List Primitive) (tree : Files) (refusal : Refusal) → AllByRecursion InRange changes
    → changed changes tree ≡ Err refusal → StopsWith at changes tree refusal
stops_with at [] tree refusal range e = cc
stops_with at (change ∷ changes) tree refusal range e =
    by_made at change changes tree refusal range.0 (λ next. stops_with (suc at) changes next refusal range.1) (applied change tree) refl e

-- ---- one change

module _ (change : Primitive) (tree next : Files) (free : find_misfit change tree ≡ None) (applies : Applies change tree next) where
  -- a change that applies is prevented only by a file that is too long
  pub made_so : (path : List ℕ) → path ≡ path_of change → (result : Option Hindrance) → result ≡ long_file (get next path)
      → result ≡ hindrance change tree
  made_so path same result is =
      is ∙ ap (λ (p : List ℕ). long_file (get next p)) same
      ∙ sym (λ j. hindrance_or (free j) (made_long (path_of change) (applied-from_Applies change tree next applies j)))
