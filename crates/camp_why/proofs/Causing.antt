-- Refusals of calls, and their causes.
use Rattle.std.specs.List.{list_any}
use Rattle.camp_why.proofs.Words.{◌&&◌, ◌||◌, ◌+◌, ◌≡◌, ◌∙◌, ◌∷◌, ℕ, suc, Bool, true, false, not, cond, List, [], length, None, Some, Option, ap, arith, false≢true, ltb-true, nat_lt, refl, slice_get, sym, Files, Edit, Primitive, Add, Hunk, Remove}
use Rattle.std.proofs.lemmas.Bool.{cond-false, cond-true, le-leb, or_parts}
use Rattle.camp_why.proofs.Stopping.{StopsWith, is_stop}
use Rattle.camp_branch.specs.Branches.{LeadsTo}
use Rattle.camp_catch.specs.declared.catches.Catch.{Catch}
use Rattle.camp_call.specs.Patches.{IsPatchSized}
use Rattle.camp_call.specs.declared.calls.Call.{Call}
use Rattle.camp_call.specs.declared.calls.Call.TheVariants as call
use Rattle.camp_call.specs.declared.replies.Refusal.{Refusal}
use Rattle.camp_call.specs.declared.replies.Refusal.TheVariants.{TooLarge}
use Rattle.camp_repo.proofs.TreeSteps.{tree_found}
use Rattle.camp_repo.specs.Laws.{Has}
use Rattle.camp_repo.specs.States.{Contents, catches_of, tree_of}
use Rattle.camp_repo.specs.Steps.{has_long_side, is_patch_sized, is_too_large}
use Rattle.camp_why.specs.Causes.{IsSo, RecordsIn, cause_or, first_long, is_of_changes, record_cause, refusal_by, stop_cause, stop_from}
use Rattle.camp_why.specs.Stops.{first_stop, refusal_at}
use Rattle.camp_why.specs.declared.stops.Hindrance.{Hindrance}
use Rattle.camp_why.specs.declared.stops.Hindrance.TheVariants as hindrance
use Rattle.camp_why.specs.Laws.{IsExplained}
use Rattle.camp_why.specs.declared.causes.Cause.{Cause}
use Rattle.camp_why.specs.declared.stops.Stop.{Stop}
use Rattle.camp_why.specs.declared.causes.Cause.TheVariants.{FullBranch, LongSide, Stops}

-- ---- a cause is about changes or about a limit

by_hindrance : (why : Hindrance) → is_of_changes (refusal_at why) ≡ true
by_hindrance (hindrance.Misfit misfit) = refl
by_hindrance (hindrance.TooLong count) = refl

pub by_cause : (cause : Cause) → is_of_changes (refusal_by cause) ≡ true
by_cause (Stops stop) = by_hindrance stop.why
by_cause other = refl

-- ---- the changes of a record

-- the cause that the sides of an edit are too long
abbrev long_at : ℕ → Edit → Cause
long_at at hunk = LongSide at hunk.path (length hunk.old) (length hunk.new)

-- an edit with a side that is too long comes after this many other changes
record LongBehind (at : ℕ) (changes : List Primitive) (cause : Cause) : Type 0 where
  before : ℕ
  hunk : Edit
  is : cause ≡ long_at (suc (at + before)) hunk
  found : slice_get changes before ≡ Some (Hunk hunk)
  long : has_long_side (Hunk hunk) ≡ true

long_after : (at : ℕ) (change : Primitive) (changes : List Primitive) (cause : Cause) → LongBehind (suc at) changes cause
    → LongBehind at (change ∷ changes) cause
long_after at change changes cause rest =
    let place : suc (suc at + rest.before) ≡ suc (at + suc rest.before) = omega arith in
    record {
      before = suc rest.before;
      hunk = rest.hunk;
      is = rest.is ∙ ap (λ n. long_at n rest.hunk) place;
      found = rest.found;
      long = rest.long;
    }

-- the first side that is too long is one; if there is no first, no side is too long
abbrev Finds : ℕ → List Primitive → Option Cause → Type 0
Finds at changes None = list_any has_long_side changes ≡ false
Finds at changes (Some cause) = LongBehind at changes cause × (list_any has_long_side changes ≡ true)

-- the search continues after a change whose sides are not too long
found_after : (at : ℕ) (change : Primitive) (changes : List Primitive) (found : Option Cause) → has_long_side change ≡ false → Finds (suc at) changes found
    → Finds at (change ∷ changes) found
found_after at change changes None short none = (λ j. short j || none j)
found_after at change changes (Some cause) short (later, some) = (long_after at change changes cause later, (λ j. short j || some j))

finds : (at : ℕ) (changes : List Primitive) → Finds at changes (first_long (suc at) changes)
finds at [] = refl
finds at (Add path ∷ changes) = found_after at (Add path) changes (first_long (suc (suc at)) changes) refl (finds (suc at) changes)
finds at (Remove path ∷ changes) = found_after at (Remove path) changes (first_long (suc (suc at)) changes) refl (finds (suc at) changes)
finds at (Hunk hunk ∷ changes) = by (has_long_side (Hunk hunk)) refl (finds (suc at) changes)
  where
    by : (b : Bool) → has_long_side (Hunk hunk) ≡ b → Finds (suc at) changes (first_long (suc (suc at)) changes)
        → Finds at (Hunk hunk ∷ changes) (cause_or (cond b (Some (long_at (suc at) hunk)) None) (first_long (suc (suc at)) changes))
    by true is later =
        let place : suc at ≡ suc (at + 0) = omega arith in (
          record { before = 0; hunk = hunk; is = ap (λ n. long_at n hunk) place; found = refl; long = is },
          ap (λ b. b || list_any has_long_side changes) is,
        )
    by false is later = found_after at (Hunk hunk) changes (first_long (suc (suc at)) changes) is later

none_found : (changes : List Primitive) (found : Option Cause) → Finds 0 changes found → list_any has_long_side changes ≡ false → found ≡ None
none_found changes None found none = refl
none_found changes (Some cause) found none = absurd (false≢true (sym none ∙ found.1))

is_sized : (changes : List Primitive) → IsPatchSized changes → not (is_patch_sized changes) ≡ false
is_sized changes size = (λ j. not (le-leb 1 (length changes) size.0 j && le-leb (length changes) 64 size.1 j))

-- ---- causes of a record

module _ (state : Contents) (branch name : List ℕ) (changes : List Primitive) (catches : List Catch) (has : Has state branch catches) where
  abbrev request : Call
  request = call.Record branch name changes

  in_branch : RecordsIn state request catches changes
  in_branch = record { branch = branch; name = name; records = refl; has = has }

  explains : (cause : Cause) → record_cause state.limits.catches changes (Some catches) ≡ Some cause → IsSo state request cause → IsExplained state request (refusal_by cause)
  explains cause reported is_so = record {
    cause = cause;
    reported = cond-true (is_of_changes (refusal_by cause)) (record_cause state.limits.catches changes (catches_of state.branches branch)) None (by_cause cause)
        ∙ ap (record_cause state.limits.catches changes) has ∙ reported;
    of = refl;
    is_so = is_so;
  }

  fills : nat_lt state.limits.catches (length catches + length changes) ≡ true → IsExplained state request TooLarge
  fills full = explains (FullBranch (length catches) (length changes) state.limits.catches) (cond-true _ _ _ full) (record {
    catches = catches;
    changes = changes;
    in_branch = in_branch;
    counts = refl;
    brings = refl;
    limit = refl;
    full = ltb-true state.limits.catches (length catches + length changes) full;
  })

  is_long : nat_lt state.limits.catches (length catches + length changes) ≡ false → list_any has_long_side changes ≡ true → IsExplained state request TooLarge
  is_long few any = by_first (first_long 1 changes) refl (finds 0 changes)
    where
      by_first : (found : Option Cause) → first_long 1 changes ≡ found → Finds 0 changes found → IsExplained state request TooLarge
      by_first None first none = absurd (false≢true (sym none ∙ any))
      by_first (Some cause) first (at_first, some) =
          let place : suc (0 + at_first.before) ≡ suc at_first.before = omega arith in
          let reported : cause_or (first_long 1 changes) (stop_from changes (tree_of catches)) ≡ Some (long_at (suc (0 + at_first.before)) at_first.hunk) =
          ap (λ o. cause_or o (stop_from changes (tree_of catches))) first ∙ ap Some at_first.is in
          explains (long_at (suc (0 + at_first.before)) at_first.hunk) (cond-false _ _ _ few ∙ reported) (record {
            catches = catches;
            changes = changes;
            in_branch = in_branch;
            is_long = record {
              before = at_first.before;
              numbered = place;
              hunk = at_first.hunk;
              is = at_first.found;
              of_file = refl;
              counts_old = refl;
              counts_new = refl;
              long = at_first.long;
            };
          })

  -- too many changes, or too long sides
  large_by : (full long : Bool) → nat_lt state.limits.catches (length catches + length changes) ≡ full → list_any has_long_side changes ≡ long
      → full || (long || not (is_patch_sized changes)) ≡ true → IsPatchSized changes → IsExplained state request TooLarge
  large_by true long full any e size = fills full
  large_by false true few any e size = is_long few any
  large_by false false few none e size = absurd (false≢true (sym (is_sized changes size) ∙ e))

  pub is_large : is_too_large state.limits.catches catches changes ≡ true → IsPatchSized changes → IsExplained state request TooLarge
  is_large e size = large_by (nat_lt state.limits.catches (length catches + length changes)) (list_any has_long_side changes) refl refl e size

  pub stops : is_too_large state.limits.catches catches changes ≡ false → (tree : Files) → LeadsTo catches tree → (refusal : Refusal) → (with_stop : StopsWith 1 changes tree refusal)
      → IsExplained state request (refusal_at with_stop.stop.why)
  stops small tree leads refusal with_stop =
      let (few, others) = or_parts (nat_lt state.limits.catches (length catches + length changes)) _ small in
      let short = (or_parts (list_any has_long_side changes) _ others).0 in
      let reported : cause_or (first_long 1 changes) (stop_from changes (tree_of catches)) ≡ Some (Stops with_stop.stop) =
      (λ j. cause_or (none_found changes (first_long 1 changes) (finds 0 changes) short j) (stop_from changes (tree_found catches tree leads j))) ∙ ap stop_cause with_stop.first in
      explains (Stops with_stop.stop) (cond-false _ _ _ few ∙ reported) (record {
        catches = catches;
        changes = changes;
        in_branch = in_branch;
        tree = tree;
        leads = leads;
        is_stop = is_stop changes tree with_stop.stop with_stop.first;
      })

-- ---- in a branch

-- if the branch has room and no side is too long, a record stops at a change or does not stop
pub stops_in : (most : ℕ) (catches : List Catch) (changes : List Primitive) (tree : Files)
    → nat_lt most (length catches + length changes) ≡ false → first_long 1 changes ≡ None → LeadsTo catches tree
    → (found : Option Stop) → found ≡ first_stop 1 changes tree → stop_cause found ≡ record_cause most changes (Some catches)
stops_in most catches changes tree few short leads found is =
    ap stop_cause is
    ∙ sym (cond-false (nat_lt most (length catches + length changes)) (Some (FullBranch (length catches) (length changes) most))
    (cause_or (first_long 1 changes) (stop_from changes (tree_of catches))) few
    ∙ (λ j. cause_or (short j) (stop_from changes (tree_found catches tree leads j))))
