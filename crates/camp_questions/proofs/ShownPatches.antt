-- A patch as it is in the state after its record.
use Rattle.camp_questions.proofs.Words.{◌≡◌, ℕ, ◌+◌, false, ◌||◌, cond, List, [], ◌∷◌, ◌++◌, bytes_eq, refl, ap, ◌∙◌, Primitive, Catch, catches_named, accepted_calls, changes_of, stands, RecordedIsShown, name_itself, or_parts, has_patch, is_among, name_of, recorded, filter-append, other_way}
use Rattle.camp_call.specs.declared.calls.Call.TheVariants as call
use Rattle.camp_repo.proofs.AcceptedSteps.{has_branch, passes}
use Rattle.camp_repo.proofs.RecordSteps.{is_new}
use Rattle.camp_questions.proofs.MissingNames.{same_catches}

-- a branch without a patch has no catch of it
none_named : (old : List Catch) (name : List ℕ) → has_patch old name ≡ false → catches_named (name ∷ []) old ≡ []
none_named [] name free = refl
none_named (k ∷ old) name free =
    let parts = or_parts (bytes_eq name (name_of k)) (has_patch old name) free in
    ap (λ b. cond (b || false) (k ∷ catches_named (name ∷ []) old) (catches_named (name ∷ []) old)) (other_way name (name_of k) parts.0) ∙ none_named old name parts.1

-- all catches of a record are of its patch
all_named : (name : List ℕ) (place : ℕ) (changes : List Primitive) → catches_named (name ∷ []) (recorded name place changes) ≡ recorded name place changes
all_named name place [] = refl
all_named name place (change ∷ changes) =
    let rest : List Catch = catches_named (name ∷ []) (recorded name (place + 1) changes) in
    ap (λ b. cond (b || false) (recorded name place (change ∷ []) ++ rest) rest) (name_itself name) ∙ ap (λ t. recorded name place (change ∷ []) ++ t) (all_named name (place + 1) changes)

-- and their changes are those that were recorded
same_changes : (name : List ℕ) (place : ℕ) (changes : List Primitive) → changes_of (recorded name place changes) ≡ changes
same_changes name place [] = refl
same_changes name place (change ∷ changes) = ap (λ t. change ∷ t) (same_changes name (place + 1) changes)

shown_alone : (old : List Catch) (name : List ℕ) (changes : List Primitive) → has_patch old name ≡ false → catches_named (name ∷ []) (old ++ recorded name 1 changes) ≡ recorded name 1 changes
shown_alone old name changes free =
    filter-append (λ k. is_among (name ∷ []) (name_of k)) old (recorded name 1 changes)
    ∙ (λ i. none_named old name free i ++ all_named name 1 changes i)

pub recorded_is_shown : RecordedIsShown
recorded_is_shown state next branch name changes catches lawful e has =
    let there = has_branch state next branch _ e in
    let free = passes state next (stands state.branches name) _ _ there.2 in
    let records = accepted_calls state (call.Record branch name changes) next lawful e in
    let old = records.catches in
    let is : catches ≡ old ++ recorded name 1 changes = same_catches has records.becomes in
    let named : catches_named (name ∷ []) catches ≡ recorded name 1 changes = ap (catches_named (name ∷ [])) is ∙ shown_alone old name changes (is_new state branch name old records.was free.0) in
    λ i. record { catches = named i; changes = (ap changes_of named ∙ same_changes name 1 changes) i }
