-- The results of changes that may fail, and of searches.
use Rattle.std.specs.Prelude.{◌≡◌, Bool, true, false, Option, None, Some, Result, Ok, Err}
use Rattle.camp_base.specs.declared.faults.Apply.{Apply}
use Rattle.camp_base.specs.declared.faults.Apply.TheVariants.{DoesNotApply, Memory}

-- Ok: the change leads from the old value to the new one. DoesNotApply: it leads nowhere from the old value. Memory: it
-- would apply, but memory ran out. After an error the value is unchanged.
abbrev pub Answers : {S : Type 0} → (S → S → Type 0) → S → Result (Unit {0}) Apply → S → Type 0
Answers Change old (Ok done) new = Change old new
Answers Change old (Err DoesNotApply) new = ((any : _) → ¬ (Change old any)) × (new ≡ old)
Answers Change old (Err Memory) new = ((any : _) × Change old any) × (new ≡ old)

-- `Answers` for a change that has to be tried, which allocates, to find whether it applies: any result may be out of
-- memory instead
abbrev pub AnswersByTrial : {S : Type 0} → (S → S → Type 0) → S → Result (Unit {0}) Apply → S → Type 0
AnswersByTrial Change old (Ok done) new = Change old new
AnswersByTrial Change old (Err DoesNotApply) new = ((any : _) → ¬ (Change old any)) × (new ≡ old)
AnswersByTrial Change old (Err Memory) new = new ≡ old

-- true: the change leads from the old value to the new one. false: it leads nowhere, and the value is unchanged
abbrev pub Changes : {S : Type 0} → (S → S → Type 0) → S → Bool → S → Type 0
Changes Change old true new = Change old new
Changes Change old false new = ((any : _) → ¬ (Change old any)) × (new ≡ old)

-- Some: a value that is in the relation. None: no value is in the relation
abbrev pub Finds : {X : Type 0} → (X → Type 0) → Option X → Type 0
Finds Result None = (any : _) → ¬ (Result any)
Finds Result (Some found) = Result found

-- `Finds` for a pair of values
abbrev pub FindsPair : {X Y : Type 0} → (X → Y → Type 0) → Option (X × Y) → Type 0
FindsPair Results found = Finds (λ pair. Results pair.0 pair.1) found
