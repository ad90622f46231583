-- The line `end` of a body with a fault.
use Rattle.camp_script.proofs.Common.{arith, nat_tests, ◌≡◌, ℕ, Bool, true, false, List, [], ◌∷◌, ◌++◌, ◌==◌, length, if◌then◌else◌, refl, ap, Result, Ok, Err, Primitive, Hunk, LineFault, ScriptFault, Line, Memory, ◌>>=◌, ended_edit, IsFaultFirst, HasNoFault, OpenEdit, OpenRecord, Progress, after_change}
use Rattle.camp_script.specs.Inside.Asking.{ended_change}
use Rattle.camp_script.specs.Inside.Steps.{after_end}

-- one more change is at least one
pub has_one : (changes : List Primitive) (change : Primitive) → (length (changes ++ change ∷ []) == 0) ≡ false
has_one [] change = refl
has_one (other ∷ changes) change = grind (arith, nat_tests)

one_of_two : {A : Type 0} (grouped empty : Bool) (going closed : A) (fault : LineFault) → empty ≡ false → HasNoFault (if grouped then Ok going else (if empty then Err fault else Ok closed))
one_of_two true empty going closed fault is = tt
one_of_two false true going closed fault is = absurd cc
one_of_two false false going closed fault is = tt

-- a change whose last line this is has no fault of its own
change_ends : (line : ℕ) (progress : Progress) (begun : OpenRecord) (change : Primitive) → HasNoFault (after_change line progress begun change)
change_ends line progress begun change = one_of_two begun.grouped _ _ _ _ (has_one begun.changes change)

fails_first : (line : ℕ) (progress : Progress) (begun : OpenRecord) (body : Result _ LineFault) (fault : ScriptFault)
    → IsFaultFirst fault (body >>= λ edit. Ok (Hunk edit)) → IsFaultFirst fault (body >>= λ edit. after_change line progress begun (Hunk edit))
fails_first line progress begun (Ok edit) (Line fault) is = absurd cc
fails_first line progress begun (Ok edit) Memory is = change_ends line progress begun (Hunk edit)
fails_first line progress begun (Err told) (Line fault) is = let same : told ≡ fault = cc in ap Err same
fails_first line progress begun (Err told) Memory is = is

-- a fault of the body is one of the line
pub end_fails : (line : ℕ) (progress : Progress) (begun : OpenRecord) (edit : OpenEdit) (fault : ScriptFault) → IsFaultFirst fault (ended_change line edit.edit) → IsFaultFirst fault (after_end line progress begun edit)
end_fails line progress begun edit fault is = fails_first line progress begun (ended_edit line edit.edit) fault is
