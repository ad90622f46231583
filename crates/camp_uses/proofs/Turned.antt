-- What becomes of catches that fit a tree.
use Rattle.camp_uses.proofs.Words.{◌≡◌, List, Option, None, Some, Result, Ok, Err, IfOk, IfSome, refl, FindsPair, Files, MergeLists, Catch}
use Rattle.std.specs.Option.{option_zip}
use Rattle.camp_catch.specs.Catches.{Fits, FitsAll}
use Rattle.camp_catch.specs.Commuting.{CommuteCatch}
use Rattle.camp_catch.specs.Laws.{CommuteKeepsEffects, ListsKeepEffects, CatchMergeIsSymmetric, MergeIsUnique}
use Rattle.camp_catch.specs.Merging.{MergeCatch}

-- a pair that two catches commute to fits where the two fit
pub turned : {E : Type 0} → CommuteKeepsEffects → (j k : Catch) (result : Result (Option (Catch × Catch)) E) → IfOk result (FindsPair (CommuteCatch j k)) → IfOk result (λ found. IfSome found (λ both. (old between new : Files) → Fits j old between → Fits k between new → (other : Files) × Fits both.0 old other × Fits both.1 other new))
turned law j k (Ok None) none = tt
turned law j k (Ok (Some both)) one = law j k both.0 both.1 one
turned law j k (Err why) none = tt

-- a list that is merged fits after the other one
pub fits_after : ListsKeepEffects → (ours theirs merged rest : List Catch) → MergeLists theirs ours merged rest → (old left right : Files) → FitsAll ours old left → FitsAll theirs old right → (new : Files) × FitsAll merged left new
fits_after law ours theirs merged rest gives old left right first second =
    let (new, fits, other) = law.merged theirs ours merged rest gives old left right first second in
    (new, fits)

-- the values of two results are the value of each of them
pub each_has_value : {T E : Type 0} → (here value : Option T) (there : Result (Option T) E) → there ≡ Ok value → IfSome (option_zip here value) (λ pair. (here ≡ Some pair.0) × (there ≡ Ok (Some pair.1)))
each_has_value None value there e = tt
each_has_value (Some one) None there e = tt
each_has_value (Some one) (Some other) there e = (refl, e)

-- what two catches become after each other is the same, whichever is asked first
pub agreed : {E : Type 0} → CatchMergeIsSymmetric → MergeIsUnique → (j k : Catch) (here : Option (Catch × Catch)) (there : Result (Option (Catch × Catch)) E) (found : Result (Option ((Catch × Catch) × (Catch × Catch))) E) → FindsPair (MergeCatch j k) here → IfOk there (FindsPair (MergeCatch k j)) → IfOk found (λ value. IfSome value (λ pair. (here ≡ Some pair.0) × (there ≡ Ok (Some pair.1)))) → IfOk found (λ value. IfSome value (λ both. (both.0.0 ≡ both.1.1) × (both.0.1 ≡ both.1.0)))
agreed symmetric unique j k here there (Err why) one other are = tt
agreed symmetric unique j k here there (Ok None) one other are = tt
agreed symmetric unique j k here there (Ok (Some (a, b))) one other are =
    let first : MergeCatch j k a.0 a.1 = rw are.0 at one in
    let second : MergeCatch k j b.0 b.1 = rw are.1 at other in
    let same = unique k j a.1 a.0 b.0 b.1 (symmetric j k a.0 a.1 first) second in
    (same.1, same.0)
