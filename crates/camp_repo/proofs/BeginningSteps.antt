-- What is known of common prefixes still holds when branches grow.
use Rattle.camp_repo.proofs.Words.{◌≡◌, ℕ, zero, suc, List, [], ◌∷◌, ◌++◌, length, slice_get, slice_set, Some, Result, Ok, Err, IfOk, refl, sym, ap, ◌∙◌, subst, append-nil, all_append, none-some, same_Some, Catch, Agree, AgreesIn, AllHold, catches_in, placed, Branches, AllByRecursion, remove, agree_grown, agree_itself}
use Rattle.std.proofs.lemmas.List.Elements.{All-from_recursion, All-set, recursion_from_All}
use Rattle.camp_repo.specs.declared.beginnings.KnownBeginning.{KnownBeginning}

all_but_first : {X : Type 0} (P : X → Type 0) (xs : List X) → AllByRecursion P xs → AllByRecursion P (remove xs 0)
all_but_first P [] all = tt
all_but_first P (x ∷ xs) all = all.1

-- all still to come hold where all do
abbrev pub RestHold : List KnownBeginning → List KnownBeginning → Type 0
RestHold all rest = (branches : List (List Catch)) → AllByRecursion (AgreesIn branches) all → AllByRecursion (AgreesIn branches) rest

pub rest_more : (all rest more : List KnownBeginning) (beginning : KnownBeginning) → RestHold all rest → rest ≡ beginning ∷ more → RestHold all more
rest_more all rest more beginning hold steps branches w =
    let now = subst (AllByRecursion (AgreesIn branches)) steps (hold branches w) in
    now.1

-- the prefixes of two branches agree, for the length known of their pair
pub known_agrees : (all rest more : List KnownBeginning) (beginning : KnownBeginning) (from to : ℕ) → RestHold all rest → rest ≡ beginning ∷ more → beginning.from ≡ from → beginning.to ≡ to → (branches : List (List Catch)) → AllByRecursion (AgreesIn branches) all → (theirs ours : List Catch) → slice_get branches from ≡ Some theirs → slice_get branches to ≡ Some ours → Agree theirs ours beginning.long
known_agrees all rest more beginning from to hold steps is is_too branches w theirs ours there here =
    let now = subst (AllByRecursion (AgreesIn branches)) steps (hold branches w) in
    let found = now.0 in
    let one = same_Some found.theirs theirs (sym found.from_is ∙ ap (slice_get branches) is ∙ there) in
    let other = same_Some found.ours ours (sym found.to_is ∙ ap (slice_get branches) is_too ∙ here) in
    subst (λ l. Agree l ours beginning.long) one (subst (λ l. Agree found.theirs l beginning.long) other found.agree)

-- a branch at an index, and the same branch after the one at another index has grown
grown_at : (branches : Branches) (place i : ℕ) (old more b : List Catch) → slice_get (catches_in branches) place ≡ Some old → slice_get (catches_in branches) i ≡ Some b → (x : List Catch) × (slice_get (catches_in (placed branches place (old ++ more))) i ≡ Some (b ++ x))
grown_at [] place i old more b is at = absurd (none-some b at)
grown_at (h ∷ bs) zero zero old more b is at =
    (more, ap (λ l. Some (l ++ more)) (same_Some old b (sym is ∙ at)))
grown_at (h ∷ bs) zero (suc i) old more b is at = ([], at ∙ ap Some (sym (append-nil b)))
grown_at (h ∷ bs) (suc place) zero old more b is at = ([], at ∙ ap Some (sym (append-nil b)))
grown_at (h ∷ bs) (suc place) (suc i) old more b is at = grown_at bs place i old more b is at

further_at : (branches : Branches) (new : List ℕ × List Catch) (i : ℕ) (b : List Catch) → slice_get (catches_in branches) i ≡ Some b → slice_get (catches_in (branches ++ new ∷ [])) i ≡ Some b
further_at [] new i b at = absurd (none-some b at)
further_at (h ∷ bs) new zero b at = at
further_at (h ∷ bs) new (suc i) b at = further_at bs new i b at

agrees_grown : (branches : Branches) (place : ℕ) (old more : List Catch) → slice_get (catches_in branches) place ≡ Some old → (known : KnownBeginning) → AgreesIn (catches_in branches) known → AgreesIn (catches_in (placed branches place (old ++ more))) known
agrees_grown branches place old more is known w =
    let one = grown_at branches place known.from old more w.theirs is w.from_is in
    let other = grown_at branches place known.to old more w.ours is w.to_is in
    record {
      theirs = w.theirs ++ one.0;
      ours = w.ours ++ other.0;
      from_is = one.1;
      to_is = other.1;
      agree = agree_grown w.theirs w.ours one.0 other.0 known.long w.agree;
    }

pub all_grown : (branches : Branches) (place : ℕ) (old more : List Catch) → slice_get (catches_in branches) place ≡ Some old → (all : List KnownBeginning) → AllHold branches all → AllHold (placed branches place (old ++ more)) all
all_grown branches place old more is [] w = tt
all_grown branches place old more is (known ∷ all) w =
    (agrees_grown branches place old more is known w.0, all_grown branches place old more is all w.1)

pub all_further : (branches : Branches) (new : List ℕ × List Catch) (all : List KnownBeginning) → AllHold branches all → AllHold (branches ++ new ∷ []) all
all_further branches new [] w = tt
all_further branches new (known ∷ all) w =
    let first = w.0 in (
      record {
        theirs = first.theirs;
        ours = first.ours;
        from_is = further_at branches new known.from first.theirs first.from_is;
        to_is = further_at branches new known.to first.ours first.to_is;
        agree = first.agree;
      },
      all_further branches new all w.1,
    )

-- what is known of a branch holds of its copy
pub from_copy : (branches : List (List Catch)) (known : KnownBeginning) (of copy : ℕ) → known.from ≡ of → AgreesIn branches known → slice_get branches copy ≡ slice_get branches of → AgreesIn branches (record { from = copy; to = known.to; long = known.long })
from_copy branches known of copy is w same =
    record { theirs = w.theirs; ours = w.ours; from_is = same ∙ ap (slice_get branches) (sym is) ∙ w.from_is; to_is = w.to_is; agree = w.agree }

pub to_copy : (branches : List (List Catch)) (known : KnownBeginning) (of copy : ℕ) → known.to ≡ of → AgreesIn branches known → slice_get branches copy ≡ slice_get branches of → AgreesIn branches (record { from = known.from; to = copy; long = known.long })
to_copy branches known of copy is w same =
    record { theirs = w.theirs; ours = w.ours; from_is = w.from_is; to_is = same ∙ ap (slice_get branches) (sym is) ∙ w.to_is; agree = w.agree }

-- all of these hold where all do that are known, and a branch has a copy
abbrev pub CopyHolds : List KnownBeginning → ℕ → ℕ → List KnownBeginning → Type 0
CopyHolds known of copy rest = (branches : List (List Catch)) → AllByRecursion (AgreesIn branches) known → slice_get branches copy ≡ slice_get branches of → AllByRecursion (AgreesIn branches) rest

last_at : (branches : Branches) (name : List ℕ) (catches : List Catch) → slice_get (catches_in (branches ++ (name, catches) ∷ [])) (length branches) ≡ Some catches
last_at [] name catches = refl
last_at (branch ∷ branches) name catches = last_at branches name catches

-- a copy of a branch, which comes last, agrees with it
pub all_copied : (branches : Branches) (name : List ℕ) (of copy long : ℕ) (catches : List Catch) → slice_get (catches_in branches) of ≡ Some catches → copy ≡ length branches → long ≡ length catches → (known : List KnownBeginning) → AllHold branches known → (all : List KnownBeginning)
    → ((copied : List (List Catch)) → AllByRecursion (AgreesIn copied) known → slice_get copied copy ≡ slice_get copied of → AgreesIn copied (record { from = of; to = copy; long = long }) → AgreesIn copied (record { from = copy; to = of; long = long }) → AllByRecursion (AgreesIn copied) all)
    → AllHold (branches ++ (name, catches) ∷ []) all
all_copied branches name of copy long catches at behind whole known w all then_all =
    let more = catches_in (branches ++ (name, catches) ∷ []) in
    let old = further_at branches (name, catches) of catches at in
    let new = ap (slice_get more) behind ∙ last_at branches name catches in
    let same = subst (Agree catches catches) (sym whole) (agree_itself catches) in
    then_all more (all_further branches (name, catches) known w) (new ∙ sym old)
    (record { theirs = catches; ours = catches; from_is = old; to_is = new; agree = same })
    (record { theirs = catches; ours = catches; from_is = new; to_is = old; agree = same })

-- a fact that holds of all elements of a list, and of one more
abbrev pub HoldWithOne : {E : Type 0} → List KnownBeginning → KnownBeginning → Result (List KnownBeginning) E → Type 0
HoldWithOne {E} known beginning result =
    IfOk result (λ all. (branches : List (List Catch)) → AllByRecursion (AgreesIn branches) known → AgreesIn branches beginning → AllByRecursion (AgreesIn branches) all)

pub replaced_hold : {E : Type 0} (known : List KnownBeginning) (i : ℕ) (beginning : KnownBeginning) (result : Result (List KnownBeginning) E) → IfOk result (λ list. list ≡ slice_set known i beginning) → HoldWithOne known beginning result
replaced_hold known i beginning (Ok all) is = λ branches w new.
    subst (AllByRecursion (AgreesIn branches)) (sym is) (recursion_from_All (AgreesIn branches) (slice_set known i beginning) (All-set (AgreesIn branches) known i beginning new (All-from_recursion (AgreesIn branches) known w)))
replaced_hold known i beginning (Err error) is = tt

pub removed_hold : (known others : List KnownBeginning) → others ≡ remove known 0 → RestHold known others
removed_hold known others is branches w = subst (AllByRecursion (AgreesIn branches)) (sym is) (all_but_first (AgreesIn branches) known w)

pub pushed_hold : {E : Type 0} (known others : List KnownBeginning) (beginning : KnownBeginning) → RestHold known others → (result : Result (List KnownBeginning) E) → IfOk result (λ list. list ≡ others ++ beginning ∷ []) → HoldWithOne known beginning result
pushed_hold known others beginning hold (Ok all) is = λ branches w new.
    subst (AllByRecursion (AgreesIn branches)) (sym is) (all_append (AgreesIn branches) others (beginning ∷ []) (hold branches w) (new, tt))
pushed_hold known others beginning hold (Err error) is = tt

-- at first nothing is known
pub none_hold : (branches : Branches) (all : List KnownBeginning) → all ≡ [] → AllHold branches all
none_hold branches all is = subst (AllHold branches) (sym is) tt
