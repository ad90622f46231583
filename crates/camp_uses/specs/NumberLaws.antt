-- The list of numbers is an object.
use Rattle.std.proofs.Common.{◌≡◌, ℕ, ◌+◌, Bool, true, false, List, [], ◌∷◌, ◌++◌, length}
use Rattle.std.proofs.Common.{None, Some, refl, ap, ◌∙◌, if◌then◌else◌}
use Rattle.std.proofs.lemmas.List.{length_push}
use Rattle.camp_object.specs.Objects.{IsLawfulObject}
use Rattle.camp_uses.specs.NumberList.{numbers_object, inserted, has_number, is_insert, position_of, NumberReplies}
use Rattle.camp_uses.specs.declared.numbers.NumberCall.{NumberCall}
use Rattle.camp_uses.specs.declared.numbers.NumberCall.TheVariants.{Insert, Show}
use Rattle.camp_uses.specs.declared.numbers.NumberReply.{NumberReply}
use Rattle.camp_uses.specs.declared.numbers.NumberReply.TheVariants.{Done, Present, Shown}

-- after an insertion the list is one longer
longer : (numbers next : List ℕ) (number : ℕ) (present : Bool)
    → (if present then None else Some (numbers ++ number ∷ [])) ≡ Some next
    → length next ≡ length numbers + 1
longer numbers next number true is = cc
longer numbers next number false is =
    let same : next ≡ numbers ++ number ∷ [] = cc in
    ap length same ∙ length_push numbers number

counts : (numbers : List ℕ) (call : NumberCall) (next : List ℕ)
    → inserted numbers call ≡ Some next → length next ≡ length numbers + 1
counts numbers (Insert number) next is = longer numbers next number (has_number numbers number) is
counts numbers Show next is = cc

writes : (numbers : List ℕ) (call : NumberCall) (next : List ℕ)
    → inserted numbers call ≡ Some next → is_insert call ≡ true
writes numbers (Insert number) next is = refl
writes numbers Show next is = cc

tells_exactly : (reply : NumberReply) (at : ℕ) → position_of reply ≡ Some at → reply ≡ Done at
tells_exactly (Done other) at is = cc
tells_exactly Present at is = cc
tells_exactly (Shown numbers) at is = cc

tells_none : (numbers : List ℕ) (call : NumberCall) (reply : NumberReply)
    → NumberReplies numbers call reply → position_of reply ≡ None
tells_none numbers (Insert number) reply is = ap position_of is
tells_none numbers Show (Done at) shows = absurd shows
tells_none numbers Show Present shows = refl
tells_none numbers Show (Shown list) shows = refl

pub numbers_are_lawful : IsLawfulObject numbers_object
numbers_are_lawful = record {
  starts = refl;
  counts = counts;
  begins = refl;
  stays = λ _ _ _ _. refl;
  writes = writes;
  tells = λ _. refl;
  tells_exactly = tells_exactly;
  tells_none = tells_none;
}
