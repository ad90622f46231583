-- A list of numbers that takes each number once.
use Rattle.std.specs.Prelude.{◌≡◌, ℕ, Bool, true, false, List, [], ◌∷◌, ◌++◌, length}
use Rattle.std.specs.Prelude.{Option, None, Some, IsSomeAnd, ◌==◌, if◌then◌else◌}
use Rattle.std.specs.List.{list_any}
use Rattle.camp_object.specs.Objects.{Sequential}
use Rattle.camp_uses.specs.declared.numbers.NumberCall.{NumberCall}
use Rattle.camp_uses.specs.declared.numbers.NumberCall.TheVariants.{Insert, Show}
use Rattle.camp_uses.specs.declared.numbers.NumberReply.{NumberReply}
use Rattle.camp_uses.specs.declared.numbers.NumberReply.TheVariants.{Done, Present, Shown}

-- whether a number is in the list
abbrev pub has_number : List ℕ → ℕ → Bool
has_number numbers number = list_any (λ n. n == number) numbers

-- the decision on a call: a number that is not in the list is appended; any other call is not accepted
abbrev pub inserted : List ℕ → NumberCall → Option (List ℕ)
inserted numbers (Insert number) = if has_number numbers number then None else Some (numbers ++ number ∷ [])
inserted numbers Show = None

-- the numbers in a reply; none if it shows none
abbrev pub numbers_in : NumberReply → Option (List ℕ)
numbers_in (Shown numbers) = Some numbers.items
numbers_in other = None

-- the reply to a call that is not accepted: the refusal of a number that is there, or the numbers for a question
abbrev pub NumberReplies : List ℕ → NumberCall → NumberReply → Type 0
NumberReplies numbers (Insert number) reply = reply ≡ Present
NumberReplies numbers Show reply = IsSomeAnd (numbers_in reply) (λ shown. shown ≡ numbers)

abbrev pub is_insert : NumberCall → Bool
is_insert (Insert number) = true
is_insert Show = false

abbrev pub position_of : NumberReply → Option ℕ
position_of (Done at) = Some at
position_of other = None

-- the list as an object
abbrev pub numbers_object : Sequential (List ℕ) NumberCall NumberReply
numbers_object = record {
  initial = [];
  after = inserted;
  answers = NumberReplies;
  first = λ _. [];
  count = length;
  is_writing = is_insert;
  done = Done;
  done_at = position_of;
}
