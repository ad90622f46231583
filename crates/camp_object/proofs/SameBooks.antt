-- Lemmas on books: when two are the same, and when one is another at a later moment.
use Rattle.std.proofs.Common.{◌≡◌, refl, sym, ◌∙◌, subst}
use Rattle.camp_object.specs.Books.{Booked, IsEarlier}
use Rattle.camp_object.proofs.Beginnings.{begins_self, begins_through}

module _ {State Call : Type 0} where
  -- books that begin with the same state and have the same calls are the same
  pub same_book : (one other : Booked State Call) → one.first ≡ other.first → one.calls ≡ other.calls → one ≡ other
  same_book one other first calls = λ k. record { first = first k; calls = calls k }

  -- a book is itself at a later moment, and so on through a moment between
  pub earlier_self : (book : Booked State Call) → IsEarlier book book
  earlier_self book = record { first = refl; calls = begins_self book.calls }

  pub earlier_same : (before now : Booked State Call) → now ≡ before → IsEarlier before now
  earlier_same before now same = subst (λ (book : Booked State Call). IsEarlier before book) (sym same) (earlier_self before)

  pub earlier_through : {one two three : Booked State Call} → IsEarlier one two → IsEarlier two three → IsEarlier one three
  earlier_through first second =
      record { first = second.first ∙ first.first; calls = begins_through first.calls second.calls }
