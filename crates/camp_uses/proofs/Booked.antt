-- What an answer says of a book that one caller owns.
use Rattle.camp_uses.proofs.Words.{◌≡◌, ℕ, List, [], ◌∷◌, ◌++◌, Result, Ok, Err, refl, subst, Call, Reply, Done, Fault, Memory, Busy, Full, repository}
use Rattle.camp_object.proofs.SameBooks.{same_book}
use Rattle.camp_object.specs.Books.{AsksBook, Booked}
use Rattle.camp_repo.specs.States.{Contents}
use Rattle.camp_uses.specs.BookCalls.{Leaves, booked_call}

pub left : (seat : ℕ) (old new : Booked Contents Call) (call : Call) (answer : Result Reply Fault) → AsksBook repository seat old call answer new → Leaves seat old call answer new
left seat old new call (Ok (Done at)) asks = (
  asks.asks.says.position,
  same_book new (booked_call old seat call) asks.first (subst (λ (before : List (ℕ × Call)). new.calls ≡ before ++ (seat, call) ∷ []) (asks.asks.says.exact refl) asks.asks.says.ends),
)
left seat old new call (Ok other) asks = same_book new old asks.first (asks.asks.says.0.exact refl)
left seat old new call (Err Memory) asks = same_book new old asks.first (asks.asks.says.exact refl)
left seat old new call (Err (Busy lost)) asks = let bad = asks.asks.says.not_alone in cc
left seat old new call (Err Full) asks = let bad = asks.asks.says.not_alone in cc
