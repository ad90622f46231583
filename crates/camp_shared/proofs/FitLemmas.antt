-- How many requests fit into one entry.
use Rattle.std.proofs.Common.{◌≡◌, ℕ, zero, suc, ◌+◌, ◌-◌, ◌<◌, ◌≤◌, List, [], ◌∷◌, ◌++◌, length, take, drop, get_or, refl, sym, ap, ◌∙◌, arith}
use Rattle.std.specs.List.{AllByRecursion}
use Rattle.std.proofs.lemmas.List.{take_more}
use Rattle.camp_call.specs.declared.calls.Call.{Call}
use Rattle.camp_entries.specs.Texts.{noted_text}
use Rattle.camp_entries.proofs.BodyLemmas.{all_from, drop_at}
use Rattle.camp_member.specs.Notes.{WithNote}
use Rattle.camp_member.specs.declared.requests.Request.{Request}
use Rattle.camp_shared.specs.Inside.{AreFitting, CanBeAsked, bytes_asked}
use Rattle.camp_shared.specs.Sharing.{most_bytes_of_calls}
use Rattle.camp_shared.proofs.RoomLemmas.{bytes_push}

-- the request at an index of those that can be asked
pub can_at : (waiting : List (Request (WithNote Call))) (index : ℕ) (request : Request (WithNote Call)) → index < length waiting → request ≡ get_or waiting index request → AllByRecursion CanBeAsked waiting → CanBeAsked request
can_at waiting index request inside at all = all_from CanBeAsked waiting index request (drop (index + 1) waiting) (drop_at waiting index request inside at) all

-- the texts of this many first requests have this many bytes, and fit in one entry
pub record AreCounted (waiting : List (Request (WithNote Call))) (count bytes : ℕ) : Type 0 where
  pub within : count ≤ length waiting
  pub are : bytes ≡ bytes_asked (take count waiting)
  pub few : bytes ≤ most_bytes_of_calls

pub none_counted : (waiting : List (Request (WithNote Call))) → AreCounted waiting 0 0
none_counted waiting = record { within = omega arith; are = refl; few = omega arith }

module _ (waiting : List (Request (WithNote Call))) (count bytes : ℕ) (counted : AreCounted waiting count bytes) where
  pub one_more : (request : Request (WithNote Call)) (len : ℕ) → count < length waiting → request ≡ get_or waiting count request → len ≡ length (noted_text request.call) → len ≤ most_bytes_of_calls - bytes → AreCounted waiting (count + 1) (bytes + len)
  one_more request len inside at is fits =
      let before = counted.are in
      let few = counted.few in
      let taken : take (count + 1) waiting ≡ take count waiting ++ request ∷ [] = take_more waiting count request inside ∙ ap (λ (r : Request (WithNote Call)). take count waiting ++ r ∷ []) (sym at) in
      let next = ap bytes_asked taken in
      let pushed = bytes_push (take count waiting) request in
      record {
        within = omega (arith, inside);
        are = omega (arith, before, next, pushed, is);
        few = omega (arith, few, fits);
      }

  together : bytes_asked (take count waiting) ≤ most_bytes_of_calls
  together = let is = counted.are in let few = counted.few in omega (arith, is, few)

  pub full : 0 < count → AreFitting waiting count
  full some = record { within = counted.within; together = together; some = λ _. some }

  pub no_more : (request : Request (WithNote Call)) (len : ℕ) → AllByRecursion CanBeAsked waiting → count < length waiting → request ≡ get_or waiting count request → len ≡ length (noted_text request.call) → most_bytes_of_calls - bytes < len → AreFitting waiting count
  no_more request len all inside at is over = record { within = counted.within; together = together; some = λ _. positive count refl }
    where
      can : CanBeAsked request
      can = can_at waiting count request inside at all

      positive : (n : ℕ) → n ≡ count → 0 < n
      positive zero none =
          let short = can.1 in
          let bytes_is : bytes ≡ 0 = counted.are ∙ ap (λ k. bytes_asked (take k waiting)) (sym none) in
          absurd (omega (arith, short, is, over, bytes_is))
      positive (suc n) none = omega arith

  pub all_counted : length waiting ≤ count → AreFitting waiting count
  all_counted end = record { within = counted.within; together = together; some = λ some. omega (arith, some, end) }
