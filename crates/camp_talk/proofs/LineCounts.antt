-- Bytes have no more lines than bytes, so each line of a request has a number.
use Rattle.camp_talk.proofs.Words.{◌==◌, ◌≡◌, ◌<◌, ◌≤◌, ◌+◌, ◌-◌, ◌^◌, ℕ, Bool, true, false, List, [], ◌∷◌, length, Some, ap, arith, refl, length-append, flat_map, lines_of, lines-feed, lines-other, onto_first, Exchange, AnswersInOrder, HasAnswered, SessionState}
use Rattle.camp_repo.specs.States.{Contents}
use Rattle.camp_talk.specs.Inside.RequestSteps.{StopsBefore}
use Rattle.camp_talk.specs.Inside.Viewing.{HasAnsweredView, IsUnseen}
use Rattle.camp_talk.specs.Requests.{IsUnanswered}
use Rattle.camp_talk.specs.Views.{SeesAll}
use Rattle.camp_talk.specs.declared.faults.TalkFault.{TalkFault}
use Rattle.camp_talk.specs.declared.faults.TalkFault.TheVariants.{Internal, Memory, Read, Write}

onto_few : (byte : ℕ) (lines : List (List ℕ)) → length (onto_first byte lines) ≤ 1 + length lines
onto_few byte [] = omega arith
onto_few byte (line ∷ lines) = omega arith

pub lines_few : (bytes : List ℕ) → length (lines_of bytes) ≤ length bytes
lines_few [] = omega arith
lines_few (byte ∷ bytes) = at (byte == 10) refl (lines_few bytes)
  where
    at : (b : Bool) → (byte == 10) ≡ b → length (lines_of bytes) ≤ length bytes → length (lines_of (byte ∷ bytes)) ≤ length (byte ∷ bytes)
    at true feed few = omega (arith, ap (λ (ls : List (List ℕ)). length ls) (lines-feed byte bytes feed), few)
    at false other few =
        omega (arith, ap (λ (ls : List (List ℕ)). length ls) (lines-other byte bytes other), onto_few byte (lines_of bytes), few)

abbrev commands : List Exchange → List ℕ
commands exchanges = flat_map (λ (exchange : Exchange). exchange.command) exchanges

-- of commands that were answered one after the other
follow_few : (first : SessionState) (exchanges : List Exchange) (last : SessionState) → AnswersInOrder first exchanges last
    → last.lines ≤ first.lines + length (commands exchanges)
follow_few first [] last follow = omega (arith, ap (λ (s : SessionState). s.lines) follow)
follow_few first (one ∷ exchanges) last (next, is, answers, follow) = omega (
  arith,
  answers.counts,
  lines_few one.command,
  follow_few next exchanges last follow,
  length-append one.command (commands exchanges),
)

-- of commands that were shown one after the other
sees_few : (state : Contents) (first : ℕ) (exchanges : List Exchange) (last : ℕ) → SeesAll state first exchanges last
    → last ≤ first + length (commands exchanges)
sees_few state first [] last sees = omega (arith, sees)
sees_few state first (one ∷ exchanges) last (next, is, seen, sees) = omega (
  arith,
  seen.counts,
  lines_few one.command,
  sees_few state next exchanges last sees,
  length-append one.command (commands exchanges),
)

-- so a request to a state is refused only for memory, or because it could not be read
pub view_unanswered : (state : Contents) (request left rest old held : List ℕ) (lines : ℕ) (why : TalkFault)
    → length request < 2 ^ 64 → HasAnsweredView request left old held state lines → IsUnseen (Some left) (Some rest) lines why → IsUnanswered why
view_unanswered state request left rest old held lines Memory few holds unseen = tt
view_unanswered state request left rest old held lines (Read error) few holds unseen = tt
view_unanswered state request left rest old held lines (Write error) few holds unseen = unseen
view_unanswered state request left rest old held lines Internal few holds unseen = absurd (omega (
  arith,
  few,
  unseen.many,
  lines_few unseen.command,
  sees_few state 0 holds.exchanges lines holds.sees,
  ap (λ (bytes : List ℕ). length bytes) holds.reads,
  length-append (commands holds.exchanges) left,
  ap (λ (bytes : List ℕ). length bytes) unseen.reads,
  length-append unseen.command rest,
))

-- and so is one to a book
module _ (request left rest old held new : List ℕ) (first middle last : SessionState) (starts : first.lines ≡ 0) where
  pub request_unanswered : (why : TalkFault) → length request < 2 ^ 64 - 1 → HasAnswered (Some request) (Some left) (Some old) (Some held) first middle
      → StopsBefore (Some left) (Some rest) held new middle why last → IsUnanswered why
  request_unanswered Memory few holds stops = tt
  request_unanswered (Read error) few holds stops = tt
  request_unanswered (Write error) few holds stops = stops.none
  request_unanswered Internal few holds stops = absurd (omega (
    arith,
    few,
    starts,
    stops.none.many,
    lines_few stops.none.some,
    follow_few first holds.exchanges middle holds.follow,
    ap (λ (bytes : List ℕ). length bytes) holds.reads,
    length-append (commands holds.exchanges) left,
    ap (λ (bytes : List ℕ). length bytes) stops.none.reads,
    length-append stops.none.some rest,
  ))
