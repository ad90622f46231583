-- An entry has room for what a member is asked.
use Rattle.std.proofs.Common.{◌≡◌, ℕ, Bool, true, false, zero, suc, ◌+◌, ◌^◌, ◌<◌, ◌≤◌, ◌==◌, if◌then◌else◌, List, [], ◌∷◌, ◌++◌, length, take, refl, sym, ap, subst, ◌∙◌, arith, length-append}
use Rattle.std.specs.List.{AllByRecursion, flat_map}
use Rattle.std.proofs.lemmas.Bool.{eqb-true}
use Rattle.std.proofs.lemmas.Fmt.{length-decimal-le}
use Rattle.std.proofs.lemmas.List.Concat.{flat_map-cons}
use Rattle.camp_call.specs.declared.calls.Call.{Call}
use Rattle.camp_call.specs.declared.replies.Reply.{Reply}
use Rattle.camp_entries.specs.Texts.{CanBeLogged, IsNoted, noted_text, text_of_head}
use Rattle.camp_entries.proofs.HeadLemmas.{head_long, long}
use Rattle.camp_member.specs.Entries.{IsEntry, Tagged}
use Rattle.camp_member.specs.Members.{calls_asked}
use Rattle.camp_member.specs.Notes.{WithNote}
use Rattle.camp_member.specs.Telling.{MemberAdvances, requests_in}
use Rattle.camp_member.specs.declared.requests.NoReply.{NoReply}
use Rattle.camp_member.specs.declared.requests.Request.{Request}
use Rattle.camp_object.specs.Objects.{Sequential}
use Rattle.camp_repo.specs.States.{Contents}
use Rattle.camp_shared.specs.Inside.{AreFitting, CanBeAsked, HasRoomForTexts, bytes_asked}
use Rattle.camp_shared.specs.Sharing.{Sharing, most_bytes_of_calls}

abbrev Asked : Type 0
Asked = Request (WithNote Call)

-- ---- each of some requests

pub all_rest : {X : Type 0} (P : X → Type 0) (first rest : List X) → AllByRecursion P (first ++ rest) → AllByRecursion P rest
all_rest P [] rest all = all
all_rest P (x ∷ first) rest all = all_rest P first rest all.1

pub all_push : {X : Type 0} (P : X → Type 0) (xs : List X) (x : X) → AllByRecursion P xs → P x → AllByRecursion P (xs ++ x ∷ [])
all_push P [] x all is = (is, tt)
all_push P (y ∷ xs) x all is = (all.0, all_push P xs x all.1 is)

pub noted_first : (count : ℕ) (requests : List Asked) → AllByRecursion CanBeAsked requests → AllByRecursion IsNoted (calls_asked (take count requests))
noted_first zero requests all = tt
noted_first (suc count) [] all = tt
noted_first (suc count) (request ∷ requests) all = (all.0.0, noted_first count requests all.1)

-- ---- the bytes of requests

pub bytes_cons : (request : Asked) (requests : List Asked) → bytes_asked (request ∷ requests) ≡ length (noted_text request.call) + bytes_asked requests
bytes_cons request requests =
    ap (λ (t : List ℕ). length t) (flat_map-cons noted_text request.call (calls_asked requests)) ∙ length-append (noted_text request.call) (flat_map noted_text (calls_asked requests))

pub bytes_less : (few most : ℕ) (requests : List Asked) → few ≤ most → bytes_asked (take few requests) ≤ bytes_asked (take most requests)
bytes_less zero most requests less = omega arith
bytes_less (suc few) zero requests less = absurd (omega (arith, less))
bytes_less (suc few) (suc most) [] less = omega arith
bytes_less (suc few) (suc most) (request ∷ requests) less =
    let shorter = bytes_less few most requests (omega (arith, less)) in
    let one = bytes_cons request (take few requests) in
    let two = bytes_cons request (take most requests) in
    omega (arith, shorter, one, two)

pub bytes_push : (requests : List Asked) (request : Asked) → bytes_asked (requests ++ request ∷ []) ≡ bytes_asked requests + length (noted_text request.call)
bytes_push [] request = let one = bytes_cons request [] in omega (arith, one)
bytes_push (first ∷ requests) request =
    let one = bytes_cons first (requests ++ request ∷ []) in
    let two = bytes_cons first requests in
    let rest = bytes_push requests request in
    omega (arith, one, two, rest)

at_most : (sent count : ℕ) (none : Bool) → (none ≡ true → count ≡ 0) → 0 < count → sent ≤ (if none then 1 else count) → sent ≤ count
at_most sent count true is some few = let zero_is = is refl in absurd (omega (arith, zero_is, some))
at_most sent count false is some few = few

-- as many as fit, and one if none does: there is no more than one that does not fit alone
pub fit_together : (waiting : List Asked) (count sent : ℕ) → AreFitting waiting count → sent ≤ (if count == 0 then 1 else count) → bytes_asked (take sent waiting) ≤ most_bytes_of_calls
fit_together [] count zero fits few = omega arith
fit_together [] count (suc sent) fits few = omega arith
fit_together (request ∷ waiting) zero sent fits few = let some = fits.some (omega arith) in absurd (omega (arith, some))
fit_together (request ∷ waiting) (suc count) sent fits few =
    let together = fits.together in
    let less = bytes_less sent (suc count) (request ∷ waiting) (at_most sent (suc count) (suc count == 0) (λ e. eqb-true (suc count) 0 e) (omega arith) few) in
    omega (arith, together, less)

-- ---- an entry to append

head_len : (seat number : ℕ) → number < 2 ^ 64 → length (text_of_head seat number) ≤ 60
head_len seat number small =
    let line = long seat number [] (text_of_head seat number ++ []) small refl in
    let head = head_long seat number [] (text_of_head seat number ++ []) small refl in
    let digits = length-decimal-le 20 number (omega arith) (omega (arith, small)) small in
    omega (arith, line, head, digits)

pub logged : (entry : Tagged (WithNote Call)) → entry.seat < 2 ^ 128 → entry.number < 2 ^ 64 → IsEntry entry → AllByRecursion IsNoted entry.calls → length (flat_map noted_text entry.calls) ≤ most_bytes_of_calls → CanBeLogged entry
logged entry seat number is calls short = record {
  seat = seat;
  number = number;
  is = is;
  calls = calls;
  short =
      let all = length-append (text_of_head entry.seat entry.number) (flat_map noted_text entry.calls) in
      let head = head_len entry.seat entry.number number in
      omega (arith, all, head, short);
}

-- ---- what a member keeps

-- the requests that wait after some were answered
pub each_after : (object : Sequential Contents (WithNote Call) Reply) (may : Asked → NoReply → Type 0) (old new : Sharing) → AllByRecursion CanBeAsked old.waiting → MemberAdvances object may old new → AllByRecursion CanBeAsked new.waiting
each_after object may old new each goes = all_rest CanBeAsked (requests_in goes.told) new.waiting (subst (λ (list : List Asked). AllByRecursion CanBeAsked list) goes.waiting each)

-- a member without an entry under way, after some requests were answered
pub room_alone : (object : Sequential Contents (WithNote Call) Reply) (may : Asked → NoReply → Type 0) (old new : Sharing) → HasRoomForTexts old → MemberAdvances object may old new → new.sent ≡ 0 → new.reading.index + 1 < 2 ^ 64 → HasRoomForTexts new
room_alone object may old new room goes none index = record {
  index = index;
  each = each_after object may old new room.each goes;
  together = let zero_bytes = ap (λ n. bytes_asked (take n new.waiting)) none in omega (arith, zero_bytes);
}

-- a member whose requests are the same
pub room_same : (old new : Sharing) → HasRoomForTexts old → new.waiting ≡ old.waiting → new.sent ≡ old.sent → new.reading.index + 1 < 2 ^ 64 → HasRoomForTexts new
room_same old new room waiting sent index = record {
  index = index;
  each = subst (λ (list : List Asked). AllByRecursion CanBeAsked list) (sym waiting) room.each;
  together =
      let together = room.together in
      let same = ap (λ (list : List Asked). bytes_asked (take new.sent list)) waiting ∙ ap (λ n. bytes_asked (take n old.waiting)) sent in
      omega (arith, together, same);
}
