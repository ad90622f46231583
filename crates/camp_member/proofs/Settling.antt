-- Lemmas on how a member answers what it can.
use Rattle.std.proofs.Common.{◌≡◌, ◌⊎◌, ℕ, List, [], ◌∷◌, ◌++◌, map, take, drop, Result, Ok, Err, OnOk, OnErr, IfOk, IfErr, Some, refl, sym, ◌∙◌, ap, subst, arith, None, inl, inr, ◌<◌, length, Option, IsSome, slice_index_or}
use Rattle.std.specs.Option.{option_and_then}
use Rattle.std.proofs.lemmas.Bool.{false≢true}
use Rattle.std.proofs.lemmas.List.{append_assoc, map-append, take-append-drop}
use Rattle.camp_object.specs.Objects.{Sequential, IsLawfulObject}
use Rattle.camp_object.specs.Histories.{IsAccepted, IsLegal, replay}
use Rattle.camp_object.proofs.Beginnings.{begins_self}
use Rattle.camp_member.specs.Inside.Settling.{AnswersFirst, IsRest}
use Rattle.camp_object.specs.Asking.{IsNotBusy}
use Rattle.camp_member.specs.Laws.{AnyReason, FindsOn, AdvancesAnyhow}
use Rattle.camp_member.specs.Members.{Membership, as_answer, without_reply}
use Rattle.camp_member.specs.Readings.{Reading}
use Rattle.camp_member.specs.Telling.{AreAnsweredFrom, MemberAdvances, IsAnsweredAt, AnsweredRequest, answers_in, requests_in}
use Rattle.camp_member.specs.Wanting.{AfterEnd, WaitsAtEnd, IsAnswerTo, IsAtRest, IsNeeded, IsStopped, IsWaiting}
use Rattle.camp_member.specs.declared.requests.NoReply.{NoReply}
use Rattle.camp_member.specs.declared.requests.NoReply.TheVariants.{Ended}
use Rattle.camp_member.specs.declared.requests.Request.{Request}
use Rattle.camp_member.specs.declared.requests.Want.{Want}
use Rattle.camp_member.specs.declared.requests.Want.TheVariants as want
use Rattle.camp_member.specs.declared.wanting.Rest.{Rest}
use Rattle.camp_member.specs.declared.wanting.Rest.TheVariants.{Nothing, Sends, UnderWay, Waits}
use Rattle.camp_member.proofs.Reading.{reads_on}
use Rattle.camp_member.proofs.Telling.{answer_asks, goes_unchanged, no_reply_asks, told-append}

module _ {State Call Reply : Type 0} (object : Sequential State Call Reply) where
  -- one step after another
  pub goes_through : (may : Request Call → NoReply → Type 0) (one two three : Membership State Call Reply) → IsLegal object two.reading.history → MemberAdvances object may one two → MemberAdvances object may two three → MemberAdvances object may one three
  goes_through may one two three legal first second = record {
    told = first.told ++ second.told;
    seat = second.seat ∙ first.seat;
    first = second.first ∙ first.first;
    answers =
        second.answers
        ∙ ap (λ list. list ++ answers_in second.told) first.answers
        ∙ append_assoc one.answers (answers_in first.told) (answers_in second.told)
        ∙ ap (λ list. one.answers ++ list) (sym (map-append (λ (told : AnsweredRequest Call Reply). (told.request.id, told.answer)) first.told second.told));
    waiting =
        first.waiting
        ∙ ap (λ list. requests_in first.told ++ list) second.waiting
        ∙ sym (append_assoc (requests_in first.told) (requests_in second.told) three.waiting)
        ∙ ap (λ list. list ++ three.waiting) (sym (map-append (λ (told : AnsweredRequest Call Reply). told.request) first.told second.told));
    are =
        let P : ℕ → Type 0 = λ seat. AreAnsweredFrom object may seat two.reading.history second.told three.reading.history in
        told-append object may one.seat one.reading.history first.told two.reading.history second.told three.reading.history legal first.are (subst P first.seat second.are);
  }

  -- where the entry under way changes alone
  pub goes_sends : (may : Request Call → NoReply → Type 0) (one two : Membership State Call Reply) (sent : ℕ) → MemberAdvances object may one two → MemberAdvances object may one (record two { sent = sent })
  goes_sends may one two sent goes = record { told = goes.told; seat = goes.seat; first = goes.first; answers = goes.answers; waiting = goes.waiting; are = goes.are }

  -- the first request is answered
  pub answers_goes : IsLawfulObject object → (may : Request Call → NoReply → Type 0) (old new : Membership State Call Reply) → IsLegal object old.reading.history → ((request : Request Call) (why : NoReply) → IsStopped object old request why → may request why) → AnswersFirst object old new → MemberAdvances object may old new
  answers_goes lawful may old new legal reason step = record {
    told = record { request = step.request; answer = step.answer; history = old.reading.history } ∷ [];
    seat = step.seat;
    first = ap (λ (r : Reading State Call). r.first) step.reading;
    answers = step.answers;
    waiting = step.waiting;
    are =
        let P : Reading State Call → Type 0 = λ r. AreAnsweredFrom object may old.seat old.reading.history [] r.history in (
          told step.answer step.is,
          subst P (sym step.reading) (begins_self old.reading.history, refl),
        );
  }
    where
      told : (answer : Result Reply NoReply) → IsAnswerTo object old step.request (Some answer) → IsAnsweredAt object may old.seat old.reading.history (record { request = step.request; answer = answer; history = old.reading.history })
      told (Ok reply) is = record { asks = answer_asks object lawful old.seat old.reading.history step.request.call reply legal is.1; at_least = is.0; why = tt }
      told (Err why) is = record { asks = no_reply_asks object old.seat old.reading.history step.request.call why legal; at_least = tt; why = reason step.request why is }

  -- a reason for no reply is one earlier too, if nothing was read since
  pub stopped_since : (start old : Membership State Call Reply) → old.reading ≡ start.reading → old.is_stopped ≡ start.is_stopped → (request : Request Call) (why : NoReply) → IsStopped object old request why → IsStopped object start request why
  stopped_since start old reading same request why is =
      let W : Reading State Call → Type 0 = λ r. IsWaiting object r.history request ⊎ IsAccepted object r.history request.call in
      (is.0, sym same ∙ is.1, subst W reading is.2)

  -- a request has no answer, or it has one
  not_both : (member : Membership State Call Reply) (request : Request Call) (answer : Result Reply NoReply) → IsAnswerTo object member request None → IsAnswerTo object member request (Some answer) → ⊥
  not_both member request (Ok reply) (reads, inl waits) (ready, is) = omega (arith, waits, ready)
  not_both member request (Ok reply) (reads, inr accepted) (ready, is) =
      let none : option_and_then (λ state. object.after state request.call) (replay object member.reading.history) ≡ None =
      ap (λ (r : Option State). option_and_then (λ state. object.after state request.call) r) is.replays ∙ is.stays in
      false≢true (subst (λ (o : Option State). IsSome o) none accepted)
  not_both member request (Err why) none some = false≢true (sym none.0 ∙ some.1)

  same_first : (request other : Request Call) (rest others : List (Request Call)) → request ∷ rest ≡ other ∷ others → request ≡ other
  same_first request other rest others same = ap (λ (list : List (Request Call)). slice_index_or list 0 request) same

  -- a member that answers a request is not at rest
  pub answers_no_rest : (old new : Membership State Call Reply) → IsAtRest object old → AnswersFirst object old new → ⊥
  answers_no_rest old new rests step = not_both old step.request step.answer (rests step.none_sent step.request new.waiting step.waiting) step.is

  -- a member that needs more of the log is at rest
  pub rest_is : (member : Membership State Call Reply) (rest : Rest) → IsRest object member rest → IsAtRest object member
  rest_is member Nothing is none request rest first = let long = ap length (sym is.1 ∙ first) in absurd (omega (arith, long))
  rest_is member Waits is none request rest first =
      (is.1, inl (subst (λ (r : Request Call). IsWaiting object member.reading.history r) (same_first is.2.0 request is.2.1 rest (sym is.2.2 ∙ first)) is.2.3))
  rest_is member Sends is none request rest first =
      (is.1, inr (subst (λ (r : Request Call). IsAccepted object member.reading.history r.call) (same_first is.2.0 request is.2.1 rest (sym is.2.2 ∙ first)) is.2.4))
  rest_is member UnderWay is none request rest first = absurd (omega (arith, is, none))

  -- requests that get no reply
  without : (why : NoReply) (history : List (ℕ × Call)) → Request Call → AnsweredRequest Call Reply
  without why history request = record { request = request; answer = Err why; history = history }

  without_are : (may : Request Call → NoReply → Type 0) (why : NoReply) → ((request : Request Call) → may request why) → (seat : ℕ) (history : List (ℕ × Call)) → IsLegal object history → (requests : List (Request Call)) → AreAnsweredFrom object may seat history (map (without why history) requests) history
  unfolding without
  without_are may why reason seat history legal [] = (begins_self history, refl)
  without_are may why reason seat history legal (request ∷ requests) = (
    record { asks = no_reply_asks object seat history request.call why legal; at_least = tt; why = reason request },
    without_are may why reason seat history legal requests,
  )

  without-requests : (why : NoReply) (history : List (ℕ × Call)) (requests : List (Request Call)) → requests_in (map (without why history) requests) ≡ requests
  unfolding without
  without-requests why history [] = refl
  without-requests why history (request ∷ requests) = ap (λ list. request ∷ list) (without-requests why history requests)

  without-answers : (why : NoReply) (history : List (ℕ × Call)) (requests : List (Request Call)) → answers_in (map (without why history) requests) ≡ map (λ request. (request.id, Err why)) requests
  unfolding without
  without-answers why history [] = refl
  without-answers why history (request ∷ requests) = ap (λ list. (request.id, Err why) ∷ list) (without-answers why history requests)

  pub refused_goes : (may : Request Call → NoReply → Type 0) (why : NoReply) → ((request : Request Call) → may request why) → (old new : Membership State Call Reply) (count : ℕ) → IsLegal object old.reading.history → new ≡ without_reply why (record old { sent = count }) → MemberAdvances object may old new
  refused_goes may why reason old new count legal is =
      let first = take count old.waiting in
      let P : Membership State Call Reply → Type 0 = λ m. MemberAdvances object may old m in
      subst P (sym is) (record {
        told = map (without why old.reading.history) first;
        seat = refl;
        first = refl;
        answers = ap (λ list. old.answers ++ list) (sym (without-answers why old.reading.history first));
        waiting = sym (take-append-drop count old.waiting) ∙ ap (λ list. list ++ drop count old.waiting) (sym (without-requests why old.reading.history first));
        are = without_are may why reason old.seat old.reading.history legal first;
      })

  -- whatever came of it
  pub refused_or_not : (may : Request Call → NoReply → Type 0) (why : NoReply) → ((request : Request Call) → may request why) → (old new : Membership State Call Reply) (count : ℕ) {Fault : Type 0} (result : Result (Unit {0}) Fault) → IsLegal object old.reading.history
      → OnOk result (new ≡ without_reply why (record old { sent = count })) → OnErr result (new ≡ old) → MemberAdvances object may old new
  refused_or_not may why reason old new count (Ok done) legal is stays = refused_goes may why reason old new count legal is
  refused_or_not may why reason old new count (Err fault) legal is stays = goes_unchanged object old new 0 stays may

  -- the first request gets no reply where the log ends
  pub ends_so : (old new : Membership State Call Reply) (index : ℕ) (request : Request Call) (rest : List (Request Call)) → WaitsAtEnd object old index request rest → {Fault : Type 0} (result : Result (Unit {0}) Fault)
      → OnOk result (new ≡ without_reply Ended (record old { sent = 1 })) → OnOk result (AfterEnd object old index new)
  ends_so old new index request rest ends (Ok done) is = inl (request, rest, ends, is)
  ends_so old new index request rest ends (Err fault) is = tt

  -- a member that appends has not stopped, and its first request is accepted
  pub needed_so : (member : Membership State Call Reply) (sent : ℕ) → IsRest object member Sends → (want : Want Call) → IsNeeded object want (record member { sent = sent })
  needed_so member sent rest want.Nothing = tt
  needed_so member sent rest (want.Read from) = tt
  needed_so member sent rest (want.Append entry) = (rest.1, (rest.2.0, rest.2.1, rest.2.2, rest.2.4))

  pub all_so : {A Fault : Type 0} {P : A → Type 0} → ((value : A) → P value) → (result : Result A Fault) → IfOk result P
  all_so {P = P} so (Ok value) = so value
  all_so so (Err fault) = tt

  -- a wider reason
  told_wider : (narrow wide : Request Call → NoReply → Type 0) → ((request : Request Call) (why : NoReply) → narrow request why → wide request why) → (seat : ℕ) (seen : List (ℕ × Call)) (told : List (AnsweredRequest Call Reply)) (now : List (ℕ × Call)) → AreAnsweredFrom object narrow seat seen told now → AreAnsweredFrom object wide seat seen told now
  told_wider narrow wide wider seat seen [] now are = are
  told_wider narrow wide wider seat seen (one ∷ more) now are = (
    record { asks = are.0.asks; at_least = are.0.at_least; why = still one.request one.answer are.0.why },
    told_wider narrow wide wider seat one.history more now are.1,
  )
    where
      still : (request : Request Call) (answer : Result Reply NoReply) → IfErr answer (narrow request) → IfErr answer (wide request)
      still request (Ok reply) why = tt
      still request (Err reason) why = wider request reason why

  pub goes_wider : (narrow wide : Request Call → NoReply → Type 0) → ((request : Request Call) (why : NoReply) → narrow request why → wide request why) → (old new : Membership State Call Reply) → MemberAdvances object narrow old new → MemberAdvances object wide old new
  goes_wider narrow wide wider old new goes = record {
    told = goes.told;
    seat = goes.seat;
    first = goes.first;
    answers = goes.answers;
    waiting = goes.waiting;
    are = told_wider narrow wide wider old.seat old.reading.history goes.told new.reading.history goes.are;
  }

  pub goes_anyhow : AdvancesAnyhow object
  goes_anyhow = record {
    replies = goes_wider (λ _ _. ⊥) AnyReason (λ request why none. tt);
    stopped = λ member. goes_wider (IsStopped object member) AnyReason (λ request why is. tt);
    one_reason = λ reason. goes_wider (λ _ why. why ≡ reason) AnyReason (λ request why is. tt);
  }

  -- what was found is read after the others
  pub finds_on : FindsOn object
  finds_on log old new index found is (inl before) = let at = is.index in let below = before.0 in inl (omega (arith, at, below), before.1)
  finds_on log old new index None is (inr finds) = let none = finds.3 in cc
  finds_on log old new index (Some entry) is (inr finds) = inr (finds.0 ∙ is.index, reads_on object log old.reading new.reading entry finds.2.replies is finds.2.reads)

-- no answer says that a member is busy
pub nobody_is_busy : {Reply : Type 0} (answer : Result Reply NoReply) → IsNotBusy (as_answer answer)
nobody_is_busy (Ok reply) = tt
nobody_is_busy (Err why) = tt
