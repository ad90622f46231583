-- Lemmas on what one answer says.
use Rattle.camp_clients.proofs.Words.{◌≡◌, ℕ, ◌+◌, ◌≤◌, true, false, cond, List, [], ◌∷◌, ◌++◌, length, Option, None, Some, IsSome, Result, Ok, Err, MatchOption, refl, sym, ◌∙◌, ap, subst, arith, Ask, Caller, Accepts, AddsNothing, Sequential, Fault, Memory, Busy, Full, own_at, where_done, IsBeginning, IsLegal, IsAccepted, IsAnswered, replay, own, SectionStep, SectionContinues, HasMemory, reported_position, own_mine}
use Rattle.std.proofs.lemmas.List.{append-nil, append_cancel_right, length-append}
use Rattle.std.specs.Option.{option_and_then}
use Rattle.camp_clients.proofs.Histories.{last_accepted}
use Rattle.camp_clients.proofs.Positions.{own_at_prefix, own_at_push}

module _ {State Call Reply : Type 0} (object : Sequential State Call Reply) (writes : (state : State) (call : Call) (next : State) → object.after state call ≡ Some next → object.is_writing call ≡ true) where
  writes_at : (call : Call) (state : Option State) → IsSome (option_and_then (λ s. object.after s call) state) → object.is_writing call ≡ true
  writes_at call None = λ some. absurd (cc some)
  writes_at call (Some state) = λ some.
      let P : Option State → Type 0 = λ next. object.after state call ≡ next → IsSome next → object.is_writing call ≡ true in
      elim (object.after state call) as P [ None ↦ (λ is some. absurd (cc some)) | Some next ↦ (λ is some. writes state call next is) ] refl some

  -- an accepted call writes
  pub accepted_writes : (h : List (ℕ × Call)) (call : Call) → IsAccepted object h call → object.is_writing call ≡ true
  accepted_writes h call accepted = writes_at call (replay object h) accepted

  module _ (caller : Caller) (seen : List (ℕ × Call)) (call : Call) (now : List (ℕ × Call)) (legal : IsLegal object now) where
    -- a done call is one that writes
    done_writes : (at : ℕ) → Accepts caller seen call at now → object.is_writing call ≡ true
    done_writes at done = accepted_writes done.before call
        (last_accepted object done.before (caller.seat, call) (subst (IsLegal object) done.ends legal))

    counts_reply : (at : Option ℕ) (reply : Reply)
        → MatchOption at (AddsNothing caller seen now × IsAnswered object now call reply) (λ at. Accepts caller seen call at now)
        → length (own caller.seat now) ≤ length (own caller.seat seen) + cond (object.is_writing call) 1 0
    counts_reply None reply says = rw says.0.own_stays (omega arith)
    counts_reply (Some at) reply says =
        rw (says.own_grows, done_writes at says) (omega (arith, length-append (own caller.seat seen) (call ∷ [])))

  -- only a call that writes adds to the calls of its caller, and at most itself
  pub own_counts : (caller : Caller) (seen : List (ℕ × Call)) (call : Call) (answer : Result Reply Fault) (now : List (ℕ × Call))
      → SectionStep object caller seen call answer now
      → length (own caller.seat now) ≤ length (own caller.seat seen) + cond (object.is_writing call) 1 0
  own_counts caller seen call (Ok reply) now asks = counts_reply caller seen call now asks.asks.legal (object.done_at reply) reply asks.asks.says
  own_counts caller seen call (Err Memory) now asks = absurd asks.continues
  own_counts caller seen call (Err (Busy lost)) now asks = rw asks.asks.says.adds_nothing.own_stays (omega arith)
  own_counts caller seen call (Err Full) now asks = absurd asks.continues

  -- a caller with fewer accepted calls than its limit is not full
  pub continues : (caller : Caller) (seen : List (ℕ × Call)) (call : Call) (answer : Result Reply Fault) (now : List (ℕ × Call))
      → Ask object caller seen call answer now
      → (caller.alone ≡ false → length (own caller.seat seen) + cond (object.is_writing call) 1 0 ≤ caller.per_seat)
      → HasMemory answer
      → SectionContinues answer
  continues caller seen call (Ok reply) now ask room memory = tt
  continues caller seen call (Err Memory) now ask room memory = absurd memory
  continues caller seen call (Err (Busy lost)) now ask room memory = tt
  continues caller seen call (Err Full) now ask room memory =
      let writes = accepted_writes now call ask.says.accepted in
      let enough = rw writes at (room ask.says.not_alone) in
      let all = ask.says.no_room in
      absurd (omega arith)

-- a done call is last in the history, and none of its caller's calls comes between what the caller had seen and it
module _ {Call : Type 0} (caller : Caller) (seen : List (ℕ × Call)) (call : Call) (at : ℕ) (now : List (ℕ × Call)) (done : Accepts caller seen call at now) where
  pub done_alone : own caller.seat done.before ≡ own caller.seat seen
  done_alone = append_cancel_right (own caller.seat done.before) (own caller.seat seen) (call ∷ [])
      (sym (own_mine caller.seat done.before call) ∙ sym (ap (own caller.seat) done.ends) ∙ done.own_grows)

  pub done_position : at ≡ length done.before + 1
  done_position = done.position ∙ ap length done.ends ∙ length-append done.before ((caller.seat, call) ∷ [])

  pub done_at_end : own_at caller.seat 0 now ≡ own_at caller.seat 0 seen ++ (at, call) ∷ []
  done_at_end =
      ap (own_at caller.seat 0) done.ends
      ∙ own_at_push caller.seat done.before call
      ∙ ap (λ xs. xs ++ (length done.before + 1, call) ∷ []) (own_at_prefix caller.seat seen done.before done.since done_alone)
      ∙ ap (λ n. own_at caller.seat 0 seen ++ (n, call) ∷ []) (sym done_position)

module _ {State Call Reply : Type 0} (object : Sequential State Call Reply) (caller : Caller) (seen : List (ℕ × Call)) (call : Call) (now : List (ℕ × Call)) where
  adds_none : IsBeginning seen now → AddsNothing caller seen now → own_at caller.seat 0 now ≡ own_at caller.seat 0 seen ++ []
  adds_none grows nothing = own_at_prefix caller.seat seen now grows nothing.own_stays ∙ sym (append-nil (own_at caller.seat 0 seen))

  at_reply : IsBeginning seen now → (at : Option ℕ) (reply : Reply)
      → MatchOption at (AddsNothing caller seen now × IsAnswered object now call reply) (λ at. Accepts caller seen call at now)
      → own_at caller.seat 0 now ≡ own_at caller.seat 0 seen ++ where_done at call []
  at_reply grows None reply says = adds_none grows says.0
  at_reply grows (Some at) reply says = done_at_end caller seen call at now says

  -- the calls of a caller with their positions grow by the call if it is done
  pub own_at_asks : (answer : Result Reply Fault) → SectionStep object caller seen call answer now
      → own_at caller.seat 0 now ≡ own_at caller.seat 0 seen ++ where_done (reported_position object answer) call []
  own_at_asks (Ok reply) asks = at_reply asks.asks.grows (object.done_at reply) reply asks.asks.says
  own_at_asks (Err Memory) asks = absurd asks.continues
  own_at_asks (Err (Busy lost)) asks = adds_none asks.asks.grows asks.asks.says.adds_nothing
  own_at_asks (Err Full) asks = absurd asks.continues
