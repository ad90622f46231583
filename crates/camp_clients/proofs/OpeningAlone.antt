-- The opening of a run over a head runs alone.
use Rattle.camp_clients.proofs.Words.{◌≡◌, ℕ, suc, ◌+◌, ◌<◌, ◌≤◌, ◌==◌, eq-eqb, true, false, cond, List, [], ◌∷◌, ◌++◌, length, Option, None, Some, Result, Ok, Err, MatchOption, refl, sym, ◌∙◌, ap, subst, inl, inr, arith, cases_lt, append-nil, IsBeginning, IsAnswered, own, Sequential, Fault, length-beginning, IsDone, SaysAmongThreads, reported_position, own_at, where_done, done_at, section_of, Section, begins_self, All, AllByRecursion, All-cons, All-nil, All-same, OpeningIsAlone}
use Rattle.std.proofs.Math.ListN.{get_or-append}
use Rattle.camp_clients.proofs.SectionSteps.{says_grows, section_prefix, own_at-append, own_at_after}
use Rattle.camp_clients.proofs.OneSection.{section_after, section_is_alone}

-- no position lies past a number
abbrev AreUpTo : {Call : Type 0} → ℕ → List (ℕ × Call) → Type 0
AreUpTo {Call} end list = AllByRecursion (λ entry. entry.0 ≤ end) list

up_to_right : {Call : Type 0} (end : ℕ) (xs ys : List (ℕ × Call)) → AreUpTo end (xs ++ ys) → AreUpTo end ys
up_to_right end [] ys all = all
up_to_right end (x ∷ xs) ys all = up_to_right end xs ys all.1

-- there are no positions after a number that are not greater than it
none_between : {Call : Type 0} (seat end : ℕ) (h list : List (ℕ × Call)) → own_at seat end h ≡ list → AreUpTo end list → list ≡ []
none_between seat end h [] is all = refl
none_between seat end h (entry ∷ list) is all =
    let beyond = own_at_after seat end h entry.0 entry.1 list is in
    let first = all.0 in absurd (omega arith)

-- a seat whose first position is after a prefix has no call in it
none_before : {Call : Type 0} (seat before : ℕ) (h more : List (ℕ × Call))
    → ((at : ℕ) (call : Call) (rest : List (ℕ × Call)) → own_at seat before (h ++ more) ≡ (at, call) ∷ rest → before + length h < at)
    → own seat h ≡ []
none_before seat before [] more = λ beyond. refl
none_before {Call = Call} seat before (entry ∷ h) more =
    elim (entry.0 == seat)
    as (λ b. ((at : ℕ) (call : Call) (rest : List (ℕ × Call)) → cond b ((before + 1, entry.1) ∷ own_at seat (before + 1) (h ++ more)) (own_at seat (before + 1) (h ++ more)) ≡ (at, call) ∷ rest → before + length (entry ∷ h) < at)
    → cond b (entry.1 ∷ own seat h) (own seat h) ≡ []) [
      | true ↦ (λ beyond. absurd (let past = beyond (before + 1) entry.1 (own_at seat (before + 1) (h ++ more)) refl in omega arith))
      | false ↦ (λ beyond. none_before seat (before + 1) h more (λ at call rest is. let past = beyond at call rest is in omega arith))
    ]

-- a fact about all elements holds of those of a prefix
all_of_prefix : {X : Type 0} (P : X → Type 0) (prefix whole : List X) (begins : IsBeginning prefix whole) → All P whole → All P prefix
all_of_prefix P prefix whole begins all k d below =
    subst P (get_or-append prefix begins.rest d k below)
    (All-same P (prefix ++ begins.rest) whole begins.makes all k d (omega (arith, below, ap length begins.makes, length-beginning begins)))

-- a call of a seat is one of its calls
has_own : {Call : Type 0} (seat : ℕ) (entry : ℕ × Call) (h : List (ℕ × Call)) → entry.0 ≡ seat → own seat (entry ∷ h) ≡ [] → ⊥
has_own seat entry h mine = rw (eq-eqb entry.0 seat mine) (λ is. cc is)

-- a history without calls of a seat has none after its first entry
own_tail : {Call : Type 0} (seat : ℕ) (entry : ℕ × Call) (h : List (ℕ × Call)) → own seat (entry ∷ h) ≡ [] → own seat h ≡ []
own_tail seat entry h =
    elim (entry.0 == seat) as (λ b. cond b (entry.1 ∷ own seat h) (own seat h) ≡ [] → own seat h ≡ [])
    [ true ↦ (λ is. absurd (cc is)) | false ↦ (λ is. is) ]

-- calls of seats below a number, none of which but the first has one, are those of the first
all_of_first : {Call : Type 0} (seats : ℕ) (h : List (ℕ × Call)) → All (λ entry. entry.0 < seats) h
    → ((seat : ℕ) → 0 < seat → seat < seats → own seat h ≡ []) → All (λ entry. entry.0 ≡ 0) h
all_of_first seats [] below none = All-nil (λ entry. entry.0 ≡ 0)
all_of_first seats (entry ∷ h) below none =
    let first : entry.0 ≡ 0 = elim (cases_lt 0 entry.0) [
      | inl some ↦ absurd (has_own entry.0 entry h refl (none entry.0 some (below 0 entry (omega arith))))
      | inr past ↦ omega arith
    ] in
    All-cons (λ entry. entry.0 ≡ 0) entry h first
    (all_of_first seats h (λ k d here. below (suc k) d (omega arith)) (λ seat some few. own_tail seat entry h (none seat some few)))

module _ {State Call Reply : Type 0} (object : Sequential State Call Reply) (seat tries : ℕ) where
  -- the calls that a section reports as done are in its last prefix
  done_up_to : (before : List (ℕ × Call)) (call : Call) (at : Option ℕ) (reply : Reply) (next left : List (ℕ × Call)) (end : ℕ)
      → MatchOption at (IsBeginning before next × IsAnswered object next call reply) (λ at. IsDone seat before call at next)
      → length next ≤ end → AreUpTo end left → AreUpTo end (where_done at call left)
  done_up_to before call None reply next left end says within all = all
  done_up_to before call (Some at) reply next left end says within all = (let is = says.position in omega arith, all)

  says_up_to : (before : List (ℕ × Call)) (call : Call) (answer : Result Reply Fault) (next left : List (ℕ × Call)) (end : ℕ)
      → SaysAmongThreads object seat tries before call answer next → length next ≤ end → AreUpTo end left
      → AreUpTo end (where_done (reported_position object answer) call left)
  says_up_to before call (Ok reply) next left end says within all = done_up_to before call (object.done_at reply) reply next left end says within all
  says_up_to before call (Err fault) next left end says within all = all

  section_up_to : (first : List (ℕ × Call)) (calls : List Call) (answers : List (Result Reply Fault)) (last : List (ℕ × Call))
      → Section (SaysAmongThreads object seat tries) first calls answers last → AreUpTo (length last) (done_at (reported_position object) calls answers)
  section_up_to first [] [] last s = tt
  section_up_to first [] (a ∷ answers) last s = absurd s
  section_up_to first (c ∷ calls) [] last s = absurd s
  section_up_to first (c ∷ calls) (a ∷ answers) last s =
      says_up_to first c a s.0 (done_at (reported_position object) calls answers) (length last) s.1
      (length-beginning (section_prefix (SaysAmongThreads object seat tries) (says_grows object seat tries) s.0 calls answers last s.2))
      (section_up_to s.0 calls answers last s.2)

  -- a prefix that has all calls that a section reports as done has all calls of its seat
  own_at_last : (last history : List (ℕ × Call)) (calls : List Call) (answers : List (Result Reply Fault))
      → (within : IsBeginning last history) → own_at seat 0 history ≡ done_at (reported_position object) calls answers
      → Section (SaysAmongThreads object seat tries) [] calls answers last → own_at seat 0 last ≡ done_at (reported_position object) calls answers
  own_at_last last history calls answers within is s =
      let from_end : length last ≡ 0 + length last = omega arith in
      let parts : own_at seat 0 last ++ own_at seat (length last) within.rest ≡ done_at (reported_position object) calls answers =
      ap (λ n. own_at seat 0 last ++ own_at seat n within.rest) from_end ∙ sym (own_at-append seat 0 last within.rest) ∙ ap (own_at seat 0) within.makes ∙ is in
      let all = subst (AreUpTo (length last)) (sym parts) (section_up_to [] calls answers last s) in
      let none = none_between seat (length last) within.rest (own_at seat (length last) within.rest) refl
      (up_to_right (length last) (own_at seat 0 last) (own_at seat (length last) within.rest) all) in
      sym (append-nil (own_at seat 0 last)) ∙ ap (λ xs. own_at seat 0 last ++ xs) (sym none) ∙ parts

pub opening_alone : {State Call Reply : Type 0} (object : Sequential State Call Reply) → OpeningIsAlone object
opening_alone object tries sections answers history some opens run =
    let last = run.opening.last in
    let calls = section_of sections 0 in
    let replies = section_of answers 0 in
    let within = run.opening.within in
    let below = all_of_prefix (λ entry. entry.0 < length sections) last history within run.exactly.no_other in
    let mine = all_of_first (length sections) last below (λ seat client few.
    let prefixes = run.clients seat client few in
    none_before seat 0 last within.rest (λ at call rest is.
    let beyond = section_after object seat tries last (section_of sections seat) (section_of answers seat) prefixes.last prefixes.prefixes at call rest
    (sym (run.exactly.own_done seat few) ∙ ap (own_at seat 0) (sym within.makes) ∙ is) in
    omega arith)) in
    let own_is = own_at_last object 0 tries last history calls replies within (run.exactly.own_done 0 opens) run.opening.prefixes in
    record {
      last = last;
      alone = section_is_alone object 0 last mine tries some [] calls replies last (begins_self last)
          (record { begins = record { rest = last; makes = refl }; are = own_is }) run.opening.prefixes;
      within = within;
    }
