-- Lemmas on sections of calls.
use Rattle.camp_clients.proofs.Words.{append-nil, length-append, take_more, IsBeginning, IsAnswered, own, Sequential, Fault, Memory, Busy, Full, SectionStep, HasMemory, IsDone, IsOvertaken, SaysAmongThreads, SaysAlone, reported_position, own_at, where_done, done_at, OneByOne, Section, ◌≡◌, ℕ, ◌+◌, ◌≤◌, false, true, List, [], ◌∷◌, ◌++◌, length, Option, None, Some, Result, Ok, Err, MatchOption, zero, suc, cond, count_by, get_or, drop, take, ◌<◌, refl, sym, ◌∙◌, ap, subst, append_assoc, add-zero, arith, begins_longer, begins_self, begins_through, Ask, Caller, IsBusy, Loses, alone_at}
use Rattle.std.proofs.lemmas.List.Sums.{sum_by-drop_more}
use Rattle.camp_clients.proofs.Asking.{own_at_asks, own_counts, continues}
use Rattle.camp_clients.proofs.Histories.{own_rest}
pub use Rattle.camp_clients.proofs.Positions.{own_at-append, own_at_after, own_at_first, own_at_prefix, own_at_mine, own_at_none, same_first, where_done-append}

-- restates what an answer says, whether or not it has a position
pub either : {A P P' : Type 0} {Q Q' : A → Type 0} (o : Option A) → (P → P') → ((x : A) → Q x → Q' x) → MatchOption o P Q → MatchOption o P' Q'
either None none some says = none says
either (Some x) none some says = some x says

module _ {Prefix Call Answer : Type 0} (SaysAmongThreads : Prefix → Call → Answer → Prefix → Type 0) where
  -- one more call at the end
  pub section_push : (first : Prefix) (calls : List Call) (answers : List Answer) (next last : Prefix) (call : Call) (answer : Answer)
      → Section SaysAmongThreads first calls answers next → SaysAmongThreads next call answer last
      → Section SaysAmongThreads first (calls ++ call ∷ []) (answers ++ answer ∷ []) last
  section_push first [] [] next last call answer e says = (last, rw e says, refl)
  section_push first [] (a ∷ answers) next last call answer s says = absurd s
  section_push first (c ∷ calls) [] next last call answer s says = absurd s
  section_push first (c ∷ calls) (a ∷ answers) next last call answer s says =
      (s.0, s.1, section_push s.0 calls answers next last call answer s.2 says)

  -- restates what each answer says
  pub section_map : (Relates : Prefix → Call → Answer → Prefix → Type 0)
      → ((before : Prefix) (call : Call) (answer : Answer) (prefix : Prefix) → SaysAmongThreads before call answer prefix → Relates before call answer prefix)
      → (first : Prefix) (calls : List Call) (answers : List Answer) (last : Prefix)
      → Section SaysAmongThreads first calls answers last → Section Relates first calls answers last
  section_map Relates each first [] [] last s = s
  section_map Relates each first [] (a ∷ answers) last s = s
  section_map Relates each first (c ∷ calls) [] last s = s
  section_map Relates each first (c ∷ calls) (a ∷ answers) last s =
      (s.0, each first c a s.0 s.1, section_map Relates each s.0 calls answers last s.2)

-- the prefix of each answer begins with the one before it
module _ {Entry Call Answer : Type 0} (SaysAmongThreads : List Entry → Call → Answer → List Entry → Type 0)
    (grows : (before : List Entry) (call : Call) (answer : Answer) (prefix : List Entry) → SaysAmongThreads before call answer prefix → IsBeginning before prefix) where
  -- the last prefix of a section begins with its first
  pub section_prefix : (first : List Entry) (calls : List Call) (answers : List Answer) (last : List Entry)
      → Section SaysAmongThreads first calls answers last → IsBeginning first last
  section_prefix first [] [] last s = subst (IsBeginning first) s (begins_self first)
  section_prefix first [] (a ∷ answers) last s = absurd s
  section_prefix first (c ∷ calls) [] last s = absurd s
  section_prefix first (c ∷ calls) (a ∷ answers) last s =
      begins_through (grows first c a s.0 s.1) (section_prefix s.0 calls answers last s.2)

  -- restates what each answer says, at prefixes of a history
  pub section_within : (Relates : List Entry → Call → Answer → List Entry → Type 0) (history : List Entry)
      → ((before : List Entry) (call : Call) (answer : Answer) (prefix : List Entry) → IsBeginning prefix history → SaysAmongThreads before call answer prefix → Relates before call answer prefix)
      → (first : List Entry) (calls : List Call) (answers : List Answer) (last : List Entry) → IsBeginning last history
      → Section SaysAmongThreads first calls answers last → Section Relates first calls answers last
  section_within Relates history each first [] [] last within s = s
  section_within Relates history each first [] (a ∷ answers) last within s = s
  section_within Relates history each first (c ∷ calls) [] last within s = s
  section_within Relates history each first (c ∷ calls) (a ∷ answers) last within s =
      let next = begins_through (section_prefix s.0 calls answers last s.2) within in
      (s.0, each first c a s.0 next s.1, section_within Relates history each s.0 calls answers last within s.2)

module _ {State Call Reply : Type 0} (object : Sequential State Call Reply) (caller : Caller) where
  -- what is seen only grows
  pub section_grows : (first : List (ℕ × Call)) (calls : List Call) (answers : List (Result Reply Fault)) (last : List (ℕ × Call))
      → Section (SectionStep object caller) first calls answers last → IsBeginning first last
  section_grows = section_prefix (SectionStep object caller) (λ before call answer prefix asks. asks.asks.grows)

  -- the caller's calls with their positions grow by those that are done
  pub section_own_at : (first : List (ℕ × Call)) (calls : List Call) (answers : List (Result Reply Fault)) (last : List (ℕ × Call))
      → Section (SectionStep object caller) first calls answers last
      → own_at caller.seat 0 last ≡ own_at caller.seat 0 first ++ done_at (reported_position object) calls answers
  section_own_at first [] [] last s = ap (own_at caller.seat 0) (sym s) ∙ sym (append-nil (own_at caller.seat 0 first))
  section_own_at first [] (a ∷ answers) last s = absurd s
  section_own_at first (c ∷ calls) [] last s = absurd s
  section_own_at first (c ∷ calls) (a ∷ answers) last s =
      let rest = done_at (reported_position object) calls answers in
      section_own_at s.0 calls answers last s.2
      ∙ ap (λ xs. xs ++ rest) (own_at_asks object caller first c s.0 a s.1)
      ∙ append_assoc (own_at caller.seat 0 first) (where_done (reported_position object a) c []) rest
      ∙ ap (λ xs. own_at caller.seat 0 first ++ xs) (where_done-append (reported_position object a) c rest)

module _ {State Call Reply : Type 0} (object : Sequential State Call Reply) where
  -- as many calls were accepted before it as exchanges were lost
  pub loses_longer : (call : Call) (lost : ℕ) (seen now : List (ℕ × Call)) → Loses object call lost seen now → length seen + lost ≤ length now
  loses_longer call zero seen now prefix = omega (arith, ap length prefix.makes, length-append seen prefix.rest)
  loses_longer call (suc lost) seen now l =
      let rest = loses_longer call lost (l.0 ++ l.1 ∷ []) now l.4 in
      omega (arith, rest, ap length l.2.makes, length-append seen l.2.rest, length-append l.0 (l.1 ∷ []))

  -- what an answer of a desk says among threads
  module _ (caller : Caller) (before : List (ℕ × Call)) (call : Call) (prefix : List (ℕ × Call)) (grows : IsBeginning before prefix) where
    overtaken : (lost : ℕ) → IsBusy object caller before call lost prefix → IsOvertaken caller.seat caller.tries before lost prefix
    overtaken lost busy = record {
      others = grows.rest;
      makes = grows.makes;
      none_own = own_rest caller.seat before prefix grows busy.adds_nothing.own_stays;
      enough = omega (arith, busy.all_lost, loses_longer call lost before prefix busy.loses, ap length grows.makes, length-append before grows.rest);
      all_lost = busy.all_lost;
    }

  pub says : (caller : Caller) (before : List (ℕ × Call)) (call : Call) (answer : Result Reply Fault) (prefix : List (ℕ × Call))
      → SectionStep object caller before call answer prefix → SaysAmongThreads object caller.seat caller.tries before call answer prefix
  says caller before call (Ok reply) prefix asks = either (object.done_at reply) (λ says. (asks.asks.grows, says.1))
      (λ at says. record { at_acceptance = says.before; since = says.since; ends = sym says.ends; position = says.position }) asks.asks.says
  says caller before call (Err Memory) prefix asks = asks.continues
  says caller before call (Err (Busy lost)) prefix asks = overtaken caller before call prefix asks.asks.grows lost asks.asks.says
  says caller before call (Err Full) prefix asks = asks.continues

  pub says_alone : (seat : ℕ) (before : List (ℕ × Call)) (call : Call) (answer : Result Reply Fault) (prefix : List (ℕ × Call))
      → SectionStep object (alone_at seat) before call answer prefix → SaysAlone object seat before call answer prefix
  says_alone seat before call (Ok reply) prefix asks =
      either (object.done_at reply)
      (λ says. let same = says.0.exact refl in (same, subst (λ h. IsAnswered object h call reply) same says.1))
      (λ at says. (says.ends ∙ ap (λ h. h ++ (seat, call) ∷ []) (says.exact refl), says.position)) asks.asks.says
  says_alone seat before call (Err Memory) prefix asks = asks.continues
  says_alone seat before call (Err (Busy lost)) prefix asks = absurd (cc asks.asks.says.not_alone)
  says_alone seat before call (Err Full) prefix asks = asks.continues

-- the prefix of an answer begins with the prefix before it
module _ {State Call Reply : Type 0} (object : Sequential State Call Reply) (seat tries : ℕ) where
  reply_grows : (before : List (ℕ × Call)) (call : Call) (at : Option ℕ) (reply : Reply) (prefix : List (ℕ × Call))
      → MatchOption at (IsBeginning before prefix × IsAnswered object prefix call reply) (λ at. IsDone seat before call at prefix)
      → IsBeginning before prefix
  reply_grows before call None reply prefix says = says.0
  reply_grows before call (Some at) reply prefix says = subst (IsBeginning before) says.ends (begins_longer ((seat, call) ∷ []) says.since)

  pub says_grows : (before : List (ℕ × Call)) (call : Call) (answer : Result Reply Fault) (prefix : List (ℕ × Call))
      → SaysAmongThreads object seat tries before call answer prefix → IsBeginning before prefix
  says_grows before call (Ok reply) prefix says = reply_grows before call (object.done_at reply) reply prefix says
  says_grows before call (Err Memory) prefix says = absurd says
  says_grows before call (Err (Busy lost)) prefix says = record { rest = says.others; makes = says.makes }
  says_grows before call (Err Full) prefix says = absurd says

module _ {State Call Reply : Type 0} (object : Sequential State Call Reply) (seat : ℕ) where
  alone_reply_grows : (before : List (ℕ × Call)) (call : Call) (at : Option ℕ) (reply : Reply) (prefix : List (ℕ × Call))
      → MatchOption at ((prefix ≡ before) × IsAnswered object before call reply) (λ at. (prefix ≡ before ++ (seat, call) ∷ []) × (at ≡ length prefix))
      → IsBeginning before prefix
  alone_reply_grows before call None reply prefix says = subst (IsBeginning before) (sym says.0) (begins_self before)
  alone_reply_grows before call (Some at) reply prefix says = record { rest = (seat, call) ∷ []; makes = sym says.0 }

  pub alone_grows : (before : List (ℕ × Call)) (call : Call) (answer : Result Reply Fault) (prefix : List (ℕ × Call))
      → SaysAlone object seat before call answer prefix → IsBeginning before prefix
  alone_grows before call (Ok reply) prefix says = alone_reply_grows before call (object.done_at reply) reply prefix says
  alone_grows before call (Err fault) prefix says = absurd says

-- one more call of a section, at index i
module _ {State Call Reply : Type 0} (object : Sequential State Call Reply) (writes : (state : State) (call : Call) (next : State) → object.after state call ≡ Some next → object.is_writing call ≡ true) (caller : Caller)
    (first : List (ℕ × Call)) (calls : List Call) (i : ℕ) (below : i < length calls) (seen : List (ℕ × Call)) (call : Call) (at : call ≡ get_or calls i call)
    (answer : Result Reply Fault) (now : List (ℕ × Call)) (memory : HasMemory answer) (asks : Ask object caller seen call answer now)
    (room : caller.alone ≡ false → length (own caller.seat seen) + count_by object.is_writing (drop i calls) ≤ caller.per_seat) where
  counted : count_by object.is_writing (drop i calls) ≡ cond (object.is_writing call) 1 0 + count_by object.is_writing (drop (i + 1) calls)
  counted = sum_by-drop_more (λ x. cond (object.is_writing x) 1 0) calls i call below
      ∙ ap (λ x. cond (object.is_writing x) 1 0 + count_by object.is_writing (drop (i + 1) calls)) (sym at)

  pub asked : SectionStep object caller seen call answer now
  asked = record {
    asks = asks;
    continues = continues object writes caller seen call answer now asks (λ threads. omega (arith, room threads, counted)) memory;
  }

  pub room_more : caller.alone ≡ false → length (own caller.seat now) + count_by object.is_writing (drop (i + 1) calls) ≤ caller.per_seat
  room_more threads = omega (arith, room threads, counted, own_counts object writes caller seen call answer now asked)

  pub section_more : (answers : List (Result Reply Fault)) → Section (SectionStep object caller) first (take i calls) answers seen
      → Section (SectionStep object caller) first (take (i + 1) calls) (answers ++ answer ∷ []) now
  section_more answers so_far =
      rw (take_more calls i call below, ← at) (section_push (SectionStep object caller) first (take i calls) answers seen now call answer so_far asked)

-- a section if nobody else asks
pub section_alone : {State Call Reply : Type 0} (object : Sequential State Call Reply) (seat : ℕ)
    (first : List (ℕ × Call)) (calls : List Call) (answers : List (Result Reply Fault)) (last : List (ℕ × Call))
    → Section (SectionStep object (alone_at seat)) first calls answers last → Section (SaysAlone object seat) first calls answers last
section_alone object seat = section_map (SectionStep object (alone_at seat)) (SaysAlone object seat) (says_alone object seat)

-- one section more, one after the other
module _ {State Call Reply : Type 0} (object : Sequential State Call Reply) where
  pub one_by_one_push : (seat : ℕ) (first : List (ℕ × Call)) (sections : List (List Call)) (answers : List (List (Result Reply Fault))) (next : List (ℕ × Call))
      (calls : List Call) (own : List (Result Reply Fault)) (last : List (ℕ × Call))
      → OneByOne object seat first sections answers next → Section (SaysAlone object (seat + length sections)) next calls own last
      → OneByOne object seat first (sections ++ calls ∷ []) (answers ++ own ∷ []) last
  one_by_one_push seat first [] [] next calls own last o s = (last, rw (o, ← add-zero seat) s, refl)
  one_by_one_push seat first [] (a ∷ answers) next calls own last o s = absurd o
  one_by_one_push seat first (c ∷ sections) [] next calls own last o s = absurd o
  one_by_one_push seat first (c ∷ sections) (a ∷ answers) next calls own last o s =
      let e : seat + length (c ∷ sections) ≡ (seat + 1) + length sections = omega arith in
      (o.0, o.1, one_by_one_push (seat + 1) o.0 sections answers next calls own last o.2 (subst (λ n. Section (SaysAlone object n) next calls own last) e s))
