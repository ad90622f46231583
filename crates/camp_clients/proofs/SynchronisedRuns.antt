-- Lemmas on seats synchronised with the opening's seat, before and after their threads.
use Rattle.camp_clients.proofs.Words.{◌≡◌, ◌⊎◌, ℕ, ◌+◌, ◌<◌, ◌≤◌, suc, zero, false, IfOk, List, [], ◌∷◌, ◌++◌, length, get_or, map, append_assoc, Result, Ok, Err, Vec, refl, sym, ◌∙◌, ap, subst, add-one, inl, inr, arith, All, AllZip, IsBeginning, IsLegal, own, Sequential, Fault, Memory, Busy, Full, SectionStep, SaysAmongThreads, reported_position, HeadId, SeatState, history_of, seat_number, calls_per_seat, Caller, AllZip-long, all_zipped_more, AreNew, IsSynchronised, HasAllOfSeat, IsReady, WasSynchronised, Ran, own_at, done_at, HasPrefixes, IsShared, OwnDone, section_of, Section, begins_through, begins_whole, own-append}
use Rattle.std.proofs.lemmas.List.{append-nil, length-append, length-map, get_or-map, nil_from_length}
use Rattle.camp_clients.proofs.SectionSteps.{either, section_grows, section_map, section_own_at, says, own_at_prefix, own_at_none}
pub use Rattle.camp_clients.proofs.Gathering.{ok_holds, zip_all, zip_at}
use Rattle.camp_clients.proofs.Histories.{append_nil_right}

module _ {A B : Type 0} (R S : A → B → Type 0) (each : (x : A) (y : B) → R x y → S x y) where
  pub zip_map : (xs : List A) (ys : List B) → AllZip R xs ys → AllZip S xs ys
  zip_map [] [] all = tt
  zip_map [] (b ∷ ys) all = absurd all
  zip_map (a ∷ xs) [] all = absurd all
  zip_map (a ∷ xs) (b ∷ ys) all = (each a b all.0, zip_map xs ys all.1)

-- the first prefix of a section can be moved back over calls of others
module _ {State Call Reply : Type 0} (object : Sequential State Call Reply) (seat tries : ℕ)
    (earlier first : List (ℕ × Call)) (prefix : IsBeginning earlier first) (none : own seat prefix.rest ≡ []) where
  says_earlier : (call : Call) (answer : Result Reply Fault) (next : List (ℕ × Call)) → SaysAmongThreads object seat tries first call answer next → SaysAmongThreads object seat tries earlier call answer next
  says_earlier call (Ok reply) next said = either (object.done_at reply) (λ since. (begins_through prefix since.0, since.1))
      (λ at done. record { at_acceptance = done.at_acceptance; since = begins_through prefix done.since; ends = done.ends; position = done.position }) said
  says_earlier call (Err Memory) next said = said
  says_earlier call (Err (Busy lost)) next said = record {
    others = prefix.rest ++ said.others;
    makes = sym (append_assoc earlier prefix.rest said.others) ∙ ap (λ h. h ++ said.others) prefix.makes ∙ said.makes;
    none_own = own-append seat prefix.rest said.others ∙ ap (λ xs. xs ++ own seat said.others) none ∙ said.none_own;
    enough = omega (arith, said.enough, length-append prefix.rest said.others);
    all_lost = said.all_lost;
  }
  says_earlier call (Err Full) next said = said

  pub prefixes_earlier : (calls : List Call) (answers : List (Result Reply Fault)) (history : List (ℕ × Call)) → IsBeginning earlier history
      → HasPrefixes object seat tries first calls answers history → HasPrefixes object seat tries earlier calls answers history
  prefixes_earlier [] [] history within prefixes = record { last = earlier; prefixes = refl; within = within }
  prefixes_earlier [] (a ∷ answers) history within prefixes = absurd prefixes.prefixes
  prefixes_earlier (c ∷ calls) [] history within prefixes = absurd prefixes.prefixes
  prefixes_earlier (c ∷ calls) (a ∷ answers) history within prefixes = record {
    last = prefixes.last;
    prefixes = (prefixes.prefixes.0, says_earlier c a prefixes.prefixes.0 prefixes.prefixes.1, prefixes.prefixes.2);
    within = prefixes.within;
  }

-- who asks at a seat of this number
abbrev pub caller_of : {State : Type 0} → HeadId State → ℕ → Caller
caller_of head number = record { seat = number; tries = head.tries; per_seat = calls_per_seat head; alone = false }

-- from a new seat to the end of the run
module _ {State Call Reply : Type 0} (object : Sequential State Call Reply) (head : HeadId State) (sections : List (List Call)) (opened history : List (ℕ × Call)) where
  -- what the run says of a client's section
  pub record Holds (seat : ℕ) (answers : List (Result Reply Fault)) : Type 0 where
    pub prefixes : HasPrefixes object seat head.tries opened (section_of sections seat) answers history
    pub own_done : own_at seat 0 history ≡ done_at (reported_position object) (section_of sections seat) answers

  module _ (s0 s1 s2 : SeatState State Call) (answers : List (Result Reply Fault)) (fresh : history_of s0 ≡ []) (m1 : IsSynchronised head opened s0 s1)
      (ran : Ran object head sections s1 s2 answers) (synchronised : HasAllOfSeat history s2) where
    asked : Section (SectionStep object (caller_of head (seat_number s0))) (history_of s1) (section_of sections (seat_number s0)) answers (history_of s2)
    asked = subst (λ n. Section (SectionStep object (caller_of head n)) (history_of s1) (section_of sections n) answers (history_of s2)) m1.number ran.section

    none_own : own (seat_number s0) (history_of s1) ≡ []
    none_own = m1.own_stays ∙ ap (own (seat_number s0)) fresh

    none_between : own (seat_number s0) m1.knows.rest ≡ []
    none_between = append_nil_right (own (seat_number s0) opened) (own (seat_number s0) m1.knows.rest)
        (sym (own-append (seat_number s0) opened m1.knows.rest) ∙ ap (own (seat_number s0)) m1.knows.makes ∙ none_own)

    all_own : own (seat_number s0) history ≡ own (seat_number s0) (history_of s2)
    all_own = subst (λ n. own n history ≡ own n (history_of s2)) (ran.number ∙ m1.number) synchronised.own_known

    client_holds : Holds (seat_number s0) answers
    client_holds = record {
      prefixes = prefixes_earlier object (seat_number s0) head.tries opened (history_of s1) m1.knows none_between (section_of sections (seat_number s0)) answers history
          (begins_through m1.knows
          (begins_through (section_grows object (caller_of head (seat_number s0)) (history_of s1) _ _ (history_of s2) asked) synchronised.known))
          (record {
            last = history_of s2;
            prefixes = section_map (SectionStep object (caller_of head (seat_number s0))) (SaysAmongThreads object (seat_number s0) head.tries)
                (says object (caller_of head (seat_number s0))) (history_of s1) _ _ (history_of s2) asked;
            within = synchronised.known;
          });
      own_done =
          own_at_prefix (seat_number s0) (history_of s2) history synchronised.known all_own
          ∙ section_own_at object (caller_of head (seat_number s0)) (history_of s1) (section_of sections (seat_number s0)) answers (history_of s2) asked
          ∙ ap (λ xs. xs ++ done_at (reported_position object) (section_of sections (seat_number s0)) answers) (own_at_none (seat_number s0) 0 (history_of s1) none_own);
    }

  module _ {Z : Type 0} where
    pub clients_hold : (l0 l1 : List (SeatState State Call)) (l2 : List (SeatState State Call × Vec (Result Reply Fault) Z)) → AreNew head l0 → AllZip (IsSynchronised head opened) l0 l1
        → AllZip (λ seat one. Ran object head sections seat one.0 one.1.items) l1 l2
        → All (λ one. HasAllOfSeat history one.0) l2
        → (k : ℕ) (d : SeatState State Call × Vec (Result Reply Fault) Z) → k < length l0 → Holds (k + 1) (get_or l2 k d).1.items
    clients_hold l0 l1 l2 fresh one two synchronised k d below =
        let R : SeatState State Call → SeatState State Call × Vec (Result Reply Fault) Z → Type 0 = λ seat one. Ran object head sections seat one.0 one.1.items in
        let in_l1 : k < length l1 = omega (arith, below, AllZip-long (IsSynchronised head opened) l0 l1 one) in
        let new = fresh k d.0 below in
        let s2 = get_or l2 k d in
        subst (λ n. Holds n s2.1.items) new.1
        (client_holds (get_or l0 k d.0) (get_or l1 k d.0) s2.0 s2.1.items new.2 (zip_at (IsSynchronised head opened) l0 l1 k d.0 d.0 below one)
        (zip_at R l1 l2 k d.0 d in_l1 two) (synchronised k d (omega (arith, in_l1, AllZip-long R l1 l2 two))))

-- a longer history still has all that a seat knew
pub still_synchronised : {State Call : Type 0} (head : HeadId State) (least : ℕ) (h more : List (ℕ × Call)) → IsBeginning h more
    → (before after : List (SeatState State Call)) → AllZip (WasSynchronised head least h) before after → AllZip (WasSynchronised head least more) before after
still_synchronised head least h more grows before after synchronised =
    zip_map (WasSynchronised head least h) (WasSynchronised head least more)
    (λ b a was. record {
      is_seat = was.is_seat;
      number = was.number;
      seen = was.seen;
      earlier = was.earlier;
      synchronised = was.synchronised;
      long = was.long;
      since = begins_through was.since grows;
    }) before after synchronised

-- one more seat was synchronised; the first one says how many calls the history has at least
pub one_synchronised : {State Call : Type 0} (head : HeadId State) (least now : ℕ) (h more : List (ℕ × Call)) (before after : List (SeatState State Call)) (b a : SeatState State Call)
    → IsBeginning h more → AllZip (WasSynchronised head least h) before after → (length after ≡ 0) ⊎ (now ≡ least) → WasSynchronised head now more b a
    → AllZip (WasSynchronised head now more) (before ++ b ∷ []) (after ++ a ∷ [])
one_synchronised head least now h more before after b a grows synchronised (inr same) one =
    all_zipped_more (WasSynchronised head now more) before after b a
    (subst (λ n. AllZip (WasSynchronised head n more) before after) (sym same) (still_synchronised head least h more grows before after synchronised)) one
one_synchronised head least now h more [] [] b a grows synchronised (inl none) one = (one, tt)
one_synchronised head least now h more (x ∷ before) [] b a grows synchronised (inl none) one = absurd synchronised
one_synchronised head least now h more before (y ∷ after) b a grows synchronised (inl none) one = absurd (omega (arith, none))

module _ {State Call : Type 0} (head : HeadId State) (least : ℕ) (history : List (ℕ × Call)) where
  -- where the history is no longer than it was then, all of each seat is known
  pub all_synchronised : (before after : List (SeatState State Call)) → length history ≤ least → AllZip (WasSynchronised head least history) before after → All (HasAllOfSeat history) before
  all_synchronised before after short synchronised k d below =
      let was = zip_at (WasSynchronised head least history) before after k d d below synchronised in
      subst (λ h. HasAllOfSeat h (get_or before k d)) (begins_whole was.earlier history was.since (omega (arith, was.long, short))) was.synchronised

  -- a seat that is synchronised with the opening's once more, and sees no further call of its own, has none in the history beyond
  -- those that it had seen
  synchronised_again : (before mid after : SeatState State Call) → WasSynchronised head least history before mid → IsSynchronised head history mid after → HasAllOfSeat history before
  synchronised_again before mid after first last =
      let number = seat_number before in
      let known = begins_through first.synchronised.known first.since in
      let stays : own number (history_of after) ≡ own number (history_of before) =
      subst (λ n. own n (history_of after) ≡ own n (history_of mid)) first.number last.own_stays ∙ ap (own number) first.seen in
      let whole : own number (history_of after) ≡ own number history ++ own number last.knows.rest =
      ap (own number) (sym last.knows.makes) ∙ own-append number history last.knows.rest in
      let part : own number history ≡ own number (history_of before) ++ own number known.rest =
      ap (own number) (sym known.makes) ∙ own-append number (history_of before) known.rest in
      let one = ap length (sym stays ∙ whole) in
      let other = ap length part in
      let none : own number known.rest ≡ [] = nil_from_length (own number known.rest)
      (omega (arith, one, other, length-append (own number history) (own number last.knows.rest), length-append (own number (history_of before)) (own number known.rest))) in
      record {
        known = known;
        own_known = part ∙ ap (λ rest. own number (history_of before) ++ rest) none ∙ append-nil (own number (history_of before));
      }

  pub all_synchronised_again : (before mid after : List (SeatState State Call)) → AllZip (WasSynchronised head least history) before mid → AllZip (IsSynchronised head history) mid after → All (HasAllOfSeat history) before
  all_synchronised_again before mid after first last k d below =
      synchronised_again (get_or before k d) (get_or mid k d) (get_or after k d) (zip_at (WasSynchronised head least history) before mid k d d below first)
      (zip_at (IsSynchronised head history) mid after k d d (omega (arith, below, AllZip-long (WasSynchronised head least history) before mid first)) last)

-- the results of calls that were granted
module _ {X Y E : Type 0} (R : X → Y → Type 0) where
  pub zip_granted : (jobs : List X) (made : List (Result Y E)) (all : List Y) → length made ≡ length jobs
      → ((i : ℕ) (d : Result Y E) → i < length jobs → (job : X) × (((e : X) → get_or jobs i e ≡ job) × IfOk (get_or made i d) (R job)))
      → AllZip (λ one own. one ≡ Ok own) made all → AllZip R jobs all
  zip_granted [] [] [] long each granted = tt
  zip_granted [] [] (y ∷ all) long each granted = absurd granted
  zip_granted [] (r ∷ made) all long each granted = absurd (omega arith)
  zip_granted (x ∷ jobs) [] all long each granted = absurd (omega arith)
  zip_granted (x ∷ jobs) (r ∷ made) [] long each granted = absurd granted
  zip_granted (x ∷ jobs) (r ∷ made) (y ∷ all) long each granted =
      let first = each 0 r (omega arith) in
      let holds = subst (λ r. IfOk r (R first.0)) granted.0 first.1.1 in (
        subst (λ job. R job y) (sym (first.1.0 x)) holds,
        zip_granted jobs made all (omega arith) (λ i d below. each (suc i) d (omega arith)) granted.1,
      )

-- a whole run, put together
module _ {State Call Reply Z : Type 0} (object : Sequential State Call Reply) (head : HeadId State)
    (sections : List (List Call)) (opened history : List (ℕ × Call)) (opening : List (Result Reply Fault)) (clients : List (SeatState State Call × Vec (Result Reply Fault) Z))
    (d : SeatState State Call × Vec (Result Reply Fault) Z) (as_many : length clients + 1 ≡ length sections)
    (holds : (k : ℕ) (d : SeatState State Call × Vec (Result Reply Fault) Z) → k < length clients → Holds object head sections opened history (k + 1) (get_or clients k d).1.items)
    (ran : Section (SectionStep object (caller_of head 0)) [] (section_of sections 0) opening opened)
    (prefix : IsBeginning opened history) (same : own 0 history ≡ own 0 opened) where
  answers_of : SeatState State Call × Vec (Result Reply Fault) Z → List (Result Reply Fault)
  answers_of one = one.1.items

  all : List (List (Result Reply Fault))
  all = opening ∷ map answers_of clients

  at_client : (k : ℕ) → k < length clients → Holds object head sections opened history (suc k) (section_of all (suc k))
  unfolding all answers_of
  at_client k below = rw (get_or-map answers_of clients k d [] below, ← add-one k) (holds k d below)

  own_done : OwnDone (reported_position object) sections all history
  unfolding all
  own_done zero below = own_at_prefix 0 opened history prefix same
      ∙ section_own_at object (caller_of head 0) [] (section_of sections 0) opening opened ran
  own_done (suc k) below = (at_client k (omega arith)).own_done

  at_clients : (seat : ℕ) → 0 < seat → seat < length sections → HasPrefixes object seat head.tries opened (section_of sections seat) (section_of all seat) history
  at_clients zero some below = absurd (omega arith)
  at_clients (suc k) some below = (at_client k (omega arith)).prefixes

  pub shared_run : IsLegal object history → All (λ entry. entry.0 < length sections) history
      → IsShared object head.tries sections (opening ∷ map (λ one. one.1.items) clients) history
  unfolding all answers_of
  shared_run legal no_other = record {
    legal = legal;
    as_many = omega (arith, length-map clients answers_of);
    exactly = record { own_done = own_done; no_other = no_other };
    opening = record {
      last = opened;
      prefixes = section_map (SectionStep object (caller_of head 0)) (SaysAmongThreads object 0 head.tries) (says object (caller_of head 0)) [] _ _ opened ran;
      within = prefix;
    };
    clients = at_clients;
  }

-- new seats that were synchronised with the opening's can begin
pub can_begin : {State Call : Type 0} (head : HeadId State) (sections : ℕ) (opened : List (ℕ × Call)) (l0 l1 : List (SeatState State Call)) → length l0 + 1 ≡ sections
    → AreNew head l0 → AllZip (IsSynchronised head opened) l0 l1 → All (IsReady head sections) l1
can_begin head sections opened l0 l1 as_many fresh synchronised k d below =
    let short : k < length l0 = omega (arith, below, AllZip-long (IsSynchronised head opened) l0 l1 synchronised) in
    let m = zip_at (IsSynchronised head opened) l0 l1 k d d short synchronised in
    let new = fresh k d short in
    record {
      is_seat = m.is_seat;
      has_section = rw (m.number, new.1) (omega (arith, as_many, short));
      none_own = rw m.number (m.own_stays ∙ ap (own (seat_number (get_or l0 k d))) new.2);
    }
