-- Sections that are asked one after the other of a new book have the result of the definitions of a serial run.
use Rattle.camp_run.proofs.Words.{◌≡◌, ℕ, ◌+◌, List, [], ◌∷◌, ◌++◌, length, map, Option, None, Some, Result, Ok, Err, option_and_then, append-nil, Fault, Next, Answer, SaysAlone, OneByOne, Section, Call, Reply, repositories_are_lawful, Bounds, Contents, Decision, step, Entries}
use Rattle.std.proofs.Common.{MatchOption, refl, sym, ◌∙◌, ap, subst, append_assoc}
use Rattle.std.proofs.lemmas.Option.{same_Some}
use Rattle.camp_object.specs.Histories.{IsBeginning, IsAnswered, IsLegal, replay}
use Rattle.camp_object.proofs.Beginnings.{begins_through, begins_self}
use Rattle.camp_object.proofs.Replays.{count-replay, legal_front, replay_more}
use Rattle.camp_clients.proofs.Single.{locked_is_serial, shared_is_serial}
use Rattle.camp_call.specs.declared.replies.Reply.TheVariants as reply
use Rattle.camp_repo.specs.Objects.{next_of, reply_number, replies_to, reply_of, repository_within, state_after, state_after_decision}
use Rattle.camp_repo.specs.States.{new_within}
use Rattle.camp_run.specs.Laws.{LockedSectionIsSerial, OneByOneIsSerial, SharedSectionIsSerial}
use Rattle.camp_run.specs.Serial.{IsSerial, accepted_from, booked, history_from, replies_from}

-- a repository with these limits
module _ (limits : Bounds) where
  -- a call that is asked alone has the reply of its step, and leads to the state after it
  record IsStep (seat : ℕ) (before : Entries) (state : Contents) (call : Call) (answer : Result Reply Fault)
      (prefix : Entries) (decision : Decision) : Type 0 where
    replies : answer ≡ Ok (reply_of decision)
    books : prefix ≡ before ++ booked decision (seat, call) []
    leads : replay (repository_within limits) prefix ≡ Some (state_after_decision state decision)

  module _ (seat : ℕ) (before : Entries) (state : Contents) (call : Call) (prefix : Entries) where
    done : (at : ℕ) (decision : Decision) → replay (repository_within limits) prefix ≡ next_of decision → IsLegal (repository_within limits) prefix
        → prefix ≡ before ++ (seat, call) ∷ [] → at ≡ length prefix
        → IsStep seat before state call (Ok (reply.Done at)) prefix decision
    done at (Next next) leads legal ends is = record {
      replies = ap (λ n. Ok (reply.Done n)) (is ∙ sym (count-replay (repository_within limits) (repositories_are_lawful limits) prefix next leads));
      books = ends;
      leads = leads;
    }
    done at (Answer answer) leads legal ends is = cc

    answered : (answer : Reply) (decision : Decision) → decision ≡ Answer answer → replay (repository_within limits) before ≡ Some state
        → prefix ≡ before → IsStep seat before state call (Ok answer) prefix decision
    answered answer decision is replays same =
        subst (IsStep seat before state call (Ok answer) prefix) (sym is) (record {
          replies = refl;
          books = same ∙ sym (append-nil before);
          leads = ap (replay (repository_within limits)) same ∙ replays;
        })

    replayed : replay (repository_within limits) before ≡ Some state → prefix ≡ before ++ (seat, call) ∷ []
        → replay (repository_within limits) prefix ≡ next_of (step state call)
    replayed replays ends =
        ap (replay (repository_within limits)) ends ∙ replay_more (repository_within limits) before (seat, call)
        ∙ ap (option_and_then (λ s. next_of (step s call))) replays

    by_position : (position : Option ℕ) (answer : Reply) → reply_number answer ≡ position → replay (repository_within limits) before ≡ Some state
        → IsLegal (repository_within limits) prefix
        → MatchOption position ((prefix ≡ before) × IsAnswered (repository_within limits) before call answer)
        (λ at. (prefix ≡ before ++ (seat, call) ∷ []) × (at ≡ length prefix))
        → IsStep seat before state call (Ok answer) prefix (step state call)
    by_position None answer reports replays legal says =
        let same = same_Some says.1.state state (sym says.1.replays ∙ replays) in
        answered answer (step state call) (ap (λ s. step s call) (sym same) ∙ says.1.gives) replays says.0
    by_position (Some at) answer reports replays legal says =
        subst (λ r. IsStep seat before state call (Ok r) prefix (step state call))
        (sym ((repositories_are_lawful limits).tells_exactly answer at reports))
        (done at (step state call) (replayed replays says.0) legal says.0 says.1)

    is_step : (answer : Result Reply Fault) → replay (repository_within limits) before ≡ Some state → IsLegal (repository_within limits) prefix
        → SaysAlone (repository_within limits) seat before call answer prefix
        → IsStep seat before state call answer prefix (step state call)
    is_step (Ok answer) replays legal says = by_position (reply_number answer) answer refl replays legal says
    is_step (Err fault) replays legal says = absurd says

  -- the history before an answer is a prefix of the history after it
  module _ (seat : ℕ) where
    prefix_grows : (position : Option ℕ) (before : Entries) (call : Call) (prefix : Entries) (P : Type 0)
        → MatchOption position ((prefix ≡ before) × P) (λ at. (prefix ≡ before ++ (seat, call) ∷ []) × (at ≡ length prefix))
        → IsBeginning before prefix
    prefix_grows None before call prefix P says = subst (IsBeginning before) (sym says.0) (begins_self before)
    prefix_grows (Some at) before call prefix P says = record { rest = (seat, call) ∷ []; makes = sym says.0 }

    says_grows : (before : Entries) (call : Call) (answer : Result Reply Fault) (prefix : Entries)
        → SaysAlone (repository_within limits) seat before call answer prefix → IsBeginning before prefix
    says_grows before call (Ok answer) prefix says = prefix_grows (reply_number answer) before call prefix _ says
    says_grows before call (Err fault) prefix says = absurd says

    section_grows : (first : Entries) (calls : List Call) (answers : List (Result Reply Fault)) (last : Entries)
        → Section (SaysAlone (repository_within limits) seat) first calls answers last → IsBeginning first last
    section_grows first [] [] last s = subst (IsBeginning first) s (begins_self first)
    section_grows first [] (a ∷ answers) last s = absurd s
    section_grows first (c ∷ calls) [] last s = absurd s
    section_grows first (c ∷ calls) (a ∷ answers) last s =
        begins_through (says_grows first c a s.0 s.1) (section_grows s.0 calls answers last s.2)

  sections_grow : (seat : ℕ) (first : Entries) (sections : List (List Call)) (answers : List (List (Result Reply Fault)))
      (last : Entries) → OneByOne (repository_within limits) seat first sections answers last → IsBeginning first last
  sections_grow seat first [] [] last s = subst (IsBeginning first) s (begins_self first)
  sections_grow seat first [] (a ∷ answers) last s = absurd s
  sections_grow seat first (c ∷ sections) [] last s = absurd s
  sections_grow seat first (c ∷ sections) (a ∷ answers) last s =
      begins_through (section_grows seat first c a s.0 s.1) (sections_grow (seat + 1) s.0 sections answers last s.2)

  booked_before : (decision : Decision) (entry : ℕ × Call) (rest : Entries)
      → booked decision entry [] ++ rest ≡ booked decision entry rest
  booked_before (Next next) entry rest = refl
  booked_before (Answer answer) entry rest = refl

  -- a section that is asked alone has the replies of its steps, and leads to the state after them
  record IsSection (seat : ℕ) (first : Entries) (state : Contents) (calls : List Call)
      (answers : List (Result Reply Fault)) (last : Entries) : Type 0 where
    replies : answers ≡ map Ok (replies_to state calls)
    books : last ≡ first ++ accepted_from seat state calls
    leads : replay (repository_within limits) last ≡ Some (state_after state calls)

  is_section : (seat : ℕ) (first : Entries) (state : Contents) (calls : List Call) (answers : List (Result Reply Fault))
      (last : Entries) → replay (repository_within limits) first ≡ Some state → IsLegal (repository_within limits) last
      → Section (SaysAlone (repository_within limits) seat) first calls answers last → IsSection seat first state calls answers last
  is_section seat first state [] [] last replays legal s = record {
    replies = refl;
    books = sym s ∙ sym (append-nil first);
    leads = ap (replay (repository_within limits)) (sym s) ∙ replays;
  }
  is_section seat first state [] (a ∷ answers) last replays legal s = absurd s
  is_section seat first state (c ∷ calls) [] last replays legal s = absurd s
  is_section seat first state (c ∷ calls) (a ∷ answers) last replays legal s =
      let decision = step state c in
      let legal_next = legal_front (repository_within limits) (section_grows seat s.0 calls answers last s.2) legal in
      let one = is_step seat first state c s.0 a replays legal_next s.1 in
      let others = is_section seat s.0 (state_after_decision state decision) calls answers last one.leads legal s.2 in
      let rest = accepted_from seat (state_after_decision state decision) calls in
      record {
        replies = ap (λ x. x ∷ answers) one.replies ∙ ap (λ xs. Ok (reply_of decision) ∷ xs) others.replies;
        books = others.books ∙ ap (λ h. h ++ rest) one.books
            ∙ append_assoc first (booked decision (seat, c) []) rest
            ∙ ap (λ h. first ++ h) (booked_before decision (seat, c) rest);
        leads = others.leads;
      }

  -- and sections one after the other do too
  record AreSections (seat : ℕ) (first : Entries) (state : Contents) (sections : List (List Call))
      (answers : List (List (Result Reply Fault))) (last : Entries) : Type 0 where
    replies : answers ≡ map (map Ok) (replies_from state sections)
    books : last ≡ first ++ history_from seat state sections

  are_sections : (seat : ℕ) (first : Entries) (state : Contents) (sections : List (List Call))
      (answers : List (List (Result Reply Fault))) (last : Entries) → replay (repository_within limits) first ≡ Some state
      → IsLegal (repository_within limits) last → OneByOne (repository_within limits) seat first sections answers last
      → AreSections seat first state sections answers last
  are_sections seat first state [] [] last replays legal s =
      record { replies = refl; books = sym s ∙ sym (append-nil first) }
  are_sections seat first state [] (a ∷ answers) last replays legal s = absurd s
  are_sections seat first state (c ∷ sections) [] last replays legal s = absurd s
  are_sections seat first state (c ∷ sections) (a ∷ answers) last replays legal s =
      let legal_next = legal_front (repository_within limits) (sections_grow (seat + 1) s.0 sections answers last s.2) legal in
      let one = is_section seat first state c a s.0 replays legal_next s.1 in
      let others = are_sections (seat + 1) s.0 (state_after state c) sections answers last one.leads legal s.2 in
      let rest = history_from (seat + 1) (state_after state c) sections in
      record {
        replies = ap (λ x. x ∷ answers) one.replies
            ∙ ap (λ xs. map Ok (replies_to state c) ∷ xs) others.replies;
        books = others.books ∙ ap (λ h. h ++ rest) one.books
            ∙ append_assoc first (accepted_from seat state c) rest;
      }

  -- a new book that is asked sections one after the other
  pub serial_run : (sections : List (List Call)) (answers : List (List (Result Reply Fault))) (history : Entries)
      → IsLegal (repository_within limits) history → OneByOne (repository_within limits) 0 [] sections answers history
      → IsSerial limits sections answers history
  serial_run sections answers history legal s =
      let are = are_sections 0 [] (new_within limits) sections answers history refl legal s in
      record { replies = are.replies; books = are.books }

-- sections one after the other, and a single section, over a lock and over a head
pub serial_sections : OneByOneIsSerial
serial_sections limits sections answers history legal s = serial_run limits sections answers history legal s

pub locked_section : LockedSectionIsSerial
locked_section limits calls answers history is =
    serial_run limits (calls ∷ []) answers history is.legal (locked_is_serial (repository_within limits) calls answers history is)

pub shared_section : SharedSectionIsSerial
shared_section limits tries calls answers history some_tries is =
    serial_run limits (calls ∷ []) answers history is.legal (
    shared_is_serial (repository_within limits) tries calls answers history some_tries is)
