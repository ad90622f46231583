-- Lemmas on runs of a single section, and on the calls that are done in runs one after the other.
use Rattle.camp_clients.proofs.Words.{◌≡◌, ℕ, ◌+◌, ◌<◌, List, [], ◌∷◌, ◌++◌, length, MatchOption, Result, Ok, Err, refl, subst, arith, All, IsBeginning, IsAnswered, IsLegal, Sequential, Fault, Section, begins_self, begins_through, SaysAmongThreads, SaysAlone, StepsAlone, reported_position, legal_front, All-weaker, DoneWasAccepted, LockedIsSerial, SharedIsSerial, InTurn, IsExactly, OneByOne}
use Rattle.camp_clients.proofs.SectionSteps.{alone_grows, section_prefix, section_within}
use Rattle.camp_clients.proofs.Histories.{last_accepted}
use Rattle.camp_clients.proofs.OneSection.{alone_begins, leaves_none, section_is_alone}

module _ {State Call Reply : Type 0} (object : Sequential State Call Reply) where
  module _ (calls : List Call) (answers : List (Result Reply Fault)) (others : List (List (Result Reply Fault))) (history : List (ℕ × Call))
      (exactly : IsExactly (reported_position object) (calls ∷ []) (answers ∷ others) history) where
    -- all calls are those of seat 0
    mine : All (λ entry. entry.0 ≡ 0) history
    mine = All-weaker (λ entry. entry.0 < 1) (λ entry. entry.0 ≡ 0) (λ entry below. omega arith) history exactly.no_other

    -- a section asked alone over a lock has the whole history
    pub alone_is_whole : (last : List (ℕ × Call)) → Section (SaysAlone object 0) [] calls answers last → Section (SaysAlone object 0) [] calls answers history
    alone_is_whole last s =
        subst (λ h. Section (SaysAlone object 0) [] calls answers h)
        (leaves_none object 0 history mine last (alone_begins object 0 history calls answers last s (exactly.own_done 0 (omega arith)))) s

    -- a section asked alone over a head has the whole history
    pub shared_is_whole : (tries : ℕ) → 0 < tries → (last : List (ℕ × Call)) → IsBeginning last history
        → Section (SaysAmongThreads object 0 tries) [] calls answers last → Section (SaysAlone object 0) [] calls answers history
    shared_is_whole tries some last within s =
        alone_is_whole last (section_is_alone object 0 history mine tries some [] calls answers last within
        (record { begins = record { rest = history; makes = refl }; are = exactly.own_done 0 (omega arith) }) s)

  pub shared_is_serial : SharedIsSerial object
  shared_is_serial tries calls [] history some run = absurd (let many = run.as_many in cc)
  shared_is_serial tries calls (answers ∷ []) history some run =
      (history, shared_is_whole calls answers [] history run.exactly tries some run.opening.last run.opening.within run.opening.prefixes, refl)
  shared_is_serial tries calls (answers ∷ other ∷ others) history some run = absurd (let many = run.as_many in omega arith)

  pub locked_is_serial : LockedIsSerial object
  locked_is_serial calls [] history run = absurd (let many = run.as_many in cc)
  locked_is_serial calls (answers ∷ []) history run =
      (history, alone_is_whole calls answers [] history run.exactly run.opening.last run.opening.alone, refl)
  locked_is_serial calls (answers ∷ other ∷ others) history run = absurd (let many = run.as_many in omega arith)

  -- the history only grows in a run one after the other
  in_turn_grows : (seat : ℕ) (first : List (ℕ × Call)) (sections : List (List Call)) (answers : List (List (Result Reply Fault))) (last : List (ℕ × Call))
      → OneByOne object seat first sections answers last → IsBeginning first last
  in_turn_grows seat first [] [] last o = subst (IsBeginning first) o (begins_self first)
  in_turn_grows seat first [] (a ∷ answers) last o = absurd o
  in_turn_grows seat first (c ∷ sections) [] last o = absurd o
  in_turn_grows seat first (c ∷ sections) (a ∷ answers) last o =
      begins_through (section_prefix (SaysAlone object seat) (alone_grows object seat) first c a o.0 o.1)
      (in_turn_grows (seat + 1) o.0 sections answers last o.2)

  module _ (history : List (ℕ × Call)) (legal : IsLegal object history) where
    steps_alone : (seat : ℕ) (before : List (ℕ × Call)) (call : Call) (answer : Result Reply Fault) (prefix : List (ℕ × Call))
        → IsBeginning prefix history → SaysAlone object seat before call answer prefix → StepsAlone object seat before call answer prefix
    steps_alone seat before call (Ok reply) prefix within says = record {
      says = says;
      accepted = λ at is.
          let done = subst (λ reported_position. MatchOption reported_position ((prefix ≡ before) × IsAnswered object before call reply) (λ at. (prefix ≡ before ++ (seat, call) ∷ []) × (at ≡ length prefix))) is says in
          last_accepted object before (seat, call) (subst (IsLegal object) done.0 (legal_front object within legal));
    }
    steps_alone seat before call (Err fault) prefix within says = absurd says

    steps_in_turn : (seat : ℕ) (first : List (ℕ × Call)) (sections : List (List Call)) (answers : List (List (Result Reply Fault))) (last : List (ℕ × Call))
        → IsBeginning last history → OneByOne object seat first sections answers last → InTurn (StepsAlone object) seat first sections answers last
    steps_in_turn seat first [] [] last within o = o
    steps_in_turn seat first [] (a ∷ answers) last within o = o
    steps_in_turn seat first (c ∷ sections) [] last within o = o
    steps_in_turn seat first (c ∷ sections) (a ∷ answers) last within o =
        let next = begins_through (in_turn_grows (seat + 1) o.0 sections answers last o.2) within in (
          o.0,
          section_within (SaysAlone object seat) (alone_grows object seat) (StepsAlone object seat) history (steps_alone seat) first c a o.0 next o.1,
          steps_in_turn (seat + 1) o.0 sections answers last within o.2,
        )

  pub done_was_accepted : DoneWasAccepted object
  done_was_accepted sections answers history legal o = steps_in_turn history legal 0 [] sections answers history (begins_self history) o
