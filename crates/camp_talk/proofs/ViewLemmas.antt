-- The answers of a view, command by command.
use Rattle.camp_talk.proofs.Words.{◌≡◌, ℕ, true, false, List, [], ◌∷◌, ◌++◌, length, Some, ap, append-nil, append_assoc, flat_map, flat_map-append, refl, subst, sym, take, take-append_seam, ◌∙◌, Call, Exchange, IsCommand, IsReading, Consumes, Option, arith, lines_of}
use Rattle.camp_talk.specs.Inside.Viewing.{HasAnsweredView, SeesStep, IsUnseen, IsUnshown}
use Rattle.camp_talk.specs.Views.{AnswersView, AnswersViewCommand, SeesAll}
use Rattle.camp_talk.specs.declared.faults.TalkFault.{TalkFault}
use Rattle.camp_talk.specs.declared.faults.TalkFault.TheVariants.{Internal, Memory, Read, Write}
use Rattle.camp_call.specs.Calls.{is_writing}
use Rattle.camp_object.specs.declared.objects.Decided.TheVariants.{Next}
use Rattle.camp_repo.specs.ObjectLaws.{repository_is_lawful}
use Rattle.camp_repo.specs.Objects.{next_of}
use Rattle.camp_repo.specs.States.{Contents}
use Rattle.camp_repo.specs.Steps.{step}

-- only a call that writes leads to a next state
pub leads_on : (state : Contents) (call : Call) (next : Contents) → step state call ≡ Next next → is_writing call ≡ true
leads_on state call next is = repository_is_lawful.writes state call next (ap next_of is)

abbrev commands : List Exchange → List ℕ
commands exchanges = flat_map (λ (exchange : Exchange). exchange.command) exchanges

abbrev answers : List Exchange → List ℕ
answers exchanges = flat_map (λ (exchange : Exchange). exchange.answer) exchanges

-- one more after others
one_after : (part : Exchange → List ℕ) (exchanges : List Exchange) (more : Exchange)
    → flat_map part exchanges ++ part more ≡ flat_map part (exchanges ++ more ∷ [])
one_after part exchanges more =
    ap (λ bytes. flat_map part exchanges ++ bytes) (sym (append-nil (part more))) ∙ sym (flat_map-append part exchanges (more ∷ []))

module _ (a b : Option (List ℕ)) (before : ℕ) where
  -- no command was read
  pub unread : (why : TalkFault) → IsReading why → IsUnseen a b before why
  unread Internal is = absurd is
  unread other is = is

  -- or it was not answered
  pub unshown : (command : List ℕ) → Consumes a b command → (count : ℕ) → count ≡ length (lines_of command) → (why : TalkFault)
      → IsUnshown before count why → IsUnseen a b before why
  unshown command reads count is Memory why = tt
  unshown command reads count is (Read error) why = absurd why
  unshown command reads count is (Write error) why = why
  unshown command reads count is Internal many = record { command = command; reads = reads; many = omega (arith, is, many) }

-- bytes that were appended to an answer are removed again
pub taken_back : (old more new : List ℕ) → new ≡ old ++ more → take (length old) new ≡ old
taken_back old more new is = ap (λ bytes. take (length old) bytes) is ∙ take-append_seam old more

module _ (state : Contents) where
  -- at first no command was answered
  pub begins_view : (request old : List ℕ) → HasAnsweredView request request old old state 0
  begins_view request old = record { exchanges = []; sees = refl; reads = refl; writes = sym (append-nil old) }

  -- one more command is answered
  one_more : (first middle last : ℕ) (exchanges : List Exchange) (more : Exchange) → SeesAll state first exchanges middle
      → IsCommand more.command → AnswersViewCommand state middle more last → SeesAll state first (exchanges ++ more ∷ []) last
  one_more first middle last [] more sees is one =
      subst (λ (before : ℕ). SeesAll state before (more ∷ []) last) (sym sees) (last, is, one, refl)
  one_more first middle last (exchange ∷ exchanges) more (next, command, seen, sees) is one =
      (next, command, seen, one_more next middle last exchanges more sees is one)

  module _ (request left rest old held new : List ℕ) (middle last : ℕ) where
    -- there may be more
    pub sees_on : HasAnsweredView request left old held state middle
        → SeesStep (Some left) (Some rest) held new state middle true last → HasAnsweredView request rest old new state last
    sees_on holds sees_step =
        let more : Exchange = sees_step.exchange in
        record {
          exchanges = holds.exchanges ++ more ∷ [];
          sees = one_more 0 middle last holds.exchanges more holds.sees sees_step.reads.1 sees_step.sees;
          reads =
              holds.reads ∙ ap (λ bytes. commands holds.exchanges ++ bytes) sees_step.reads.0
              ∙ sym (append_assoc (commands holds.exchanges) more.command rest)
              ∙ ap (λ bytes. bytes ++ rest) (one_after (λ (exchange : Exchange). exchange.command) holds.exchanges more);
          writes =
              sees_step.grows ∙ ap (λ bytes. bytes ++ more.answer) holds.writes
              ∙ append_assoc old (answers holds.exchanges) more.answer
              ∙ ap (λ bytes. old ++ bytes) (one_after (λ (exchange : Exchange). exchange.answer) holds.exchanges more);
        }

    -- after the last command
    pub view_answered : HasAnsweredView request left old held state middle
        → SeesStep (Some left) (Some rest) held new state middle false last
        → (text : List ℕ) × (new ≡ old ++ text) × AnswersView state request text
    view_answered holds sees_step =
        let all : left ≡ sees_step.exchange.command =
        sees_step.reads.0 ∙ ap (λ (bytes : List ℕ). sees_step.exchange.command ++ bytes) sees_step.reads.2 ∙ append-nil sees_step.exchange.command in (
          answers holds.exchanges ++ sees_step.exchange.answer,
          sees_step.grows ∙ ap (λ bytes. bytes ++ sees_step.exchange.answer) holds.writes
              ∙ append_assoc old (answers holds.exchanges) sees_step.exchange.answer,
          record {
            exchanges = holds.exchanges;
            last = sees_step.exchange;
            middle = middle;
            after = last;
            sees = holds.sees;
            is = sees_step.reads.1;
            ends = sees_step.sees;
            asks = holds.reads ∙ ap (λ bytes. commands holds.exchanges ++ bytes) all;
            reports = refl;
          },
        )
