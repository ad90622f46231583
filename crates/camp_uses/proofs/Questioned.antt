-- The answer to a question, and the result of a call that uses it.
use Rattle.camp_uses.proofs.Words.{◌≡◌, ◌≢◌, ◌<◌, ◌||◌, ◌⊎◌, inl, inr, ℕ, Bool, true, false, not, ◌&&◌, List, [], ◌∷◌, ◌++◌, map, length, Option, None, Some, Result, Ok, Err, IsErrAnd, bytes_eq, refl, sym, ap, ◌∙◌, subst, arith, same_Some, Catch, has_patch, is_among, name_of, names_of, other_names}
use Rattle.camp_uses.proofs.Words.{Outcome, Reply, Next, Answer, AcceptedCallsHaveEffect, Has, Contents, catches_of, Decision, becomes, first_lacked, is_empty, is_full_with, pull_wanted, refused, refused_if, step, wanted, with_patches, IsShown, PatchContents, patch_in, GoesWithHeld, HasThem, IsRefusal, MayRefuse, MayRefuseFor, PullsAlong}
use Rattle.std.specs.Option.{option_map_or}
use Rattle.std.proofs.lemmas.List.Folds.{list_any-append}
use Rattle.camp_branch.specs.declared.faults.Blocked.TheVariants as blocked
use Rattle.camp_branch.proofs.AgreedFronts.{front_has}
use Rattle.camp_branch.proofs.Names.{same_name}
use Rattle.camp_branch.proofs.NamesKept.{among_kept, among_once}
use Rattle.camp_call.specs.declared.calls.Call.TheVariants as call
use Rattle.camp_call.specs.declared.replies.Reply.TheVariants as reply
use Rattle.camp_call.specs.declared.replies.Refusal.{Refusal}
use Rattle.camp_call.specs.declared.replies.Refusal.TheVariants.{Depends, Diverged, NoBranch, NoPatch, NothingToDo, SameBranch, TooLarge}
use Rattle.camp_repo.specs.Lawful.{IsLawfulState}
use Rattle.camp_repo.specs.Outcomes.{pulled}
use Rattle.camp_questions.specs.Along.{AlongOr, AreAlong, AreNamesToPull, OfTwo, ReportsAlong}
use Rattle.camp_questions.specs.Answers.{AnswerOf, OfBranch, OfPatches, ReportsAnswer}
use Rattle.camp_questions.specs.Dependencies.{AreHeldBy, HeldBy}
use Rattle.camp_questions.specs.Laws.{AlongIsEnough, HeldCanBeTakenOut}
use Rattle.camp_questions.specs.declared.faults.Unanswered.{Unanswered}
use Rattle.camp_questions.specs.declared.faults.Unanswered.TheVariants.{Refused, Memory}
use Rattle.camp_questions.proofs.AlongEnough.{none_left}
use Rattle.camp_questions.proofs.Answering.{by_branch, by_patches, no_refusal, same_answer}
use Rattle.camp_questions.proofs.BranchGrowths.{none_lacked_among}
use Rattle.camp_questions.proofs.Growths.{in_order_there}

-- a question for patches of a branch
abbrev Asks : {A : Type 0} → Contents → List ℕ → List (List ℕ) → (List Catch → AnswerOf A → Type 0) → AnswerOf A → Type 0
Asks state branch names Inner = OfBranch state branch (λ catches. OfPatches catches names (Inner catches))

-- there is the branch, it has the patches, and this is answered
record IsAnswered {A : Type 0} (state : Contents) (branch : List ℕ) (names : List (List ℕ)) (Inner : List Catch → AnswerOf A → Type 0) (answer : AnswerOf A) : Type 0 where
  catches : List Catch
  has : Has state branch catches
  all : first_lacked catches names ≡ None
  is : Inner catches answer

same_refusal : {A : Type 0} (result : AnswerOf A) (one other : Refusal) → result ≡ Err one → result ≡ Err other → one ≡ other
same_refusal result one other e f = cc

-- why a question for patches of a branch is refused: there is no branch, or this is the first patch that it lacks
abbrev IsRefused : Contents → List ℕ → List (List ℕ) → Refusal → Type 0
IsRefused state branch names refusal =
    ((catches_of state.branches branch ≡ None) × (refusal ≡ NoBranch branch))
    ⊎ ((catches : List Catch) × (name : List ℕ) × Has state branch catches × (first_lacked catches names ≡ Some name) × (refusal ≡ NoPatch name))

module _ {A : Type 0} (state : Contents) (branch : List ℕ) (names : List (List ℕ)) (Inner : List Catch → AnswerOf A → Type 0) (result : AnswerOf A) where
  asked : Asks state branch names Inner result → IsAnswered state branch names Inner result ⊎ ((refusal : Refusal) × (result ≡ Err refusal) × IsRefused state branch names refusal)
  asked asks =
      by_branch state branch (λ catches. OfPatches catches names (Inner catches)) result asks
      (λ none e. inr (NoBranch branch, e, inl (none, refl))) (λ catches has w.
      by_patches catches names (Inner catches) result w
      (λ name lacks e. inr (NoPatch name, e, inr (catches, name, has, lacks, refl)))
      (λ all is. inl (record { catches = catches; has = has; all = all; is = is })))

  answered : (answer : A) → result ≡ Ok answer → Asks state branch names Inner result → IsAnswered state branch names Inner result
  answered answer is asks = elim (asked asks) [
    | inl w ↦ w
    | inr w ↦ absurd (no_refusal w.0 answer result w.1 is)
  ]

  refused_by : (refusal : Refusal) → result ≡ Err refusal → ((catches : List Catch) → ¬ (Inner catches result)) → Asks state branch names Inner result → IsRefused state branch names refusal
  refused_by refusal is never asks = elim (asked asks) [
    | inl w ↦ absurd (never w.catches w.is)
    | inr w ↦ subst (IsRefused state branch names) (same_refusal result w.0 refusal w.1 is) w.2
  ]

-- a fact about an error is one about the result that has it
pub told_as : {A : Type 0} (ComesTo : AnswerOf A → Type 0) (result : Result A Unanswered) (why : Unanswered) → IsErrAnd result (λ other. other ≡ why) → ReportsAnswer ComesTo (Err why) → ReportsAnswer ComesTo result
told_as ComesTo (Ok answer) why is told = absurd is
told_as ComesTo (Err other) why is told = subst (λ e. ReportsAnswer ComesTo (Err e)) (sym is) told

-- names that are answered
abbrev Related : (List Catch → List (List ℕ) → List (List ℕ) → Type 0) → List (List ℕ) → List Catch → AnswerOf (List (List ℕ)) → Type 0
Related Relates names catches answer =
    (related : List (List ℕ)) × (answer ≡ Ok related) × Relates catches names related

never_related : (Relates : List Catch → List (List ℕ) → List (List ℕ) → Type 0) (names : List (List ℕ)) (refusal : Refusal) (catches : List Catch) → ¬ (Related Relates names catches (Err refusal))
never_related Relates names refusal catches w = no_refusal refusal w.0 (Err refusal) refl w.1

relates : (Relates : List Catch → List (List ℕ) → List (List ℕ) → Type 0) (names : List (List ℕ)) (catches : List Catch) (answer : List (List ℕ)) → Related Relates names catches (Ok answer) → Relates catches names answer
relates Relates names catches answer w =
    subst (Relates catches names) (same_answer (Ok answer) w.0 answer w.1 refl) w.2

-- both branches are there, and this comes along
record IsAlong (state : Contents) (from to : List ℕ) (names told : List (List ℕ)) : Type 0 where
  theirs : List Catch
  ours : List Catch
  from_has : Has state from theirs
  to_has : Has state to ours
  all : first_lacked theirs names ≡ None
  comes : AreNamesToPull theirs ours names told

module _ (state : Contents) (from to : List ℕ) (names : List (List ℕ)) where
  -- a question about the catches of two branches
  abbrev Between : List Catch → List Catch → AnswerOf (List (List ℕ)) → Type 0
  Between theirs ours = OfTwo from to (OfPatches theirs names (AlongOr theirs ours names))

  -- the names to pull are in the answer, or this is why the pull may be refused
  abbrev Tell : AnswerOf (List (List ℕ)) → Type 0
  Tell (Ok told) = IsAlong state from to names told
  Tell (Err refusal) = MayRefuseFor state from to names refusal

  told_along : (answer : AnswerOf (List (List ℕ))) → AreAlong state from to names answer → Tell answer
  told_along answer asks =
      by_branch state from (λ theirs. OfBranch state to (Between theirs)) answer asks (λ none e. subst Tell (sym e) none) (λ theirs from_has w.
      by_branch state to (Between theirs) answer w (λ none e. subst Tell (sym e) none) (λ ours to_has v. elim v [
        | inl one ↦ subst Tell (sym one.1) one.0
        | inr two ↦ by_patches theirs names (AlongOr theirs ours names) answer two.1 (λ name lacks e. subst Tell (sym e) (theirs, from_has, lacks)) (λ all u. elim u [
          | inl it ↦ subst Tell (sym it.1) (record { theirs = theirs; ours = ours; from_has = from_has; to_has = to_has; all = all; comes = it.2 })
          | inr apart ↦ subst Tell (sym apart.1) tt
        ])
      ]))

  -- the question is refused as the pull is
  pub along_refused : (why : Unanswered) → ReportsAlong state from to names (Err why) → MayRefuse state from to names why
  along_refused Memory told = tt
  along_refused (Refused refusal) told = told_along (Err refusal) told

-- a pull is accepted, or refused for what it may be
abbrev AnswersSo : Contents → List ℕ → List ℕ → List (List ℕ) → Decision → Type 0
AnswersSo state from to names (Next next) = Unit {0}
AnswersSo state from to names (Answer (reply.Refused refusal)) = MayRefuseFor state from to names refusal
AnswersSo state from to names (Answer other) = ⊥

is_refusal : (state : Contents) (from to : List ℕ) (names : List (List ℕ)) (told : Reply) → AnswersSo state from to names (Answer told) → IsRefusal told
is_refusal state from to names (reply.Refused refusal) w = (refusal, refl)
is_refusal state from to names other w = absurd w

-- a list without a name has none
none_among : {A : Type 0} (names : List (List ℕ)) (n : List ℕ) → is_empty names ≡ true → is_among names n ≡ true → A
none_among [] n none among = cc
none_among (name ∷ names) n none among = cc

-- the same for a decision that is not a refusal because one patch depends on another
abbrev UnlessHeld : Contents → List ℕ → List ℕ → List (List ℕ) → Decision → Type 0
UnlessHeld state from to names decision =
    ((patch on : List ℕ) → ¬ (decision ≡ refused (Depends patch on))) → AnswersSo state from to names decision

module _ (state : Contents) (from to : List ℕ) (names told : List (List ℕ)) (along : IsAlong state from to names told) where
  -- the name that the branch lacks is reported
  is_told : (n : List ℕ) → is_among names n ≡ true → has_patch along.ours n ≡ false → is_among told n ≡ true
  is_told n among lacks =
      let all = wanted along.ours names ++ along.comes.3.0 in
      let is_wanted : is_among (wanted along.ours names) n ≡ true = among_kept (λ name. not (has_patch along.ours name)) names n ∙ (λ i. among i && not (lacks i)) in
      let is_one : is_among all n ≡ true = list_any-append (bytes_eq n) (wanted along.ours names) _ ∙ ap (λ b. b || is_among along.comes.3.0 n) is_wanted in
      let is_theirs : is_among (names_of along.theirs) n ≡ true = among_once (map name_of along.theirs) n ∙ none_lacked_among along.theirs names along.all n among in
      ap (λ l. is_among l n) along.comes.3.2 ∙ among_kept (is_among all) (names_of along.theirs) n ∙ (λ i. is_theirs i && is_one i)

  -- if none of the names in the answer is wanted, the branch has the patches
  none_wanted : is_empty (wanted along.ours told) ≡ true → HasThem along.ours names
  none_wanted none n among = by_patch (has_patch along.ours n) refl
    where
      by_patch : (b : Bool) → has_patch along.ours n ≡ b → b ≡ true
      by_patch true e = refl
      by_patch false e =
          none_among (wanted along.ours told) n none (among_kept (λ name. not (has_patch along.ours name)) told n ∙ (λ i. is_told n among e i && not (e i)))

  by_outcome : (outcome : Outcome) → UnlessHeld state from to names (becomes state to outcome)
  by_outcome (Ok catches) free = tt
  by_outcome (Err (blocked.Depends patch on)) free = absurd (free patch on refl)
  by_outcome (Err (blocked.Diverged name)) free = tt
  by_outcome (Err (blocked.NoMerge left right)) free = tt

  by_tests : (none full : Bool) (outcome : Outcome) → is_empty (wanted along.ours told) ≡ none → UnlessHeld state from to names (refused_if none NothingToDo (refused_if full TooLarge (becomes state to outcome)))
  by_tests true full outcome e free = (along.ours, along.to_has, none_wanted e)
  by_tests false true outcome e free = tt
  by_tests false false outcome e free = by_outcome outcome free

  by_lacked : (o : Option (List ℕ)) → o ≡ None → UnlessHeld state from to names (option_map_or (λ name. refused (NoPatch name)) o (pull_wanted state to along.theirs along.ours (wanted along.ours told)))
  by_lacked None e free =
      by_tests (is_empty (wanted along.ours told)) (is_full_with state.limits.catches along.ours along.theirs (wanted along.ours told)) (pulled along.theirs along.ours (wanted along.ours told)) refl free
  by_lacked (Some name) e free = cc

  by_two : (b : Bool) → bytes_eq from to ≡ b → UnlessHeld state from to names (refused_if b (SameBranch to) (with_patches along.theirs told (pull_wanted state to along.theirs along.ours (wanted along.ours told))))
  by_two true e free = same_name from to e
  by_two false e free = by_lacked (first_lacked along.theirs told) (none_left along.theirs along.ours names told along.all along.comes) free

  answers_unless : UnlessHeld state from to names (step state (call.Pull from to (Some told)))
  answers_unless = rw along.from_has (rw along.to_has (by_two (bytes_eq from to) refl))

module _ (state : Contents) (from to : List ℕ) (names told : List (List ℕ)) (enough : AlongIsEnough) (is : AreAlong state from to names (Ok told)) where
  found : IsAlong state from to names told
  found = told_along state from to names (Ok told) is

  pull_answers : AnswersSo state from to names (step state (call.Pull from to (Some told)))
  pull_answers = answers_unless state from to names told found (enough state from to names told is).1

  -- an answer to the pull is a refusal
  pub pull_told : (reply : Reply) → Answer reply ≡ step state (call.Pull from to (Some told)) → IsRefusal reply
  pull_told reply e = is_refusal state from to names reply (subst (AnswersSo state from to names) (sym e) pull_answers)

  -- and it is refused for what it may be
  pub pull_refused : (answer : Reply) (refusal : Refusal) → Answer answer ≡ step state (call.Pull from to (Some told)) → answer ≡ reply.Refused refusal → MayRefuseFor state from to names refusal
  pull_refused answer refusal e is_so =
      subst (λ r. AnswersSo state from to names (Answer r)) is_so (subst (AnswersSo state from to names) (sym e) pull_answers)

  either_way : (h : Bool) → (h || (true && (true && not h))) ≡ true
  either_way true = refl
  either_way false = refl

  -- the catches that an accepted pull appends
  pub pull_brings : AcceptedCallsHaveEffect → (next : Contents) → IsLawfulState state → Next next ≡ step state (call.Pull from to (Some told)) → PullsAlong state from to names next
  pull_brings effect next lawful e =
      let pulls = effect state (call.Pull from to (Some told)) next lawful (sym e) in
      let ours = pulls.ours in
      let same : pulls.theirs ≡ found.theirs = same_Some pulls.theirs found.theirs (sym pulls.from_has ∙ found.from_has) in
      let own : ours ≡ found.ours = same_Some ours found.ours (sym pulls.to_has ∙ found.to_has) in
      let has_told : HasThem (ours ++ pulls.taken) told = λ n among.
      let wanted_so : is_among (wanted ours told) n ≡ (true && not (has_patch ours n)) = among_kept (λ name. not (has_patch ours name)) told n ∙ ap (λ b. b && not (has_patch ours n)) among in
      let theirs_has : is_among (names_of pulls.theirs) n ≡ true = among_once (map name_of pulls.theirs) n ∙ ap (λ l. has_patch l n) same ∙ in_order_there found.theirs (wanted found.ours names ++ found.comes.3.0) n (ap (λ l. is_among l n) (sym found.comes.3.2) ∙ among) in
      sym (among_once (map name_of (ours ++ pulls.taken)) n) ∙ ap (λ l. is_among l n) pulls.named ∙ list_any-append (bytes_eq n) (names_of ours) _ ∙ (λ i. among_once (map name_of ours) n i || (among_kept (is_among (wanted ours told)) (names_of pulls.theirs) n ∙ (λ j. theirs_has j && wanted_so j)) i) ∙ either_way (has_patch ours n) in
      record {
        theirs = found.theirs;
        from_has = found.from_has;
        ours = found.ours;
        to_has = found.to_has;
        told = told;
        comes = found.comes;
        pulls = pulls;
        new = ours ++ pulls.taken;
        becomes = pulls.becomes;
        has_names = λ n among. has_name ours pulls.taken own has_told n among (has_patch ours n) refl;
        has_told = has_told;
      }
    where
      has_name : (ours taken : List Catch) → ours ≡ found.ours → HasThem (ours ++ taken) told → (n : List ℕ) → is_among names n ≡ true → (b : Bool) → has_patch ours n ≡ b → has_patch (ours ++ taken) n ≡ true
      has_name ours taken own has_told n among true e = front_has ours taken n e
      has_name ours taken own has_told n among false e =
          has_told n (is_told state from to names told found n among (ap (λ l. has_patch l n) (sym own) ∙ e))

not_none : (names : List (List ℕ)) → 0 < length names → names ≢ []
not_none names some e = let none : length names ≡ 0 = ap length e in absurd (omega (some, none, arith))

accepted_and_answered : {A : Type 0} (decision : Decision) (next : Contents) (answer : Reply) → decision ≡ Next next → Answer answer ≡ decision → A
accepted_and_answered decision next answer v w = cc

module _ (state : Contents) (branch : List ℕ) (names : List (List ℕ)) (some : 0 < length names) (can : HeldCanBeTakenOut) (effect : AcceptedCallsHaveEffect) (lawful : IsLawfulState state) where
  module _ (held : List (List ℕ)) (told : AreHeldBy state branch names (Ok held)) where
    found_held : IsAnswered state branch names (Related HeldBy names) (Ok held)
    found_held = answered state branch names (Related HeldBy names) (Ok held) held refl told

    held_these : HeldBy found_held.catches names held
    held_these = relates HeldBy names found_held.catches held found_held.is

    -- the obliteration is accepted
    pub goes : (next : Contents) × (step state (call.Obliterate branch held) ≡ Next next)
    goes =
        (can state branch found_held.catches names held found_held.has found_held.all (not_none names some) held_these).0

    pub goes_with_held : (next : Contents) → Next next ≡ step state (call.Obliterate branch held) → GoesWithHeld state branch names (Ok next)
    goes_with_held next e =
        let out = effect state (call.Obliterate branch held) next lawful (sym e) in
        let same : out.catches ≡ found_held.catches = same_Some out.catches found_held.catches (sym out.was ∙ found_held.has) in
        rw found_held.has (rw found_held.all (next, refl, (held, held_these, (out.left, out.becomes, subst (λ l. names_of out.left ≡ other_names l held) same out.named))))

    pub never_answered : {A : Type 0} (answer : Reply) → Answer answer ≡ step state (call.Obliterate branch held) → A
    never_answered answer e =
        accepted_and_answered (step state (call.Obliterate branch held)) goes.0 answer goes.1 e

    -- memory ran out, and could run out there
    pub would_go : (next : Contents) × GoesWithHeld state branch names (Ok next)
    would_go = let w = goes in (w.0, goes_with_held w.0 (sym w.1))

  -- the question is refused, or memory ran out
  pub held_refused : (why : Unanswered) → ReportsAnswer (AreHeldBy state branch names) (Err why) → ReportsAnswer (GoesWithHeld state branch names) (Err why)
  held_refused Memory told = would_go told.0 told.1
  held_refused (Refused refusal) told = elim (refused_by state branch names (Related HeldBy names) (Err refusal) refusal refl (never_related HeldBy names refusal) told) [
    | inl w ↦ rw w.0 (ap Err w.1)
    | inr w ↦ rw w.2 (rw w.3 (ap Err w.4))
  ]

-- a patch was shown
pub shown_is : (state : Contents) (branch name : List ℕ) (shown : PatchContents) → IsShown state branch name (Ok shown) → (catches : List Catch) × Has state branch catches × (shown ≡ patch_in catches name)
shown_is state branch name shown told =
    let found = answered state branch (name ∷ []) (λ catches answer. answer ≡ Ok (patch_in catches name)) (Ok shown) shown refl told in
    (found.catches, found.has, same_answer (Ok shown) shown (patch_in found.catches name) refl found.is)
