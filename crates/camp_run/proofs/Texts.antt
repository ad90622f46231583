-- The answers of runs have texts: none of them is out of memory.
use Rattle.std.proofs.Common.{ℕ, ◌+◌, ◌<◌, zero, suc, List, [], ◌∷◌, length, get_or, Result, Ok, Err, subst, arith}
use Rattle.std.specs.List.{All, AllZip}
use Rattle.std.proofs.lemmas.List.{get_or_default}
use Rattle.camp_run.proofs.Words.{All-cons, All-nil, Fault, Call, Reply, Section, Bounds, repository_within, HaveTexts, Entries}
use Rattle.camp_object.specs.declared.faults.Fault.TheVariants.{Memory, Busy, Full}
use Rattle.camp_clients.specs.Answers.{SaysAmongThreads, SaysAlone}
use Rattle.camp_clients.specs.Runs.{IsLocked, IsShared, OneByOne, SaysSomewhere}
use Rattle.camp_script.specs.Texts.{HasText}

module _ (limits : Bounds) where
  reply_has : (reply : Reply) → HasText (Ok reply)
  reply_has reply is = cc

  alone_has : (seat : ℕ) (before : Entries) (call : Call) (answer : Result Reply Fault) (prefix : Entries)
      → SaysAlone (repository_within limits) seat before call answer prefix → HasText answer
  alone_has seat before call (Ok reply) prefix says = reply_has reply
  alone_has seat before call (Err fault) prefix says = absurd says

  shared_has : (seat tries : ℕ) (before : Entries) (call : Call) (answer : Result Reply Fault) (prefix : Entries)
      → SaysAmongThreads (repository_within limits) seat tries before call answer prefix → HasText answer
  shared_has seat tries before call (Ok reply) prefix says = reply_has reply
  shared_has seat tries before call (Err Memory) prefix says = absurd says
  shared_has seat tries before call (Err (Busy lost)) prefix says = λ is. cc
  shared_has seat tries before call (Err Full) prefix says = absurd says

  somewhere_has : (call : Call) (answer : Result Reply Fault) → SaysSomewhere (repository_within limits) call answer → HasText answer
  somewhere_has call (Ok reply) says = reply_has reply
  somewhere_has call (Err fault) says = absurd says

  section_has : (Relates : Entries → Call → Result Reply Fault → Entries → Type 0)
      → ((before : Entries) (call : Call) (answer : Result Reply Fault) (prefix : Entries)
      → Relates before call answer prefix → HasText answer)
      → (first : Entries) (calls : List Call) (answers : List (Result Reply Fault)) (last : Entries)
      → Section Relates first calls answers last → All HasText answers
  section_has Relates each first [] [] last s = All-nil HasText
  section_has Relates each first [] (a ∷ answers) last s = absurd s
  section_has Relates each first (c ∷ calls) [] last s = absurd s
  section_has Relates each first (c ∷ calls) (a ∷ answers) last s =
      All-cons HasText a answers (each first c a s.0 s.1) (section_has Relates each s.0 calls answers last s.2)

  each_has : (calls : List Call) (answers : List (Result Reply Fault)) → AllZip (SaysSomewhere (repository_within limits)) calls answers
      → All HasText answers
  each_has [] [] s = All-nil HasText
  each_has [] (a ∷ answers) s = absurd s
  each_has (c ∷ calls) [] s = absurd s
  each_has (c ∷ calls) (a ∷ answers) s =
      All-cons HasText a answers (somewhere_has c a s.0) (each_has calls answers s.1)

  pub serial_texts : (seat : ℕ) (first : Entries) (sections : List (List Call))
      (answers : List (List (Result Reply Fault))) (last : Entries) → OneByOne (repository_within limits) seat first sections answers last
      → HaveTexts answers
  serial_texts seat first [] [] last s = All-nil (All HasText)
  serial_texts seat first [] (a ∷ answers) last s = absurd s
  serial_texts seat first (c ∷ sections) [] last s = absurd s
  serial_texts seat first (c ∷ sections) (a ∷ answers) last s =
      All-cons (All HasText) a answers (section_has (SaysAlone (repository_within limits) seat) (alone_has seat) first c a s.0 s.1)
      (serial_texts (seat + 1) s.0 sections answers last s.2)

  -- the case in which the answers of each seat have texts
  by_seat : (answers : List (List (Result Reply Fault)))
      → ((seat : ℕ) → seat < length answers → All HasText (get_or answers seat [])) → HaveTexts answers
  by_seat answers each seat d within =
      subst (All HasText) (get_or_default answers seat [] d within) (each seat within)

  module _ (sections : List (List Call)) (answers : List (List (Result Reply Fault))) (history : Entries) where
    locked_section : IsLocked (repository_within limits) sections answers history
        → (seat : ℕ) → seat < length answers → All HasText (get_or answers seat [])
    locked_section is zero within =
        section_has (SaysAlone (repository_within limits) 0) (alone_has 0) [] (get_or sections 0 []) (get_or answers 0 [])
        is.opening.last is.opening.alone
    locked_section is (suc k) within =
        each_has (get_or sections (suc k) []) (get_or answers (suc k) [])
        (is.clients (suc k) (omega arith) (omega (arith, within, is.as_many)))

    pub locked_texts : IsLocked (repository_within limits) sections answers history → HaveTexts answers
    locked_texts is = by_seat answers (locked_section is)

    shared_section : (tries : ℕ) → IsShared (repository_within limits) tries sections answers history
        → (seat : ℕ) → seat < length answers → All HasText (get_or answers seat [])
    shared_section tries is zero within =
        section_has (SaysAmongThreads (repository_within limits) 0 tries) (shared_has 0 tries) [] (get_or sections 0 []) (get_or answers 0 [])
        is.opening.last is.opening.prefixes
    shared_section tries is (suc k) within =
        let client = is.clients (suc k) (omega arith) (omega (arith, within, is.as_many)) in
        section_has (SaysAmongThreads (repository_within limits) (suc k) tries) (shared_has (suc k) tries) is.opening.last
        (get_or sections (suc k) []) (get_or answers (suc k) []) client.last client.prefixes

    pub shared_texts : (tries : ℕ) → IsShared (repository_within limits) tries sections answers history → HaveTexts answers
    shared_texts tries is = by_seat answers (shared_section tries is)
