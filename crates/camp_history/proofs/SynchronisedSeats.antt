-- Lemmas on seats that are synchronised.
use Rattle.camp_history.proofs.Words.{IsBeginning, own, Fault, Memory, SeatState, seat_and_call, history_of, entry_of, seen_entries, SeesMore, ◌≡◌, ℕ, ◌≤◌, ◌⊎◌, cases_lt, inl, inr, List, [], ◌++◌, length, map, Result, OnOk, IfErr, sym, ◌∙◌, ap, subst, arith, length-map, length-append, append-nil, nil_from_length, own-append, begins_through, begins_shorter, FindsChain}
use Rattle.camp_row.specs.Chains as chain
use Rattle.camp_history.specs.Synchronising.{Synchronises}
use Rattle.camp_history.proofs.Seeing.{length-own}

-- a history that has as many calls of a seat as a prefix of it has no others
pub own_front : {Call : Type 0} (seat : ℕ) (front whole : List (ℕ × Call)) → IsBeginning front whole → length (own seat whole) ≡ length (own seat front) → own seat whole ≡ own seat front
own_front seat front whole begins same =
    let parts : own seat whole ≡ own seat front ++ own seat begins.rest = ap (own seat) (sym begins.makes) ∙ own-append seat front begins.rest in
    let lengths : length (own seat whole) ≡ length (own seat front ++ own seat begins.rest) = ap length parts in
    let none : own seat begins.rest ≡ [] = nil_from_length (own seat begins.rest) (omega (arith, length-append (own seat front) (own seat begins.rest))) in
    parts ∙ ap (λ rest. own seat front ++ rest) none ∙ append-nil (own seat front)

module _ {State Call : Type 0} (a b synchronised a' b' : SeatState State Call) (a_finds : FindsChain a.known synchronised.known) (a_marks : synchronised.marks ≡ a.marks) (b_finds : FindsChain b.known b'.known) (b_marks : b'.marks ≡ b.marks)
    (more : SeesMore synchronised a') (a_shorter : length a'.marks ≤ length b'.marks → IsBeginning (history_of a') (history_of b'))
    (b_shorter : length b'.marks ≤ length a'.marks → IsBeginning (history_of b') (history_of a')) where
  b_stays : history_of b' ≡ history_of b
  b_stays = ap (map seat_and_call) b_marks

  a_number : synchronised.known.number ≡ a.known.number
  a_number = ap (λ known. known.number) a_finds.is

  grows : IsBeginning (history_of a) (history_of a')
  grows = let IsMarkPrefix : List (ℕ × Call) → Type 0 = λ list. IsBeginning list (history_of a') in subst IsMarkPrefix (ap (map seat_and_call) a_marks) more.more

  one_begins : (IsBeginning (history_of a) (history_of b)) ⊎ (IsBeginning (history_of b) (history_of a))
  one_begins =
      let IsMarkPrefix : List (ℕ × Call) → Type 0 = λ list. IsBeginning (history_of a) list in
      let Ends : List (ℕ × Call) → Type 0 = λ list. IsBeginning list (history_of a') in
      elim (cases_lt (length a'.marks) (length b'.marks)) [
        | inl short ↦ inl (subst IsMarkPrefix b_stays (begins_through grows (a_shorter (omega arith))))
        | inr short ↦
            let b_begins : IsBeginning (history_of b) (history_of a') = subst Ends b_stays (b_shorter short) in
            elim (cases_lt (length (history_of a)) (length (history_of b))) [
              | inl less ↦ inl (begins_shorter (history_of a) (history_of b) (history_of a') grows b_begins (omega arith))
              | inr less ↦ inr (begins_shorter (history_of b) (history_of a) (history_of a') b_begins grows less)
            ]
      ]

  -- the facts that hold for either answer
  pub synchronised_seats : (answer : Result (Unit {0}) Fault) → OnOk answer (IsBeginning (history_of b) (history_of a')) → OnOk answer (own b.known.number (history_of a') ≡ own b.known.number (history_of b))
      → IfErr answer (λ fault. fault ≡ Memory) → Synchronises a b a' b' answer
  synchronised_seats answer b_beginning b_own only_memory = record {
    a_number = more.number ∙ a_number;
    a_grows = grows;
    a_own = ap (λ number. own number (history_of a')) (sym a_number) ∙ more.own_stays ∙ ap (λ number. own number (history_of synchronised)) a_number ∙ ap (λ marks. own a.known.number (map seat_and_call marks)) a_marks;
    b_number = ap (λ known. known.number) b_finds.is;
    b_seen = b_stays;
    one = one_begins;
    b_beginning = b_beginning;
    b_own = b_own;
    only_memory = only_memory;
  }

  -- if a has seen all of the chain that both found
  module _ (entries_are : seen_entries b ≡ b.known.seen) (one_chain : b'.known.ahead ≡ synchronised.known.ahead) (same : a'.known.ahead ≡ synchronised.known.ahead) (whole : seen_entries a' ≡ a'.known.ahead) where
    seen_all : seen_entries a' ≡ b'.known.ahead
    seen_all = whole ∙ same ∙ sym one_chain

    seen_b : seen_entries b ≡ b'.known.seen
    seen_b = entries_are ∙ sym (ap (λ known. known.seen) b_finds.is)

    pub all_of_b : IsBeginning (history_of b) (history_of a')
    all_of_b =
        let parts : length (b'.known.seen ++ b_finds.sound.prefix.rest) ≡ length b'.known.ahead = ap length b_finds.sound.prefix.is in
        let b_length : length (map entry_of b.marks) ≡ length b'.known.seen = ap length seen_b in
        let a_length : length (map entry_of a'.marks) ≡ length b'.known.ahead = ap length seen_all in
        let b_same : length b'.marks ≡ length b.marks = ap length b_marks in
        let short : length b'.marks ≤ length a'.marks =
        omega (arith, length-append b'.known.seen b_finds.sound.prefix.rest, length-map b.marks entry_of, length-map a'.marks entry_of)
        in
        let Ends : List (ℕ × Call) → Type 0 = λ list. IsBeginning list (history_of a') in
        subst Ends b_stays (b_shorter short)

    pub just_those_of_b : own b.known.number (history_of a') ≡ own b.known.number (history_of b)
    just_those_of_b =
        let number : b'.known.number ≡ b.known.number = ap (λ known. known.number) b_finds.is in
        let entry_count : chain.entry_count b.known.number (seen_entries a') ≡ chain.entry_count b.known.number (seen_entries b) =
        ap (chain.entry_count b.known.number) seen_all
        ∙ ap (λ number. chain.entry_count number b'.known.ahead) (sym number)
        ∙ ap length b_finds.sound.own_seen
        ∙ ap (λ number. chain.entry_count number b'.known.seen) number
        ∙ ap (chain.entry_count b.known.number) (sym seen_b)
        in
        own_front b.known.number (history_of b) (history_of a') all_of_b
        (length-own b.known.number a'.marks ∙ entry_count ∙ sym (length-own b.known.number b.marks))
