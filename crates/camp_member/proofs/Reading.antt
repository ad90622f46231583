-- Lemmas on readers of a log.
use Rattle.std.proofs.Common.{◌≡◌, ◌≢◌, ℕ, ◌+◌, ◌≤◌, ◌==◌, ◌⊎◌, inl, inr, Bool, true, false, List, [], ◌∷◌, ◌++◌, length, Option, Some, None, if◌then◌else◌, refl, sym, ◌∙◌, ap, subst, arith, is_some, eq-eqb}
use Rattle.std.specs.Option.{option_and_then}
use Rattle.std.specs.List.{flat_map}
use Rattle.std.proofs.lemmas.Bool.{cases_lt}
use Rattle.std.proofs.lemmas.List.{append-nil, length-append}
use Rattle.std.proofs.lemmas.Grind.{flat_map-append}
use Rattle.camp_object.specs.Objects.{Sequential}
use Rattle.camp_object.specs.Histories.{IsBeginning, replay}
use Rattle.camp_object.proofs.Beginnings.{begins_self, begins_append, begins_through, begins_shorter}
use Rattle.camp_member.specs.Decisions.{accepted_after, extended}
use Rattle.camp_member.specs.Entries.{Tagged, seated_calls, counted_entries, counted_after, last_of, number_in}
use Rattle.camp_member.specs.Logs.{lawful_part}
use Rattle.camp_member.specs.Readings.{Reading, IsReadingOf, PassesOver, ReadsNew}
use Rattle.camp_member.specs.Laws.{NothingIsRead, ReadersAgree, ReadersShareOneHistory, ReadsOn, StopsAtForeign}
use Rattle.camp_member.proofs.Counting.{counted_after-append, counted_next, counted_other, from_eqb, last_of-other, last_of-same, readable-append, readable-last}
use Rattle.camp_member.proofs.Deciding.{decided_accepts}

differ : (a b : ℕ) → a == b ≡ false → a ≢ b
differ a b is same = let clash : false ≡ true = sym is ∙ eq-eqb a b same in cc

-- of two prefixes of a list one is a prefix of the other
pub one_begins : {Entry : Type 0} (one two whole : List Entry) → IsBeginning one whole → IsBeginning two whole → IsBeginning one two ⊎ IsBeginning two one
one_begins one two whole first second =
    elim (cases_lt (length two) (length one)) as (λ _. IsBeginning one two ⊎ IsBeginning two one) [
      | inl longer ↦ inr (begins_shorter two one whole second first (omega arith))
      | inr shorter ↦ inl (begins_shorter one two whole first second shorter)
    ]

-- more of a log has more entries that count
counted_grows : {Call : Type 0} (before : List (Tagged Call)) (log : List (Option (Tagged Call))) → IsBeginning before (counted_after before log)
counted_grows before [] = begins_self before
counted_grows before (None ∷ log) = counted_grows before log
counted_grows before (Some entry ∷ log) =
    elim (entry.number == last_of before entry.seat + 1) as (λ (b : Bool). IsBeginning before (counted_after (if b then before ++ entry ∷ [] else before) log)) [
      | true ↦ begins_through (begins_append before (entry ∷ [])) (counted_grows (before ++ entry ∷ []) log)
      | false ↦ counted_grows before log
    ]

module _ {State Call Reply : Type 0} (object : Sequential State Call Reply) where
  pub accepted_after-append : (history one two : List (ℕ × Call)) → accepted_after object history (one ++ two) ≡ accepted_after object (accepted_after object history one) two
  accepted_after-append history [] two = refl
  accepted_after-append history (request ∷ one) two = accepted_after-append (extended object history request) one two

  pub accepted_grows : (history requests : List (ℕ × Call)) → IsBeginning history (accepted_after object history requests)
  accepted_grows history [] = begins_self history
  accepted_grows history (request ∷ requests) =
      elim (is_some (option_and_then (λ state. object.after state request.1) (replay object history))) as (λ (b : Bool). IsBeginning history (accepted_after object (if b then history ++ request ∷ [] else history) requests)) [
        | true ↦ begins_through (begins_append history (request ∷ [])) (accepted_grows (history ++ request ∷ []) requests)
        | false ↦ accepted_grows history requests
      ]

  -- the history of the entries that count
  abbrev pub history_of : List (Tagged Call) → List (ℕ × Call)
  history_of entries = accepted_after object [] (flat_map seated_calls entries)

  history_of-append : (one two : List (Tagged Call)) → history_of (one ++ two) ≡ accepted_after object (history_of one) (flat_map seated_calls two)
  history_of-append one two = ap (accepted_after object []) (flat_map-append seated_calls one two) ∙ accepted_after-append [] (flat_map seated_calls one) (flat_map seated_calls two)

  pub history_of-push : (entries : List (Tagged Call)) (entry : Tagged Call) → history_of (entries ++ entry ∷ []) ≡ accepted_after object (history_of entries) (seated_calls entry)
  history_of-push entries entry = history_of-append entries (entry ∷ []) ∙ ap (accepted_after object (history_of entries)) (append-nil (seated_calls entry))

  history_of-grows : (one two : List (Tagged Call)) → IsBeginning one two → IsBeginning (history_of one) (history_of two)
  history_of-grows one two begins =
      let P : List (ℕ × Call) → Type 0 = λ list. IsBeginning (history_of one) list in
      subst P (sym (history_of-append one begins.rest) ∙ ap history_of begins.makes) (accepted_grows (history_of one) (flat_map seated_calls begins.rest))

  pub lawful_grows : (one two : List (Option (Tagged Call))) → IsBeginning one two → IsBeginning (lawful_part object one) (lawful_part object two)
  lawful_grows one two begins =
      let P : List (Tagged Call) → Type 0 = λ list. IsBeginning (counted_entries one) list in
      history_of-grows (counted_entries one) (counted_entries two) (
      subst P (sym (counted_after-append [] one begins.rest) ∙ ap counted_entries begins.makes) (counted_grows (counted_entries one) begins.rest)
      )

  pub nothing_is_read : NothingIsRead object
  nothing_is_read reading index history numbers = record {
    readable = tt;
    index = index;
    history = history;
    last = λ seat. ap (λ (list : List (ℕ × ℕ)). number_in list seat) numbers;
  }

  reads_new : (log : List (Option (Tagged Call))) (old new : Reading State Call) (entry : Tagged Call) (replies : List Reply)
      → IsReadingOf object log old → new.index ≡ old.index + 1 → ReadsNew object old entry replies new → IsReadingOf object (log ++ Some entry ∷ []) new
  reads_new log old new entry replies is next effect =
      let number : entry.number ≡ last_of (counted_entries log) entry.seat + 1 = effect.counts.1 ∙ ap (λ n. n + 1) (is.last entry.seat) in
      let grown : counted_entries (log ++ Some entry ∷ []) ≡ counted_entries log ++ entry ∷ [] = counted_after-append [] log (Some entry ∷ []) ∙ counted_next (counted_entries log) entry number in
      let size = length-append log (Some entry ∷ []) in
      let at = is.index in
      record {
        readable = readable-append [] log (Some entry) is.readable (λ foreign. foreign.0 (effect.counts.0, number));
        index = omega (arith, next, at, size);
        history =
            decided_accepts object old.history entry.seat entry.calls replies new.history effect.decides.decided
            ∙ ap (λ list. accepted_after object list (seated_calls entry)) is.history
            ∙ sym (history_of-push (counted_entries log) entry)
            ∙ ap history_of (sym grown);
        last = λ seat. effect.decides.last seat ∙ (
            elim (seat == entry.seat) as (λ b. seat == entry.seat ≡ b → (if b then entry.number else number_in old.numbers seat) ≡ last_of (counted_entries (log ++ Some entry ∷ [])) seat) [
              | true ↦ λ same.
                  let equal : seat ≡ entry.seat = from_eqb seat entry.seat same in
                  number ∙ ap (λ s. last_of (counted_entries log) s + 1) (sym equal) ∙ sym (last_of-same (counted_entries log) entry seat (sym equal)) ∙ ap (λ list. last_of list seat) (sym grown)
              | false ↦ λ other.
                  is.last seat ∙ sym (last_of-other (counted_entries log) entry seat (λ same. differ seat entry.seat other (sym same))) ∙ ap (λ list. last_of list seat) (sym grown)
            ] refl
            );
      }

  passes_over : (log : List (Option (Tagged Call))) (old new : Reading State Call) (entry : Tagged Call) (replies : List Reply)
      → IsReadingOf object log old → new.index ≡ old.index + 1 → PassesOver object old entry replies new → IsReadingOf object (log ++ Some entry ∷ []) new
  passes_over log old new entry replies is next effect =
      let seen : entry.number ≤ last_of (counted_entries log) entry.seat = let last = is.last entry.seat in let below = effect.repeated.1 in omega (arith, last, below) in
      let same : counted_entries (log ++ Some entry ∷ []) ≡ counted_entries log =
      counted_after-append [] log (Some entry ∷ []) ∙ counted_other (counted_entries log) entry (λ equal. let below = seen in absurd (omega (arith, below, equal)))
      in
      let size = length-append log (Some entry ∷ []) in
      let at = is.index in
      record {
        readable = readable-append [] log (Some entry) is.readable (λ foreign. foreign.1 (effect.repeated.0, seen));
        index = omega (arith, next, at, size);
        history = effect.history ∙ is.history ∙ ap history_of (sym same);
        last = λ seat. ap (λ (list : List (ℕ × ℕ)). number_in list seat) effect.numbers ∙ is.last seat ∙ ap (λ list. last_of list seat) (sym same);
      }

  pub reads_on : ReadsOn object
  reads_on log old new entry replies is reads =
      elim reads.effect as (λ _. IsReadingOf object (log ++ Some entry ∷ []) new) [
        | inl effect ↦ reads_new log old new entry replies is reads.index effect
        | inr effect ↦ passes_over log old new entry replies is reads.index effect
      ]

  pub stops_at_foreign : StopsAtForeign object
  stops_at_foreign log reading None is foreign readable = readable-last [] log None readable tt
  stops_at_foreign log reading (Some entry) is foreign readable =
      let last = is.last entry.seat in
      readable-last [] log (Some entry) readable (
        λ counts. foreign.0 (counts.0, counts.1 ∙ ap (λ n. n + 1) (sym last)),
        λ repeated. let below = repeated.1 in foreign.1 (repeated.0, omega (arith, last, below)),
      )

  pub readers_agree : ReadersAgree object
  readers_agree log one two first second = first.history ∙ sym second.history

  pub readers_share_one_history : ReadersShareOneHistory object
  readers_share_one_history log first second one two begins_first begins_second is_first is_second =
      let P : List (ℕ × Call) × List (ℕ × Call) → Type 0 = λ pair. IsBeginning pair.0 pair.1 ⊎ IsBeginning pair.1 pair.0 in
      subst P (λ i. (sym is_first.history i, sym is_second.history i)) (
      elim (one_begins first second log begins_first begins_second) as (λ _. IsBeginning (lawful_part object first) (lawful_part object second) ⊎ IsBeginning (lawful_part object second) (lawful_part object first)) [
        | inl begins ↦ inl (lawful_grows first second begins)
        | inr begins ↦ inr (lawful_grows second first begins)
      ]
      )
