-- What was read of a log of texts.
use Rattle.std.proofs.Common.{◌≡◌, ◌⊎◌, ℕ, ◌+◌, ◌-◌, ◌==◌, List, [], ◌∷◌, ◌++◌, length, take, drop, None, Some, refl, sym, ap, subst, ◌∙◌, arith, inl, inr, append_assoc}
use Rattle.std.specs.Fmt.{decimal}
use Rattle.std.specs.List.{flat_map, position_or_len}
use Rattle.std.proofs.lemmas.Fmt.{decimal_injective}
use Rattle.camp_call.specs.declared.calls.Call.{Call}
use Rattle.camp_call.specs.declared.replies.Reply.{Reply}
use Rattle.camp_entries.specs.Texts.{IsEntryOf}
use Rattle.camp_entries.specs.Titles.{IsLogTitle}
use Rattle.camp_entries.proofs.TitleLemmas.{branches_part, catches_part, few_branches, few_catches, long_rest, plain_is, space_at}
use Rattle.camp_member.specs.Decisions.{accepted_after}
use Rattle.camp_member.specs.Entries.{Tagged, IsReadable, counted_entries, seated_calls}
use Rattle.camp_member.specs.Laws.{AnyReason}
use Rattle.camp_member.specs.Logs.{lawful_part}
use Rattle.camp_member.specs.Notes.{WithNote}
use Rattle.camp_member.specs.Readings.{IsReadingOf, Reading, ReadsEntry}
use Rattle.camp_member.specs.Telling.{accepted_in}
use Rattle.camp_member.specs.declared.faults.ReadFault.TheVariants.{Foreign, Memory, OutOfOrder}
use Rattle.camp_member.proofs.Reading.{lawful_grows, nothing_is_read, one_begins, reads_on, stops_at_foreign}
use Rattle.camp_member.proofs.Telling.{told_accepted}
use Rattle.camp_object.specs.Histories.{IsBeginning, own}
use Rattle.camp_repo.specs.Limits.{Bounds}
use Rattle.camp_repo.specs.States.{Contents, new_within}
use Rattle.camp_shared.specs.Laws.{AcceptedAreAnswered, FindsTextsInOrder, HasReadTexts, KeepsWhatWasRead, MembersShareOneHistory, MoreTextsGiveMore, NobodyReadsOn, OpensAtTitle, SameTagAddsNothing, SameTextsAgree}
use Rattle.camp_shared.specs.Sharing.{Sharing, shared_from}
use Rattle.camp_shared.proofs.CountLemmas.{again_adds_none, readable_first}
use Rattle.camp_shared.proofs.TextLemmas.{Entries, entries_begin, entries_halves, entries_len, entries_push, entries_split, last_entry, next_entry, same_log}

-- a title has limits once
pub same_limits : (title : List ℕ) (one two : Bounds) → IsLogTitle title one → IsLogTitle title two → one ≡ two
same_limits title one two first (are, inr plain) = plain_is title plain.0 one first ∙ sym plain.1
same_limits title one two (are, inr plain) (others, inl named) = plain.1 ∙ sym (plain_is title plain.0 two (others, inl named))
same_limits title one two (are, inl named) (others, inl named_two) = λ i. record { catches = catches_same i; branches = branches_same i }
  where
    rest : List ℕ
    rest = take (length title - 19) (drop 19 title)

    len : ℕ
    len = position_or_len (λ byte. byte == 32) rest

    at_one : len ≡ length (decimal one.catches)
    at_one = space_at one title are (sym named) len refl

    at_two : len ≡ length (decimal two.catches)
    at_two = space_at two title others (sym named_two) len refl

    catches_same : one.catches ≡ two.catches
    catches_same =
        decimal_injective one.catches two.catches (few_catches one title are (sym named)) (few_catches two title others (sym named_two))
        (sym (catches_part one title are (sym named) len at_one) ∙ catches_part two title others (sym named_two) len at_two)

    count : ℕ
    count = length rest - 1 - (len + 10)

    branches_same : one.branches ≡ two.branches
    branches_same =
        let long_one = long_rest one title are (sym named) in
        let long_two = long_rest two title others (sym named_two) in
        decimal_injective one.branches two.branches (few_branches one title are (sym named)) (few_branches two title others (sym named_two))
        (sym (branches_part one title are (sym named) len count at_one (omega (arith, at_one, long_one))) ∙ branches_part two title others (sym named_two) len count at_two (omega (arith, at_two, long_two)))

pub opens_at_title : OpensAtTitle
opens_at_title title seat member is =
    let first = ap (λ (m : Sharing). m.reading.first) is.new in
    let index = ap (λ (m : Sharing). m.reading.index) is.new in
    let history = ap (λ (m : Sharing). m.reading.history) is.new in
    let numbers = ap (λ (m : Sharing). m.reading.numbers) is.new in
    record {
      limits = is.limits;
      titled = is.titled;
      first = first;
      log = [];
      entries = tt;
      reads = nothing_is_read (shared_from member.reading.first) member.reading index history numbers;
    }

texts_len : (title : List ℕ) (texts : List (List ℕ)) (reading : Reading Contents (WithNote Call)) → HasReadTexts title texts reading → reading.index ≡ length texts
texts_len title texts reading has = has.reads.index ∙ entries_len texts has.log has.entries

one_more : (title : List ℕ) (texts : List (List ℕ)) (text : List ℕ) (old new : Reading Contents (WithNote Call)) (entry : Tagged (WithNote Call)) (replies : List Reply)
    → HasReadTexts title texts old → IsEntryOf text (Some entry) → ReadsEntry (shared_from old.first) old entry replies new → HasReadTexts title (texts ++ text ∷ []) new
one_more title texts text old new entry replies has is reads = record {
  limits = has.limits;
  titled = has.titled;
  first = reads.first ∙ has.first;
  log = has.log ++ Some entry ∷ [];
  entries = entries_push texts has.log text (Some entry) has.entries is;
  reads = subst (λ (first : Contents). IsReadingOf (shared_from first) (has.log ++ Some entry ∷ []) new) (sym reads.first) (reads_on (shared_from old.first) has.log old new entry replies has.reads reads);
}

same_first : (title : List ℕ) (texts others : List (List ℕ)) (one two : Reading Contents (WithNote Call)) → HasReadTexts title texts one → HasReadTexts title others two → one.first ≡ two.first
same_first title texts others one two first second = first.first ∙ ap new_within (same_limits title first.limits second.limits first.titled second.titled) ∙ sym second.first

pub more_texts_give_more : MoreTextsGiveMore
more_texts_give_more title first texts one two begins has all =
    let same = same_first title first texts one two has all in
    let P : List (ℕ × WithNote Call) × List (ℕ × WithNote Call) → Type 0 = λ pair. IsBeginning pair.0 pair.1 in
    let whole : lawful_part (shared_from one.first) all.log ≡ two.history = ap (λ (f : Contents). lawful_part (shared_from f) all.log) same ∙ sym all.reads.history in
    subst P (λ i. (sym has.reads.history i, whole i)) (lawful_grows (shared_from one.first) has.log all.log (entries_begin first texts has.log all.log begins has.entries all.entries))

pub members_share_one_history : MembersShareOneHistory
members_share_one_history title texts first second one two begins_one begins_two has_one has_two =
    elim (one_begins first second texts begins_one begins_two) as (λ _. IsBeginning one.history two.history ⊎ IsBeginning two.history one.history) [
      | inl begins ↦ inl (more_texts_give_more title first second one two begins has_one has_two)
      | inr begins ↦ inr (more_texts_give_more title second first two one begins has_two has_one)
    ]

pub same_texts_agree : SameTextsAgree
same_texts_agree title texts one two first second =
    let same = same_first title texts texts one two first second in (
      same,
      first.reads.history ∙ ap (λ (f : Contents). lawful_part (shared_from f) first.log) same ∙ ap (λ log. lawful_part (shared_from two.first) log) (same_log texts first.log second.log first.entries second.entries)
          ∙ sym second.reads.history,
    )

pub same_tag_adds_nothing : SameTagAddsNothing
same_tag_adds_nothing title before between text other seat number one two (entry, is, of_seat, numbered) (later, is_later, seat_later, number_later) has all =
    let texts : List (List ℕ) = before ++ text ∷ between in
    let half = entries_halves before (text ∷ between) has.log has.entries in
    let next = next_entry text between (Some entry) half.split.after is half.split.are in
    let log_is : half.log ++ Some entry ∷ next.0 ≡ has.log = ap (λ list. half.log ++ list) (sym next.1) ∙ half.split.makes in
    let split = entries_split texts (other ∷ []) has.log all.log has.entries all.entries in
    let whole_is : has.log ++ Some later ∷ [] ≡ all.log = ap (λ list. has.log ++ list) (sym (last_entry other (Some later) split.after is_later split.are)) ∙ split.makes in
    let none = again_adds_none half.log next.0 entry later (subst (λ (log : Entries). IsReadable log) (sym log_is) has.reads.readable) (seat_later ∙ sym of_seat) (number_later ∙ sym numbered) in
    let counted : counted_entries all.log ≡ counted_entries has.log =
    sym (ap counted_entries whole_is) ∙ sym (ap (λ log. counted_entries (log ++ Some later ∷ [])) log_is) ∙ none ∙ ap counted_entries log_is in
    let same = same_first title texts (texts ++ other ∷ []) one two has all in
    all.reads.history
    ∙ ap (λ (entries : List (Tagged (WithNote Call))). accepted_after (shared_from two.first) [] (flat_map seated_calls entries)) counted
    ∙ ap (λ (f : Contents). lawful_part (shared_from f) has.log) (sym same)
    ∙ sym has.reads.history

pub nobody_reads_on : NobodyReadsOn
nobody_reads_on title texts rest text found one two has is foreign all =
    let split = entries_split texts (text ∷ rest) has.log all.log has.entries all.entries in
    let next = next_entry text rest found split.after is split.are in
    let whole : (has.log ++ found ∷ []) ++ next.0 ≡ all.log = append_assoc has.log (found ∷ []) next.0 ∙ ap (λ list. has.log ++ list) (sym next.1) ∙ split.makes in
    stops_at_foreign (shared_from one.first) has.log one found has.reads foreign (readable_first [] (has.log ++ found ∷ []) next.0 (subst (λ (log : Entries). IsReadable log) (sym whole) all.reads.readable))

pub finds_texts_in_order : FindsTextsInOrder
finds_texts_in_order title texts old new index text has (inl before) =
    let below = before.0 in
    let size = texts_len title texts old.reading has in
    inl (omega (arith, below, size), before.1)
finds_texts_in_order title texts old new index text has (inr (at, (None, parsed, reads))) = let none = reads.2 in cc
finds_texts_in_order title texts old new index text has (inr (at, (Some entry, parsed, reads))) =
    let size = texts_len title texts old.reading has in
    inr (omega (arith, at, size), one_more title texts text old.reading new.reading entry reads.1.replies has parsed reads.1.reads)

-- what was read is the same
still : (title : List ℕ) (texts : List (List ℕ)) (one two : Reading Contents (WithNote Call)) → two ≡ one → HasReadTexts title texts one → HasReadTexts title texts two
still title texts one two same has = subst (λ (reading : Reading Contents (WithNote Call)). HasReadTexts title texts reading) (sym same) has

pub keeps_what_was_read : KeepsWhatWasRead
keeps_what_was_read title texts old new index text Memory has is = still title texts old.reading new.reading (ap (λ (m : Sharing). m.reading) is) has
keeps_what_was_read title texts old new index text (OutOfOrder next) has is = still title texts old.reading new.reading (ap (λ (m : Sharing). m.reading) is.2) has
keeps_what_was_read title texts old new index text (Foreign place) has (at, (found, parsed, reads)) =
    still title texts old.reading new.reading (ap (λ (m : Sharing). m.reading) reads.1) has

pub accepted_are_answered : AcceptedAreAnswered
accepted_are_answered title seat opened now is goes =
    let object = shared_from opened.reading.first in
    let none = ap (λ (m : Sharing). m.reading.history) is.new in
    let of_seat = ap (λ (m : Sharing). m.seat) is.new in
    let P : ℕ → Type 0 = λ s. own s now.reading.history ≡ accepted_in object goes.told in
    subst P of_seat (
    told_accepted object AnyReason opened.seat opened.reading.history goes.told now.reading.history goes.are
    ∙ ap (λ (history : List (ℕ × WithNote Call)). own opened.seat history ++ accepted_in object goes.told) none
    )
