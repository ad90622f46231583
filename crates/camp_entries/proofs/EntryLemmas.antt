-- The text of an entry, taken apart.
use Rattle.std.proofs.Common.{◌≡◌, ◌≢◌, ℕ, ◌+◌, ◌^◌, ◌<◌, ◌≤◌, List, [], ◌∷◌, ◌++◌, length, drop, refl, sym, ap, subst, ◌∙◌, arith, length-append, append-nil, Option, None, Some}
use Rattle.std.specs.List.{AllByRecursion, flat_map}
use Rattle.std.proofs.Math.Seq.{drop-append_seam}
use Rattle.std.proofs.lemmas.List.Concat.{flat_map-cons}
use Rattle.camp_call.specs.declared.calls.Call.{Call}
use Rattle.camp_member.specs.Entries.{IsEntry, Tagged}
use Rattle.camp_member.specs.Notes.{WithNote}
use Rattle.camp_entries.specs.Inside.{AreOnlyOf, HaveText, IsHeadOf, IsOnlyEntryOf, NoneHave}
use Rattle.camp_entries.specs.Texts.{CanBeLogged, IsNoted, IsWhyNot, text_of_entry, text_of_head, noted_text}
use Rattle.camp_entries.specs.declared.faults.EntryFault.{EntryFault}
use Rattle.camp_entries.specs.declared.faults.EntryFault.TheVariants.{Memory, Unfit}
use Rattle.camp_entries.specs.declared.heads.Head.{Head}

-- the head of a text is that of each entry that has the text
head_of : (text : List ℕ) (found : Option Head) → IsHeadOf text found → (entry : Tagged (WithNote Call)) → CanBeLogged entry → text_of_entry entry ≡ text
    → found ≡ Some (record { seat = entry.seat; number = entry.number; len = length (text_of_head entry.seat entry.number) })
head_of text found head entry can is = head entry.seat entry.number (flat_map noted_text entry.calls) can.seat can.number (sym is)

-- the calls of it have the rest of the text
body_of : (text : List ℕ) (entry : Tagged (WithNote Call)) (len : ℕ) → len ≡ length (text_of_head entry.seat entry.number) → CanBeLogged entry → text_of_entry entry ≡ text → HaveText (drop len text) entry.calls
body_of text entry len size can is = record {
  can = can.calls;
  is =
      sym (drop-append_seam (text_of_head entry.seat entry.number) (flat_map noted_text entry.calls))
      ∙ ap (λ n. drop n (text_of_entry entry)) (sym size)
      ∙ ap (λ (t : List ℕ). drop len t) is;
}

some_head : (a b : Head) → Some a ≡ Some b → a ≡ b
some_head a b e = ap inside e
  where
    inside : Option Head → Head
    inside None = a
    inside (Some h) = h

pub no_head : (text : List ℕ) → IsHeadOf text None → IsOnlyEntryOf text None
no_head text head entry can is = let found = head_of text None head entry can is in cc

pub too_long : (text : List ℕ) → 1_048_576 < length text → IsOnlyEntryOf text None
too_long text long entry can is = let short = can.short in let size = ap length is in omega (arith, long, short, size)

pub no_calls : (text : List ℕ) (found : Head) → IsHeadOf text (Some found) → NoneHave (drop found.len text) → IsOnlyEntryOf text None
no_calls text found head none entry can is =
    let same = some_head found (record { seat = entry.seat; number = entry.number; len = length (text_of_head entry.seat entry.number) }) (head_of text (Some found) head entry can is) in
    none entry.calls can.is.few (body_of text entry found.len (ap (λ (h : Head). h.len) same) can is)

-- the entry with a head and calls is each entry that has the text
pub same_entry : (text : List ℕ) (found : Head) (calls : List (WithNote Call)) → IsHeadOf text (Some found) → AreOnlyOf (drop found.len text) calls
    → (entry : Tagged (WithNote Call)) → CanBeLogged entry → text_of_entry entry ≡ text → record { seat = found.seat; number = found.number; calls = calls } ≡ entry
same_entry text found calls head only entry can is =
    let same = some_head found (record { seat = entry.seat; number = entry.number; len = length (text_of_head entry.seat entry.number) }) (head_of text (Some found) head entry can is) in
    let calls_same : calls ≡ entry.calls = only.1 entry.calls can.is.few (body_of text entry found.len (ap (λ (h : Head). h.len) same) can is) in
    let of : ℕ → ℕ → List (WithNote Call) → Tagged (WithNote Call) = λ s n cs. record { seat = s; number = n; calls = cs } in
    ap (λ (s : ℕ). of s found.number calls) (ap (λ (h : Head). h.seat) same) ∙ ap (λ (n : ℕ). of entry.seat n calls) (ap (λ (h : Head). h.number) same)
    ∙ ap (λ (cs : List (WithNote Call)). of entry.seat entry.number cs) calls_same

pub no_entry : (text : List ℕ) (found : Head) (calls : List (WithNote Call)) → IsHeadOf text (Some found) → AreOnlyOf (drop found.len text) calls
    → ¬ (IsEntry {Call = WithNote Call} (record { seat = found.seat; number = found.number; calls = calls })) → IsOnlyEntryOf text None
no_entry text found calls head only none entry can is =
    none (subst (λ (e : Tagged (WithNote Call)). IsEntry e) (sym (same_entry text found calls head only entry can is)) can.is)

pub only_entry : (text : List ℕ) (found : Head) (calls : List (WithNote Call)) → length text ≤ 1_048_576 → IsHeadOf text (Some found) → AreOnlyOf (drop found.len text) calls
    → IsEntry {Call = WithNote Call} (record { seat = found.seat; number = found.number; calls = calls }) → IsOnlyEntryOf text (Some (record { seat = found.seat; number = found.number; calls = calls }))
only_entry text found calls short head only is = (
  λ seat number same. record { seat = seat; number = number; is = is; calls = only.0; short = let size = ap length same in omega (arith, short, size) },
  same_entry text found calls head only,
)

-- an entry with calls that no log can contain is none that a log can contain
pub why_not_calls : (entry : Tagged (WithNote Call)) (why : EntryFault) → IsWhyNot why (AllByRecursion IsNoted entry.calls) → IsWhyNot why (CanBeLogged entry)
why_not_calls entry Memory not = tt
why_not_calls entry Unfit not = λ can. not can.calls

-- no text has an entry that was parsed, but can't be contained in a log
pub none_unfit : (text : List ℕ) (found : Tagged (WithNote Call)) → IsOnlyEntryOf text (Some found) → ¬ (CanBeLogged found) → IsOnlyEntryOf text None
none_unfit text found only not entry can is = not (subst (λ (e : Tagged (WithNote Call)). CanBeLogged e) (sym (only.1 entry can is)) can)
