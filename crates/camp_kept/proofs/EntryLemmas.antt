-- Entries by their texts, and the calls and notes of entries.
use Rattle.std.proofs.Common.{◌≡◌, ◌≢◌, ℕ, ◌+◌, ◌<◌, List, [], ◌∷◌, ◌++◌, length, refl, sym, ◌∙◌, ap, subst, arith, append_assoc, append-nil, length-append, Option, None, Some, IfSome, false}
use Rattle.std.specs.Prelude.{option_to_list}
use Rattle.std.specs.List.{AllByRecursion}
use Rattle.std.proofs.lemmas.List.{map-append}
use Rattle.camp_call.specs.declared.calls.Call.{Call}
use Rattle.camp_call.specs.declared.calls.Call.TheVariants as call
use Rattle.camp_kept.specs.Entries.{AreStoredEntries, IsStoredEntry, StoredEntry, call_texts, calls_of_entries, entry_texts, notes_in_from, placed_at, text_of_call, text_of_stored}
use Rattle.camp_kept.specs.Parsing.{IsStoredEntryOf, IsNoStoredEntry}
use Rattle.camp_notes.specs.Faults.{AreNotesBefore, AreOnlyNotesBefore}
use Rattle.camp_notes.specs.Texts.{begins_comment, notes_text}
use Rattle.camp_notes.specs.declared.logs.PlacedNote.{PlacedNote}
use Rattle.camp_notes.specs.declared.notes.Note.{Note}
use Rattle.camp_notes.proofs.ParseLemmas.{same_before}
use Rattle.camp_script.specs.Canonical.{IsScriptCall, call_text}
use Rattle.camp_script.proofs.SingleCalls.{one_call}

abbrev pub first_text : List (List ℕ) → List ℕ
first_text [] = []
first_text (text ∷ texts) = text

abbrev pub other_texts : List (List ℕ) → List (List ℕ)
other_texts [] = []
other_texts (text ∷ texts) = texts

pub no_texts : {A : Type 0} (x : A) (xs : List A) → x ∷ xs ≡ [] → ⊥
no_texts x xs e = absurd (omega (arith, ap length e))

pub all_join : {A : Type 0} (P : A → Type 0) (one two : List A) → AllByRecursion P one → AllByRecursion P two → AllByRecursion P (one ++ two)
all_join P [] two all others = others
all_join P (x ∷ one) two all others = (all.0, all_join P one two all.1 others)

pub all_front : {A : Type 0} (P : A → Type 0) (one two : List A) → AllByRecursion P (one ++ two) → AllByRecursion P one
all_front P [] two all = tt
all_front P (x ∷ one) two all = (all.0, all_front P one two all.1)

pub all_back : {A : Type 0} (P : A → Type 0) (one two : List A) → AllByRecursion P (one ++ two) → AllByRecursion P two
all_back P [] two all = all
all_back P (x ∷ one) two all = all_back P one two all.1

pub all_of_some : (call : Option Call) → AllByRecursion IsScriptCall (option_to_list call) → IfSome call IsScriptCall
all_of_some None all = tt
all_of_some (Some c) all = all.0

pub some_of_all : (call : Option Call) → IfSome call IsScriptCall → AllByRecursion IsScriptCall (option_to_list call)
some_of_all None some = tt
some_of_all (Some c) some = (some, tt)

-- ---- the text of a call is no comment, and not empty

call_plain : (c : Call) → begins_comment (call_text c) ≡ false
call_plain (call.Branch new from) = refl
call_plain (call.Record branch name []) = refl
call_plain (call.Record branch name (x ∷ [])) = refl
call_plain (call.Record branch name (x ∷ y ∷ changes)) = refl
call_plain (call.Pull from to None) = refl
call_plain (call.Pull from to (Some names)) = refl
call_plain (call.Obliterate branch names) = refl
call_plain (call.Tree branch) = refl
call_plain (call.Conflicts branch) = refl
call_plain (call.Names branch) = refl

pub call_some : (c : Call) → call_text c ≢ []
call_some (call.Branch new from) e = absurd (omega (arith, ap length e))
call_some (call.Record branch name []) e = absurd (omega (arith, ap length e))
call_some (call.Record branch name (x ∷ [])) e = absurd (omega (arith, ap length e))
call_some (call.Record branch name (x ∷ y ∷ changes)) e = absurd (omega (arith, ap length e))
call_some (call.Pull from to None) e = absurd (omega (arith, ap length e))
call_some (call.Pull from to (Some names)) e = absurd (omega (arith, ap length e))
call_some (call.Obliterate branch names) e = absurd (omega (arith, ap length e))
call_some (call.Tree branch) e = absurd (omega (arith, ap length e))
call_some (call.Conflicts branch) e = absurd (omega (arith, ap length e))
call_some (call.Names branch) e = absurd (omega (arith, ap length e))

pub rest_plain : (call : Option Call) → begins_comment (text_of_call call) ≡ false
rest_plain None = refl
rest_plain (Some c) = call_plain c

-- an entry with a call is not empty
pub entry_some : (notes : List Note) (c : Call) → notes_text notes ++ call_text c ≢ []
entry_some notes c e = call_some c (ends (notes_text notes) e) where
  ends : (front : List ℕ) → front ++ call_text c ≡ [] → call_text c ≡ []
  ends [] none = none
  ends (x ∷ front) none = absurd (no_texts x (front ++ call_text c) none)

-- ---- entries are determined by their texts

same_call : (one two : Option Call) → IfSome one IsScriptCall → IfSome two IsScriptCall → text_of_call one ≡ text_of_call two → one ≡ two
same_call None None can could same = refl
same_call None (Some d) can could same = absurd (call_some d (sym same))
same_call (Some c) None can could same = absurd (call_some c same)
same_call (Some c) (Some d) can could same = ap Some (one_call c d can could same)

pub one_entry : (one two : StoredEntry) → IsStoredEntry one → IsStoredEntry two → IfSome one.call IsScriptCall → IfSome two.call IsScriptCall → text_of_stored one ≡ text_of_stored two → one ≡ two
one_entry one two is are can could same =
    let both = same_before one.notes two.notes (text_of_call one.call) (text_of_call two.call) is.notes are.notes (rest_plain one.call) (rest_plain two.call) same in
    let calls = same_call one.call two.call can could both.1 in
    λ k. record { notes = both.0 k; call = calls k }

pub same_entries : (one two : List StoredEntry) → AllByRecursion IsStoredEntry one → AllByRecursion IsStoredEntry two → AllByRecursion IsScriptCall (calls_of_entries one) → AllByRecursion IsScriptCall (calls_of_entries two)
    → entry_texts one ≡ entry_texts two → one ≡ two
same_entries [] [] are were can could same = refl
same_entries [] (f ∷ two) are were can could same = absurd (no_texts (text_of_stored f) (entry_texts two) (sym same))
same_entries (e ∷ one) [] are were can could same = absurd (no_texts (text_of_stored e) (entry_texts one) same)
same_entries (e ∷ one) (f ∷ two) are were can could same =
    let mine = option_to_list e.call in
    let its = option_to_list f.call in
    let first : e ≡ f =
    one_entry e f are.0 were.0 (all_of_some e.call (all_front IsScriptCall mine (calls_of_entries one) can)) (all_of_some f.call (all_front IsScriptCall its (calls_of_entries two) could)) (ap first_text same) in
    let others : one ≡ two =
    same_entries one two are.1 were.1 (all_back IsScriptCall mine (calls_of_entries one) can) (all_back IsScriptCall its (calls_of_entries two) could) (ap other_texts same) in
    λ k. first k ∷ others k

-- the entry that comes after others in a list, and has this text
pub record EntryAfter (done entries : List StoredEntry) (text : List ℕ) : Type 0 where
  pub entry : StoredEntry
  pub more : List StoredEntry
  pub is : entries ≡ done ++ entry ∷ more
  pub can : IsStoredEntry entry
  pub call : IfSome entry.call IsScriptCall
  pub text_is : text_of_stored entry ≡ text

pub entry_after : (done entries : List StoredEntry) (text : List ℕ) (rest : List (List ℕ)) → AllByRecursion IsStoredEntry done → AllByRecursion IsStoredEntry entries
    → AllByRecursion IsScriptCall (calls_of_entries done) → AllByRecursion IsScriptCall (calls_of_entries entries) → entry_texts entries ≡ entry_texts done ++ text ∷ rest → EntryAfter done entries text
entry_after [] [] text rest are were can could e = absurd (no_texts text rest (sym e))
entry_after [] (f ∷ entries) text rest are were can could e = record {
  entry = f;
  more = entries;
  is = refl;
  can = were.0;
  call = all_of_some f.call (all_front IsScriptCall (option_to_list f.call) (calls_of_entries entries) could);
  text_is = ap first_text e;
}
entry_after (d ∷ done) [] text rest are were can could e = absurd (no_texts (text_of_stored d) (entry_texts done ++ text ∷ rest) (sym e))
entry_after (d ∷ done) (f ∷ entries) text rest are were can could e =
    let mine = option_to_list d.call in
    let its = option_to_list f.call in
    let same : f ≡ d =
    one_entry f d were.0 are.0 (all_of_some f.call (all_front IsScriptCall its (calls_of_entries entries) could)) (all_of_some d.call (all_front IsScriptCall mine (calls_of_entries done) can)) (ap first_text e) in
    let after =
    entry_after done entries text rest are.1 were.1 (all_back IsScriptCall mine (calls_of_entries done) can) (all_back IsScriptCall its (calls_of_entries entries) could) (ap other_texts e) in
    record {
      entry = after.entry;
      more = after.more;
      is = ap (λ (l : List StoredEntry). f ∷ l) after.is ∙ ap (λ (x : StoredEntry). x ∷ (done ++ after.entry ∷ after.more)) same;
      can = after.can;
      call = after.call;
      text_is = after.text_is;
    }

-- ---- the calls and the notes of entries

pub calls_of_entries-append : (one two : List StoredEntry) → calls_of_entries (one ++ two) ≡ calls_of_entries one ++ calls_of_entries two
calls_of_entries-append [] two = refl
calls_of_entries-append (e ∷ one) two =
    ap (λ (l : List Call). option_to_list e.call ++ l) (calls_of_entries-append one two) ∙ sym (append_assoc (option_to_list e.call) (calls_of_entries one) (calls_of_entries two))

notes_in-append : (at : ℕ) (one two : List StoredEntry) → notes_in_from at (one ++ two) ≡ notes_in_from at one ++ notes_in_from (at + length (calls_of_entries one)) two
notes_in-append at [] two =
    let same : at ≡ at + 0 = omega arith in
    ap (λ (n : ℕ). notes_in_from n two) same
notes_in-append at (e ∷ one) two =
    let calls = option_to_list e.call in
    let front = placed_at at e.notes in
    let count : at + length calls + length (calls_of_entries one) ≡ at + length (calls ++ calls_of_entries one) = omega (arith, length-append calls (calls_of_entries one)) in
    ap (λ (l : List PlacedNote). front ++ l) (notes_in-append (at + length calls) one two)
    ∙ sym (append_assoc front (notes_in_from (at + length calls) one) (notes_in_from (at + length calls + length (calls_of_entries one)) two))
    ∙ ap (λ (n : ℕ). (front ++ notes_in_from (at + length calls) one) ++ notes_in_from n two) count

pub no_entries : (at : ℕ) → AreStoredEntries at [] [] []
no_entries at = record { entries = []; can = tt; texts_are = refl; calls_are = refl; notes_are = refl }

pub entries_append : (at : ℕ) (calls others : List Call) (notes more : List PlacedNote) (texts new : List (List ℕ)) → AreStoredEntries at calls notes texts → AreStoredEntries (at + length calls) others more new
    → AreStoredEntries at (calls ++ others) (notes ++ more) (texts ++ new)
entries_append at calls others notes more texts new first then =
    let count : at + length calls ≡ at + length (calls_of_entries first.entries) = ap (λ (l : List Call). at + length l) first.calls_are in
    record {
      entries = first.entries ++ then.entries;
      can = all_join IsStoredEntry first.entries then.entries first.can then.can;
      texts_are = (λ k. first.texts_are k ++ then.texts_are k) ∙ sym (map-append text_of_stored first.entries then.entries);
      calls_are = (λ k. first.calls_are k ++ then.calls_are k) ∙ sym (calls_of_entries-append first.entries then.entries);
      notes_are = (λ k. first.notes_are k ++ then.notes_are k)
          ∙ ap (λ (n : ℕ). notes_in_from at first.entries ++ notes_in_from n then.entries) count
          ∙ sym (notes_in-append at first.entries then.entries);
    }

-- one entry
one_alone : (at : ℕ) (entry : StoredEntry) → IsStoredEntry entry → AreStoredEntries at (option_to_list entry.call) (placed_at at entry.notes) (text_of_stored entry ∷ [])
one_alone at entry is = record {
  entries = entry ∷ [];
  can = (is, tt);
  texts_are = refl;
  calls_are = sym (append-nil (option_to_list entry.call));
  notes_are = sym (append-nil (placed_at at entry.notes));
}

-- one entry more
pub entries_more : (first : ℕ) (calls : List Call) (notes : List PlacedNote) (texts : List (List ℕ)) (entry : StoredEntry) (at : ℕ) (text : List ℕ) → AreStoredEntries first calls notes texts → IsStoredEntry entry
    → text_of_stored entry ≡ text → at ≡ first + length calls → AreStoredEntries first (calls ++ option_to_list entry.call) (notes ++ placed_at at entry.notes) (texts ++ text ∷ [])
entries_more first calls notes texts entry at text are is text_is at_is =
    entries_append first calls (option_to_list entry.call) notes (placed_at at entry.notes) texts (text ∷ []) are
    (subst (λ (n : ℕ). AreStoredEntries n (option_to_list entry.call) (placed_at at entry.notes) (text ∷ [])) at_is
    (subst (λ (t : List ℕ). AreStoredEntries at (option_to_list entry.call) (placed_at at entry.notes) (t ∷ [])) text_is (one_alone at entry is)))

-- entries without notes are calls
plain_entry : (entry : StoredEntry) → IsStoredEntry entry → entry.notes ≡ [] → text_of_stored entry ∷ [] ≡ call_texts (option_to_list entry.call)
plain_entry entry is none = by entry.call refl where
  by : (o : Option Call) → entry.call ≡ o → text_of_stored entry ∷ [] ≡ call_texts (option_to_list o)
  by None none_called = absurd (is.some ((λ k. notes_text (none k) ++ text_of_call (none_called k))))
  by (Some c) called = λ k. (notes_text (none k) ++ text_of_call (called k)) ∷ []

no_front : (one two : List PlacedNote) → one ++ two ≡ [] → (one ≡ []) × (two ≡ [])
no_front [] two none = (refl, none)
no_front (x ∷ one) two none = absurd (no_texts x (one ++ two) none)

none_placed : (at : ℕ) (notes : List Note) → placed_at at notes ≡ [] → notes ≡ []
none_placed at [] none = refl
none_placed at (n ∷ notes) none = absurd (no_texts _ (placed_at at notes) none)

plain_entries : (at : ℕ) (entries : List StoredEntry) → AllByRecursion IsStoredEntry entries → notes_in_from at entries ≡ [] → entry_texts entries ≡ call_texts (calls_of_entries entries)
plain_entries at [] are none = refl
plain_entries at (e ∷ entries) are none =
    let calls = option_to_list e.call in
    let parts = no_front (placed_at at e.notes) (notes_in_from (at + length calls) entries) none in
    let first = plain_entry e are.0 (none_placed at e.notes parts.0) in
    let others = plain_entries (at + length calls) entries are.1 parts.1 in
    (λ k. first k ++ others k) ∙ sym (map-append call_text calls (calls_of_entries entries))

pub texts_without_notes : (at : ℕ) (calls : List Call) (notes : List PlacedNote) (texts : List (List ℕ)) → AreStoredEntries at calls notes texts → notes ≡ [] → texts ≡ call_texts calls
texts_without_notes at calls notes texts are none =
    are.texts_are ∙ plain_entries at are.entries are.can (sym are.notes_are ∙ none) ∙ ap call_texts (sym are.calls_are)

-- ---- parsing an entry

-- an entry of notes and a call that were found in a text
found_entry : (text : List ℕ) (notes : List Note) (rest : List ℕ) (call : Option Call) → AreOnlyNotesBefore text notes rest → text_of_call call ≡ rest → IfSome call IsScriptCall → text ≢ []
    → IsStoredEntryOf text (record { notes = notes; call = call })
found_entry text notes rest call found is can some =
    let all : notes_text notes ++ text_of_call call ≡ text = ap (λ (l : List ℕ). notes_text notes ++ l) is ∙ sym found.0.is in
    record { can = record { notes = found.0.can; some = λ none. some (sym all ∙ none) }; call = can; text_is = all }

no_rest : {A : Type 0} (rest : List A) → length rest ≡ 0 → rest ≡ []
no_rest [] none = refl
no_rest (x ∷ rest) none = absurd (omega (arith, none))

-- notes are no empty text
pub notes_some : (notes : List Note) (rest : List ℕ) → 0 < length notes → notes_text notes ++ rest ≢ []
notes_some [] rest some none = absurd (omega (arith, some))
notes_some (one ∷ notes) rest some none = absurd (omega (arith, ap length none))

pub notes_alone : (text : List ℕ) (notes : List Note) (rest : List ℕ) → AreOnlyNotesBefore text notes rest → length rest ≡ 0 → 0 < length notes → IsStoredEntryOf text (record { notes = notes; call = None })
notes_alone text notes rest found empty some =
    found_entry text notes rest None found (sym (no_rest rest empty)) tt (λ none. notes_some notes rest some (sym found.0.is ∙ none))

pub called : (text : List ℕ) (notes : List Note) (rest : List ℕ) (call : Call) → AreOnlyNotesBefore text notes rest → call_text call ≡ rest → IsScriptCall call → IsStoredEntryOf text (record { notes = notes; call = Some call })
called text notes rest call found is can =
    found_entry text notes rest (Some call) found is can (λ none. entry_some notes call (ap (λ (l : List ℕ). notes_text notes ++ l) is ∙ sym found.0.is ∙ none))

-- no entry has a text whose rest after the notes is the text of no call
no_entry : (text : List ℕ) (notes : List Note) (rest : List ℕ) → AreOnlyNotesBefore text notes rest → ((call : Option Call) → IfSome call IsScriptCall → text_of_call call ≡ rest → ⊥) → IsNoStoredEntry text
no_entry text notes rest found none = λ entry is.
    let both = found.1 entry.notes (text_of_call entry.call) (record { can = is.can.notes; is = sym is.text_is; ends = rest_plain entry.call }) in
    none entry.call is.call (sym both.1)

pub nothing : (text : List ℕ) (notes : List Note) (rest : List ℕ) → AreOnlyNotesBefore text notes rest → length rest ≡ 0 → length notes ≡ 0 → IsNoStoredEntry text
nothing text notes rest found empty none = λ entry is.
    let no_notes : notes ≡ [] = no_rest notes none in
    let empty_text : text ≡ [] = found.0.is ∙ (λ k. notes_text (no_notes k) ++ no_rest rest empty k) in
    is.can.some (is.text_is ∙ empty_text)

pub uncalled : (text : List ℕ) (notes : List Note) (rest : List ℕ) → AreOnlyNotesBefore text notes rest → 0 < length rest → ((call : Call) → IsScriptCall call → call_text call ≢ rest) → IsNoStoredEntry text
uncalled text notes rest found some none = no_entry text notes rest found by where
  by : (call : Option Call) → IfSome call IsScriptCall → text_of_call call ≡ rest → ⊥
  by None can is = absurd (omega (arith, some, ap length is))
  by (Some c) can is = none c can is

-- an entry begins with notes, and then no comment
pub begins_no_entry : (text : List ℕ) → ((others : List Note) (more : List ℕ) → ¬ (AreNotesBefore text others more)) → IsNoStoredEntry text
begins_no_entry text none = λ entry is.
    none entry.notes (text_of_call entry.call) (record { can = is.can.notes; is = sym is.text_is; ends = rest_plain entry.call })
