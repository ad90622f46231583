-- The entries of texts.
use Rattle.std.proofs.Common.{◌≡◌, ℕ, List, [], ◌∷◌, ◌++◌, length, Option, None, Some, refl, sym, ap, subst, ◌∙◌, arith}
use Rattle.camp_call.specs.declared.calls.Call.{Call}
use Rattle.camp_entries.specs.Texts.{IsEntryOf}
use Rattle.camp_member.specs.Entries.{Tagged}
use Rattle.camp_member.specs.Notes.{WithNote}
use Rattle.camp_object.specs.Histories.{IsBeginning}
use Rattle.camp_shared.specs.Laws.{AreEntriesOf}

abbrev pub Entries : Type 0
Entries = List (Option (Tagged (WithNote Call)))

-- a text has one entry, or none
pub same_entry : (text : List ℕ) (one two : Option (Tagged (WithNote Call))) → IsEntryOf text one → IsEntryOf text two → one ≡ two
same_entry text None None first second = refl
same_entry text None (Some entry) first second = absurd (first entry second.0 second.1)
same_entry text (Some entry) None first second = absurd (second entry first.0 first.1)
same_entry text (Some entry) (Some other) first second = ap (λ (e : Tagged (WithNote Call)). Some e) (first.2 other second.0 second.1)

pub entries_len : (texts : List (List ℕ)) (log : Entries) → AreEntriesOf texts log → length log ≡ length texts
entries_len [] [] are = refl
entries_len [] (found ∷ log) are = absurd are
entries_len (text ∷ texts) [] are = absurd are
entries_len (text ∷ texts) (found ∷ log) are = let rest = entries_len texts log are.1 in omega (arith, rest)

pub entries_push : (texts : List (List ℕ)) (log : Entries) (text : List ℕ) (found : Option (Tagged (WithNote Call))) → AreEntriesOf texts log → IsEntryOf text found → AreEntriesOf (texts ++ text ∷ []) (log ++ found ∷ [])
entries_push [] [] text found are is = (is, tt)
entries_push [] (x ∷ log) text found are is = absurd are
entries_push (t ∷ texts) [] text found are is = absurd are
entries_push (t ∷ texts) (x ∷ log) text found are is = (are.0, entries_push texts log text found are.1 is)

-- what stands in the first texts stands first, and what stands in the others stands after it
pub record SplitAt (first rest : List (List ℕ)) (log whole : Entries) : Type 0 where
  pub after : Entries
  pub makes : log ++ after ≡ whole
  pub are : AreEntriesOf rest after

pub entries_split : (first rest : List (List ℕ)) (log whole : Entries) → AreEntriesOf first log → AreEntriesOf (first ++ rest) whole → SplitAt first rest log whole
entries_split [] rest [] whole one all = record { after = whole; makes = refl; are = all }
entries_split [] rest (x ∷ log) whole one all = absurd one
entries_split (text ∷ first) rest [] whole one all = absurd one
entries_split (text ∷ first) rest (x ∷ log) [] one all = absurd all
entries_split (text ∷ first) rest (x ∷ log) (y ∷ whole) one all =
    let more = entries_split first rest log whole one.1 all.1 in
    let same : x ≡ y = same_entry text x y one.0 all.0 in
    record {
      after = more.after;
      makes = ap (λ (z : Option (Tagged (WithNote Call))). z ∷ (log ++ more.after)) same ∙ ap (λ list. y ∷ list) more.makes;
      are = more.are;
    }

-- the first texts have entries if all have
pub record Halves (first rest : List (List ℕ)) (whole : Entries) : Type 0 where
  pub log : Entries
  pub are_first : AreEntriesOf first log
  pub split : SplitAt first rest log whole

pub entries_halves : (first rest : List (List ℕ)) (whole : Entries) → AreEntriesOf (first ++ rest) whole → Halves first rest whole
entries_halves [] rest whole all = record { log = []; are_first = tt; split = record { after = whole; makes = refl; are = all } }
entries_halves (text ∷ first) rest [] all = absurd all
entries_halves (text ∷ first) rest (x ∷ whole) all =
    let more = entries_halves first rest whole all.1 in
    record {
      log = x ∷ more.log;
      are_first = (all.0, more.are_first);
      split = record { after = more.split.after; makes = ap (λ list. x ∷ list) more.split.makes; are = more.split.are };
    }

pub entries_begin : (first texts : List (List ℕ)) (log whole : Entries) → IsBeginning first texts → AreEntriesOf first log → AreEntriesOf texts whole → IsBeginning log whole
entries_begin first texts log whole begins one all =
    let split = entries_split first begins.rest log whole one (subst (λ (list : List (List ℕ)). AreEntriesOf list whole) (sym begins.makes) all) in
    record { rest = split.after; makes = split.makes }

pub same_log : (texts : List (List ℕ)) (one two : Entries) → AreEntriesOf texts one → AreEntriesOf texts two → one ≡ two
same_log [] [] [] first second = refl
same_log [] [] (y ∷ two) first second = absurd second
same_log [] (x ∷ one) two first second = absurd first
same_log (text ∷ texts) [] two first second = absurd first
same_log (text ∷ texts) (x ∷ one) [] first second = absurd second
same_log (text ∷ texts) (x ∷ one) (y ∷ two) first second =
    ap (λ (z : Option (Tagged (WithNote Call))). z ∷ one) (same_entry text x y first.0 second.0) ∙ ap (λ list. y ∷ list) (same_log texts one two first.1 second.1)

-- the entry of the text that stands next
pub next_entry : (text : List ℕ) (texts : List (List ℕ)) (found : Option (Tagged (WithNote Call))) (after : Entries) → IsEntryOf text found → AreEntriesOf (text ∷ texts) after → (rest : Entries) × (after ≡ found ∷ rest)
next_entry text texts found [] is are = absurd are
next_entry text texts found (x ∷ after) is are = (after, ap (λ (z : Option (Tagged (WithNote Call))). z ∷ after) (same_entry text x found are.0 is))

pub last_entry : (text : List ℕ) (found : Option (Tagged (WithNote Call))) (after : Entries) → IsEntryOf text found → AreEntriesOf (text ∷ []) after → after ≡ found ∷ []
last_entry text found [] is are = absurd are
last_entry text found (x ∷ []) is are = ap (λ (z : Option (Tagged (WithNote Call))). z ∷ []) (same_entry text x found are.0 is)
last_entry text found (x ∷ y ∷ after) is are = absurd are.1
