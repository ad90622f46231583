-- Entries of a file, replayed.
use Rattle.std.proofs.Common.{◌≡◌, inl, inr, Bool, true, false, List, [], ◌∷◌, ◌++◌, length, refl, sym, ◌∙◌, ap, subst, arith, append_assoc, append-nil, ◌+◌, Ok, IsSome, IfSome, Option, None, Some, ℕ, option_to_list}
use Rattle.std.specs.List.{AllByRecursion}
use Rattle.std.specs.Option.{option_and_then}
use Rattle.std.proofs.Common.{MatchOption, is_some, true≢false}
use Rattle.std.proofs.lemmas.List.{length-map, map-append}
use Rattle.camp_call.specs.declared.calls.Call.{Call}
use Rattle.camp_call.specs.declared.replies.Reply.{Reply}
use Rattle.camp_kept.specs.Accepting.{AreAccepted, History, StoreContents, alone}
use Rattle.camp_kept.specs.Entries.{AreStoredEntries, IsStoredEntry, StoredEntry, calls_of_entries, entry_texts, placed_at, text_of_stored}
use Rattle.camp_kept.specs.Parsing.{IsStoredEntryOf, IsNoStoredEntry}
use Rattle.camp_kept.specs.Persisting.{AreTexts, DecodesToCalls}
use Rattle.camp_kept.specs.Titles.{AreAsWanted, CanBeLimits, new_limits, title_of}
use Rattle.camp_kept.specs.Replaying.{AddsText, AreRecovered, AreReplayed, CanBeNext, ExecutesCall, CanBeNextEntry, RefusesText, ReplaysText, new_with, then_call, then_calls}
use Rattle.camp_kept.proofs.EntryLemmas.{all_join, calls_of_entries-append, entries_more, entry_after, first_text, no_entries, no_texts, one_entry, other_texts}
use Rattle.camp_notes.specs.declared.logs.PlacedNote.{PlacedNote}
use Rattle.camp_notes.specs.declared.notes.Note.{Note}
use Rattle.camp_object.specs.Asking.{Accepts, AddsNothing, alone_at}
use Rattle.camp_object.specs.Books.{AsksBook}
use Rattle.camp_object.specs.Histories.{IsAccepted, IsAnswered, IsBeginning, IsLegal}
use Rattle.camp_object.specs.Objects.{begun}
use Rattle.camp_object.proofs.SameBooks.{same_book}
use Rattle.camp_object.proofs.Replays.{legal_front, replay_more}
use Rattle.camp_repo.specs.Limits.{Bounds}
use Rattle.camp_repo.specs.Objects.{reply_number, repository, repository_within}
use Rattle.camp_repo.specs.States.{Contents, new_within}
use Rattle.camp_script.specs.Canonical.{IsScriptCall}
use Rattle.camp_script.specs.Keeping.{calls_of}
use Rattle.camp_store.specs.Blocks.{DecodesTo}
use Rattle.camp_store.proofs.BlockLemmas.{decodes_once}

-- a call that comes after others among accepted calls is accepted after them
accepted_call : (done more : List Call) (call : Option Call) (stored : StoreContents) → AreAccepted stored → stored.calls ≡ done ++ (option_to_list call ++ more) → IfSome call IsScriptCall
    → IfSome call (λ c. IsScriptCall c × IsAccepted (repository_within stored.limits) (alone done) c)
accepted_call done more None stored accepted is can = tt
accepted_call done more (Some c) stored accepted is can =
    let makes : (alone done ++ (0, c) ∷ []) ++ alone more ≡ alone stored.calls =
    append_assoc (alone done) ((0, c) ∷ []) (alone more)
    ∙ sym (map-append (λ (call : Call). (0, call)) done (c ∷ more))
    ∙ ap alone (sym is) in
    let front : IsBeginning (alone done ++ (0, c) ∷ []) (alone stored.calls) = record { rest = alone more; makes = makes } in
    let object = repository_within stored.limits in
    let legal : IsLegal object (alone done ++ (0, c) ∷ []) = legal_front object front accepted.legal in
    (can, subst (λ (o : Option Contents). IsSome o) (replay_more object (alone done) (0, c)) legal)

-- entries of a store that have the texts of others, and one more: the entry of that one can come after the others
pub next_entry : (done entries : List StoredEntry) (stored : StoreContents) (text : List ℕ) (rest : List (List ℕ)) → AllByRecursion IsStoredEntry done → AllByRecursion IsStoredEntry entries
    → AllByRecursion IsScriptCall (calls_of_entries done) → AreAccepted stored → stored.calls ≡ calls_of_entries entries → entry_texts entries ≡ entry_texts done ++ text ∷ rest
    → (entry : StoredEntry) × (text_of_stored entry ≡ text) × CanBeNextEntry stored.limits (calls_of_entries done) entry
next_entry done entries stored text rest are were can accepted calls e =
    let after = entry_after done entries text rest are were can (subst (λ (l : List Call). AllByRecursion IsScriptCall l) calls accepted.can) e in
    let is : stored.calls ≡ calls_of_entries done ++ (option_to_list after.entry.call ++ calls_of_entries after.more) =
    calls ∙ ap calls_of_entries after.is ∙ calls_of_entries-append done (after.entry ∷ after.more) in (
      after.entry,
      after.text_is,
      record { can = after.can; call = accepted_call (calls_of_entries done) (calls_of_entries after.more) after.entry.call stored accepted is after.call },
    )

-- the title and the entries of a file with texts
pub decoded_texts : (new : Bounds) (title : List ℕ) (texts : List (List ℕ)) (stored : StoreContents) (file : List ℕ) → DecodesTo (title ∷ texts) file → DecodesToCalls new stored file
    → (title_of stored.limits ≡ title) × AreStoredEntries 0 stored.calls stored.notes texts
decoded_texts new title texts stored file decodes decoded = from decoded.are where
  same : title ∷ texts ≡ decoded.texts
  same = decodes_once (title ∷ texts) decoded.texts file decodes decoded.decodes

  from : AreTexts new decoded.texts stored → (title_of stored.limits ≡ title) × AreStoredEntries 0 stored.calls stored.notes texts
  from (inl are) = (
    sym (ap first_text (same ∙ are.title)),
    subst (λ (l : List (List ℕ)). AreStoredEntries 0 stored.calls stored.notes l) (sym (ap other_texts (same ∙ are.title))) are.entries,
  )
  from (inr none) = absurd (no_texts title texts (same ∙ none.0))

-- entries of a store that have the texts of replayed ones, and one more: the entry of that one can come after those
pub next_after : (limits : Bounds) (done : List (List ℕ)) (history : History) (notes : List PlacedNote) (asked : AreReplayed limits done history notes) (stored : StoreContents) (entries : List StoredEntry) (text : List ℕ) (rest : List (List ℕ))
    → AreAccepted stored → stored.limits ≡ limits → AllByRecursion IsStoredEntry entries → stored.calls ≡ calls_of_entries entries → entry_texts entries ≡ entry_texts asked.entries.entries ++ text ∷ rest
    → (entry : StoredEntry) × (text_of_stored entry ≡ text) × CanBeNextEntry limits asked.calls entry
next_after limits done history notes asked stored entries text rest accepted same can calls e =
    let next =
    next_entry asked.entries.entries entries stored text rest asked.entries.can can (subst (λ (l : List Call). AllByRecursion IsScriptCall l) asked.entries.calls_are asked.can) accepted calls e in (
      next.0,
      next.1,
      subst (λ (l : Bounds). CanBeNextEntry l asked.calls next.0) same (subst (λ (l : List Call). CanBeNextEntry stored.limits l next.0) (sym asked.entries.calls_are) next.2),
    )

-- a call that can come after calls can come after their history
pub next_is : (limits : Bounds) (history : History) (calls : List Call) → history ≡ new_with limits calls → (call : Option Call)
    → IfSome call (λ c. IsScriptCall c × IsAccepted (repository_within limits) (alone calls) c) → IfSome call (λ c. IsScriptCall c × CanBeNext history c)
next_is limits history calls is call next = subst (λ (h : History). IfSome call (λ c. IsScriptCall c × CanBeNext h c)) (sym is) next

-- calls without their seat
pub calls_alone : (calls : List Call) → calls_of (alone calls) ≡ calls
calls_alone [] = refl
calls_alone (c ∷ calls) = ap (λ (l : List Call). c ∷ l) (calls_alone calls)

pub alone-push : (calls : List Call) (c : Call) → alone calls ++ (0, c) ∷ [] ≡ alone (calls ++ c ∷ [])
alone-push calls c = sym (map-append (λ (call : Call). (0, call)) calls (c ∷ []))

-- a call is executed on a book, and its reply says whether it was accepted
module _ (before after : History) (call : Call) (asked : Reply) (asks : AsksBook repository 0 before call (Ok asked) after) where
  accepted_last : {at : ℕ} → reply_number asked ≡ Some at → after ≡ then_call before call
  accepted_last {at} is =
      let done : Accepts (alone_at 0) before.calls call at after.calls = subst (λ (decoded : Option ℕ). MatchOption decoded (AddsNothing (alone_at 0) before.calls after.calls × IsAnswered (begun repository before.first) after.calls call asked) (λ n. Accepts (alone_at 0) before.calls call n after.calls)) is asks.asks.says in
      same_book after (then_call before call) asks.first (done.ends ∙ ap (λ (l : List (ℕ × Call)). l ++ (0, call) ∷ []) (done.exact refl))

  answered_only : reply_number asked ≡ None → ¬ (CanBeNext before call)
  answered_only is accepted =
      let says : AddsNothing (alone_at 0) before.calls after.calls × IsAnswered (begun repository before.first) after.calls call asked = subst (λ (decoded : Option ℕ). MatchOption decoded (AddsNothing (alone_at 0) before.calls after.calls × IsAnswered (begun repository before.first) after.calls call asked) (λ n. Accepts (alone_at 0) before.calls call n after.calls)) is asks.asks.says in
      let here : IsAccepted (begun repository before.first) after.calls call = subst (λ (l : List (ℕ × Call)). IsAccepted (begun repository before.first) l call) (sym (says.0.exact refl)) accepted in
      let none : IsSome (option_and_then (λ (state : Contents). repository.after state call) (Some says.1.state)) = subst (λ (found : Option Contents). IsSome (option_and_then (λ state. repository.after state call) found)) says.1.replays here in
      absurd (true≢false (sym (subst (λ (found : Option Contents). IsSome found) says.1.stays none)))

  by_reply : (decoded : Option ℕ) → reply_number asked ≡ decoded → ExecutesCall before call (is_some decoded) after
  by_reply (Some at) is = accepted_last is
  by_reply None is = answered_only is

  pub executes_call : (accepted : Bool) → accepted ≡ is_some (reply_number asked) → ExecutesCall before call accepted after
  executes_call accepted is = subst (λ (b : Bool). ExecutesCall before call b after) (sym is) (by_reply (reply_number asked) refl)

-- a call that can come next can be in a script
next_can : (before : History) (call : Option Call) → IfSome call (λ c. IsScriptCall c × CanBeNext before c) → IfSome call IsScriptCall
next_can before None next = tt
next_can before (Some c) next = next.0

-- an entry with a call that was found by its text is added
pub replays_call : (before after : History) (given now : List PlacedNote) (text : List ℕ) (notes : List Note) (call : Call) (yes : Bool) → IsStoredEntryOf text (record { notes = notes; call = Some call })
    → now ≡ given ++ placed_at (length before.calls) notes → ExecutesCall before call yes after → ReplaysText before given text yes after now
replays_call before after given now text notes call true found is asks =
    record { entry = record { notes = notes; call = Some call }; can = found.can; call = (found.call, tt); text_is = found.text_is; grows = asks; notes_are = is }
replays_call before after given now text notes call false found is asks = λ other can text_is next.
    let entry : StoredEntry = record { notes = notes; call = Some call } in
    let same : other ≡ entry = one_entry other entry can found.can (next_can before other.call next) found.call (text_is ∙ sym found.text_is) in
    let both : IsScriptCall call × CanBeNext before call = subst (λ (e : StoredEntry). IfSome e.call (λ c. IsScriptCall c × CanBeNext before c)) same next in
    asks both.1

-- an entry of notes alone is added
pub replays_notes : (before : History) (given now : List PlacedNote) (text : List ℕ) (notes : List Note) → IsStoredEntryOf text (record { notes = notes; call = None })
    → now ≡ given ++ placed_at (length before.calls) notes → ReplaysText before given text true before now
replays_notes before given now text notes found is = record {
  entry = record { notes = notes; call = None };
  can = found.can;
  call = tt;
  text_is = found.text_is;
  grows = same_book before (then_calls before []) refl (sym (append-nil before.calls));
  notes_are = is;
}

-- a text of no entry is refused
pub replays_none : (before : History) (text : List ℕ) → IsNoStoredEntry text → RefusesText before text
replays_none before text none = λ entry can text_is next. none entry (record { can = can; call = next_can before entry.call next; text_is = text_is })

-- one more entry is replayed
pub replayed_more : (limits : Bounds) (texts : List (List ℕ)) (text : List ℕ) (before after : History) (given now : List PlacedNote) → AreReplayed limits texts before given → AddsText before given text after now
    → AreReplayed limits (texts ++ text ∷ []) after now
replayed_more limits texts text before after given now asked adds =
    let calls = option_to_list adds.entry.call in
    let count : length before.calls ≡ 0 + length asked.calls =
    ap (λ (h : History). length h.calls) asked.is ∙ length-map asked.calls (λ (call : Call). (0, call)) ∙ omega arith in
    record {
      calls = asked.calls ++ calls;
      is = adds.grows
          ∙ ap (λ (h : History). then_calls h calls) asked.is
          ∙ ap (λ (l : List (ℕ × Call)). record { first = new_within limits; calls = l }) (sym (map-append (λ (call : Call). (0, call)) asked.calls calls));
      can = all_join IsScriptCall asked.calls calls asked.can adds.call;
      entries = subst (λ (l : List PlacedNote). AreStoredEntries 0 (asked.calls ++ calls) l (texts ++ text ∷ [])) (sym adds.notes_are)
          (entries_more 0 asked.calls given texts adds.entry (length before.calls) text asked.entries adds.can adds.text_is count);
    }

-- no entry is replayed yet
pub none_replayed : (limits : Bounds) (history : History) (notes : List PlacedNote) → history ≡ new_with limits [] → notes ≡ [] → AreReplayed limits [] history notes
none_replayed limits history notes is none =
    record { calls = []; is = is; can = tt; entries = subst (λ (l : List PlacedNote). AreStoredEntries 0 [] l []) (sym none) (no_entries 0) }

-- the entries that were replayed, after a title
pub recovered : (wanted : Option Bounds) (limits : Bounds) (texts : List (List ℕ)) (history : History) (notes : List PlacedNote) → CanBeLimits limits → AreAsWanted wanted limits
    → AreReplayed limits texts history notes → AreRecovered wanted (title_of limits ∷ texts) history notes
recovered wanted limits texts history notes range as_wanted asked =
    let calls : calls_of history.calls ≡ asked.calls = ap (λ (h : History). calls_of h.calls) asked.is ∙ calls_alone asked.calls in
    let same : limits ≡ history.first.limits = sym (ap (λ (h : History). h.first.limits) asked.is) in
    record {
      range = subst CanBeLimits same range;
      as_wanted = subst (AreAsWanted wanted) same as_wanted;
      are = inl (record {
        others = texts;
        title = ap (λ (l : Bounds). title_of l ∷ texts) same;
        entries = subst (λ (l : List Call). AreStoredEntries 0 l notes texts) (sym calls) asked.entries;
      });
      can = subst (λ (l : List Call). AllByRecursion IsScriptCall l) (sym calls) asked.can;
    }

new_as_wanted : (wanted : Option Bounds) → AreAsWanted wanted (new_limits wanted)
new_as_wanted None = tt
new_as_wanted (Some limits) = refl

-- no texts are those of a repository without calls and notes, with the limits of a new store
pub none_recovered : (wanted : Option Bounds) (history : History) (notes : List PlacedNote) → CanBeLimits (new_limits wanted) → history ≡ new_with (new_limits wanted) [] → notes ≡ []
    → AreRecovered wanted [] history notes
none_recovered wanted history notes range is none =
    subst (λ (h : History). AreRecovered wanted [] h notes) (sym is)
    (subst (λ (l : List PlacedNote). AreRecovered wanted [] (new_with (new_limits wanted) []) l) (sym none)
    (record { range = range; as_wanted = new_as_wanted wanted; are = inr (refl, refl); can = tt }))
