-- The calls of a file that is opened.
use Rattle.std.proofs.Common.{◌≡◌, inl, inr, ℕ, List, [], ◌∷◌, ◌≤◌, length, refl, sym, ◌∙◌, ap, subst}
use Rattle.camp_kept.specs.Accepting.{StoreContents, empty_within}
use Rattle.camp_kept.specs.Openings.{PersistsTitled}
use Rattle.camp_kept.specs.Persisting.{AreStoreTexts, AreTexts, DecodesToCalls, max_untitled_len}
use Rattle.camp_kept.specs.Titles.{title_of}
use Rattle.camp_repo.specs.Limits.{Bounds}
use Rattle.camp_kept.proofs.Committing.{store_decodes}
use Rattle.camp_kept.proofs.EntryLemmas.{no_entries, no_texts}
use Rattle.camp_store.specs.Blocks.{AreBlocks, DecodesTo, first_digest}
use Rattle.camp_store.specs.Logs.{IsBeforeOrAfter, PersistsTexts, disk_of, texts_of}
use Rattle.camp_store.specs.Readings.{IsDecodedFrom}
use Rattle.camp_store.specs.declared.logs.Log.{Log}
use Rattle.camp_store.specs.declared.readings.Reading.{Reading}
use Rattle.camp_store.proofs.BlockLemmas.{decodes_once, log_decodes}

-- a file with the same texts as one that decodes to calls decodes to them too
pub decodes_too : (new : Bounds) (texts : List (List ℕ)) (calls : StoreContents) (file : List ℕ) → DecodesTo texts file → DecodesToCalls new calls file → (c : List ℕ) → DecodesTo texts c
    → (texts ≡ [] → length c ≤ max_untitled_len) → DecodesToCalls new calls c
decodes_too new texts calls file decodes decoded c now short =
    let same : decoded.texts ≡ texts = sym (decodes_once texts decoded.texts file decodes decoded.decodes) in
    record { texts = texts; are = subst (λ (ts : List (List ℕ)). AreTexts new ts calls) same decoded.are; decodes = now; short = short }

-- a file without texts that decodes to calls is short
pub decoded_short : (new : Bounds) (texts : List (List ℕ)) (calls : StoreContents) (file : List ℕ) → DecodesTo texts file → DecodesToCalls new calls file → texts ≡ [] → length file ≤ max_untitled_len
decoded_short new texts calls file decodes decoded none = decoded.short (sym (decodes_once texts decoded.texts file decodes decoded.decodes) ∙ none)

-- the blocks of no texts have no bytes
pub no_bytes : (file : List ℕ) (reading : Reading) → IsDecodedFrom file reading → texts_of reading.texts.items ≡ [] → reading.length ≡ 0
no_bytes file reading is none =
    let front : is.front ≡ [] = subst (λ (ts : List (List ℕ)). AreBlocks first_digest ts is.front) none is.are in
    is.length_is ∙ ap length front

-- a title alone is a store without calls and notes
pub title_alone : (new : Bounds) → AreStoreTexts (empty_within new) (title_of new ∷ [])
title_alone new = record { others = []; title = refl; entries = no_entries 0 }

-- no texts are those of no calls
pub no_calls : (new : Bounds) (calls : StoreContents) → AreTexts new [] calls → calls ≡ empty_within new
no_calls new calls (inl are) = absurd (no_texts (title_of calls.limits) are.others (sym are.title))
no_calls new calls (inr none) = none.1

-- while a title is appended
pub titled_or_not : (new : Bounds) (c : List ℕ) → length c ≤ max_untitled_len → IsBeforeOrAfter [] (title_of new ∷ []) c → DecodesToCalls new (empty_within new) c
titled_or_not new c short (inl before) = record { texts = []; are = inr (refl, refl); decodes = before; short = λ none. short }
titled_or_not new c short (inr after) = store_decodes new (empty_within new) (title_of new ∷ []) c (title_alone new) after

-- and where none is
pub still_untitled : {D : Type 0} (seen : D → List ℕ) (may_leave : D → List ℕ → Type 0) (new : Bounds) (log : Log D) → PersistsTexts seen may_leave [] log → length (seen (disk_of log)) ≤ max_untitled_len
    → (c : List ℕ) → may_leave (disk_of log) c → DecodesToCalls new (empty_within new) c
still_untitled seen may_leave new log persists short c now =
    titled_or_not new c (subst (λ (f : List ℕ). length f ≤ max_untitled_len) (sym (persists.durable c now)) short)
    (inl (log_decodes seen may_leave [] (disk_of log) log.length log.digest persists c now))

-- the texts, as they were read
pub as_read : (new : Bounds) (texts : List (List ℕ)) (calls : StoreContents) (file : List ℕ) → DecodesTo texts file → DecodesToCalls new calls file → AreTexts new texts calls
as_read new texts calls file decodes decoded = subst (λ (ts : List (List ℕ)). AreTexts new ts calls) (sym (decodes_once texts decoded.texts file decodes decoded.decodes)) decoded.are

-- a log without texts, after a title
pub titled : {D : Type 0} (seen : D → List ℕ) (may_leave : D → List ℕ → Type 0) (new : Bounds) (log : Log D) → PersistsTexts seen may_leave (title_of new ∷ []) log → PersistsTitled seen may_leave new [] log
titled seen may_leave new log persists = record {
  all = title_of new ∷ [];
  persists = persists;
  are = λ stored are. subst (λ (s : StoreContents). AreStoreTexts s (title_of new ∷ [])) (sym (no_calls new stored are)) (title_alone new);
}

-- a log with texts stays as it is
pub titled_already : {D : Type 0} (seen : D → List ℕ) (may_leave : D → List ℕ → Type 0) (new : Bounds) (texts : List (List ℕ)) (log : Log D) → (texts ≡ [] → ⊥) → PersistsTexts seen may_leave texts log
    → PersistsTitled seen may_leave new texts log
titled_already seen may_leave new texts log some persists = record { all = texts; persists = persists; are = λ stored are. by stored are } where
  by : (stored : StoreContents) → AreTexts new texts stored → AreStoreTexts stored texts
  by stored (inl are) = are
  by stored (inr none) = absurd (some none.0)
