-- Why a file is refused.
use Rattle.std.proofs.Common.{◌≡◌, ◌≤◌, ◌+◌, inl, inr, ℕ, zero, suc, Bool, List, [], ◌∷◌, ◌++◌, length, Result, Ok, Err, IfErr, IsErrAnd, IsTrue, Option, None, sym, ◌∙◌, ap, subst, arith, length-append, true≢false}
use Rattle.std.proofs.lemmas.List.{nil_from_length}
use Rattle.camp_kept.specs.Faults.{IsTitleFault, RefusesFile, RefusesToOpen, fault_of}
use Rattle.camp_kept.specs.Accepting.{AreAccepted, History, StoreContents}
use Rattle.camp_kept.specs.Entries.{entry_texts}
use Rattle.camp_kept.specs.Persisting.{DecodesToCalls, max_untitled_len}
use Rattle.camp_kept.specs.Titles.{CanBeLimits, SaysLimits, title_of}
use Rattle.camp_kept.specs.Replaying.{AreReplayed, RefusesText}
use Rattle.camp_kept.specs.declared.faults.PersistenceFault.{PersistenceFault}
use Rattle.camp_kept.specs.declared.faults.PersistenceFault.TheVariants as persistence
use Rattle.camp_kept.proofs.EntryLemmas.{no_texts}
use Rattle.camp_kept.proofs.ReplayLemmas.{decoded_texts, next_after, next_is}
use Rattle.camp_kept.proofs.TitleLemmas.{one_title, title_short}
use Rattle.camp_repo.specs.Limits.{Bounds}
use Rattle.camp_notes.specs.declared.logs.PlacedNote.{PlacedNote}
use Rattle.camp_store.specs.Blocks.{AllFit, AreBlocks, DecodesTo, IsBlock, blocks, body, chain, first_digest, head}
use Rattle.camp_store.specs.Logs.{IsAppendFault, IsAppendable, IsMarkFault, PersistsTexts, end_offset}
use Rattle.camp_store.specs.Readings.{IsDamaged, IsDecodeFault, IsReadingFault, ReportsDamage}
use Rattle.camp_store.specs.declared.logs.Log.{Log}
use Rattle.camp_store.specs.declared.faults.StoreFault.{StoreFault}
use Rattle.camp_store.specs.declared.faults.StoreFault.TheVariants as store
use Rattle.camp_store.proofs.BlockLemmas.{block_more, block_once, damaged_does_not_decode, decodes_once}
use Rattle.camp_store.proofs.HeadLemmas.{length-head}

-- a file that is damaged at its start begins with no block
no_first_block : (at : ℕ) (file : List ℕ) → IsDamaged zero at file → (text after : List ℕ) → IsBlock first_digest text after file → ⊥
no_first_block at file damage text after block =
    let none : damage.texts ≡ [] = nil_from_length damage.texts (sym damage.count_is) in
    let front : damage.front ≡ [] = subst (λ (ts : List (List ℕ)). AreBlocks first_digest ts damage.front) none damage.are in
    let here : file ≡ damage.rest = damage.split ∙ ap (λ (l : List ℕ). l ++ damage.rest) front in
    damage.no_block text after
    (subst (λ (ts : List (List ℕ)). IsBlock (chain first_digest ts) text after damage.rest) (sym none)
    (subst (λ (f : List ℕ). IsBlock first_digest text after f) here block))

-- a file of texts begins with the block of the first
pub begins_with : (text : List ℕ) (texts : List (List ℕ)) (file : List ℕ) → DecodesTo (text ∷ texts) file → (after : List ℕ) × IsBlock first_digest text after file
begins_with text texts file decodes = (
  decodes.are.0 ++ decodes.end,
  subst (λ (f : List ℕ). IsBlock first_digest text (decodes.are.0 ++ decodes.end) f) (sym decodes.split) (block_more first_digest text decodes.are.0 decodes.end decodes.front decodes.are.1),
)

-- a damaged file is refused
pub damage_is_refused : (wanted : Option Bounds) (why : StoreFault) (file : List ℕ) → IsDecodeFault why → ReportsDamage why file → RefusesFile wanted (fault_of why) file
damage_is_refused wanted store.Memory file of damage = tt
damage_is_refused wanted (store.Disk error) file of damage = absurd of
damage_is_refused wanted store.TooLong file of damage = absurd of
damage_is_refused wanted (store.Damaged zero at) file of damage = record {
  untitled = λ limits range after block. no_first_block at file damage (title_of limits) after block;
  long = λ none. absurd (damaged_does_not_decode zero at file damage [] none);
}
damage_is_refused wanted (store.Damaged (suc n) at) file of damage = (
  record {
    texts = damage.texts;
    some = omega (arith, damage.count_is);
    front = damage.front;
    rest = damage.rest;
    split = damage.split;
    are = damage.are;
    call_is = inl damage.count_is;
    at_is = inl damage.at_is;
    wrong = inl (record { no_end = damage.no_end; no_block = damage.no_block });
  },
  λ new stored accepted decoded. damaged_does_not_decode (suc n) at file damage decoded.texts decoded.decodes,
)
damage_is_refused wanted store.Failed file of damage = absurd of

-- a disk whose bytes are refused is not opened
pub refusal_unopened : (usable : Bool) (wanted : Option Bounds) (why : PersistenceFault) (file : List ℕ) → RefusesFile wanted why file → RefusesToOpen usable wanted why file
refusal_unopened usable wanted persistence.Memory file refusal = refusal
refusal_unopened usable wanted persistence.NoStore file refusal = refusal
refusal_unopened usable wanted (persistence.Damaged call at) file refusal = refusal
refusal_unopened usable wanted (persistence.OtherLimits catches branches) file refusal = refusal
refusal_unopened usable wanted (persistence.Store fault) file refusal = absurd refusal

-- a disk that could not be read is not opened
unread_unopened : (usable : Bool) (wanted : Option Bounds) (why : StoreFault) (file : List ℕ) → IsReadingFault usable why → ReportsDamage why file → RefusesToOpen usable wanted (fault_of why) file
unread_unopened usable wanted store.Memory file of damage = tt
unread_unopened usable wanted (store.Disk error) file of damage = tt
unread_unopened usable wanted store.TooLong file of damage = absurd of
unread_unopened usable wanted (store.Damaged zero at) file of damage = damage_is_refused wanted (store.Damaged zero at) file tt damage
unread_unopened usable wanted (store.Damaged (suc n) at) file of damage = damage_is_refused wanted (store.Damaged (suc n) at) file tt damage
unread_unopened usable wanted store.Failed file of damage = of

-- nor one after whose texts no mark could be closed
pub unclosed_unopened : (usable now : Bool) (wanted : Option Bounds) (why : StoreFault) (file : List ℕ) → IsTrue now → IsMarkFault now why → RefusesToOpen usable wanted (persistence.Store why) file
unclosed_unopened usable now wanted store.Memory file may of = absurd of
unclosed_unopened usable now wanted (store.Disk error) file may of = tt
unclosed_unopened usable now wanted store.TooLong file may of = absurd of
unclosed_unopened usable now wanted (store.Damaged count at) file may of = absurd of
unclosed_unopened usable now wanted store.Failed file may of = absurd (true≢false (sym may ∙ of))

-- nor one to which no title could be appended
pub untitled_unopened : (usable : Bool) (wanted : Option Bounds) (why : PersistenceFault) (file : List ℕ) → IsTitleFault why → RefusesToOpen usable wanted why file
untitled_unopened usable wanted persistence.Memory file untitled = tt
untitled_unopened usable wanted persistence.NoStore file untitled = absurd untitled
untitled_unopened usable wanted (persistence.Damaged call at) file untitled = absurd untitled
untitled_unopened usable wanted (persistence.OtherLimits catches branches) file untitled = absurd untitled
untitled_unopened usable wanted (persistence.Store (store.Disk error)) file untitled = tt
untitled_unopened usable wanted (persistence.Store store.Failed) file untitled = absurd untitled
untitled_unopened usable wanted (persistence.Store store.Memory) file untitled = absurd untitled
untitled_unopened usable wanted (persistence.Store store.TooLong) file untitled = absurd untitled
untitled_unopened usable wanted (persistence.Store (store.Damaged count at)) file untitled = absurd untitled

-- a title has a length, and fits in a file without texts
title_fits : (limits : Bounds) → CanBeLimits limits → AllFit (title_of limits ∷ [])
title_fits limits range = (omega (arith, title_short limits range), tt)

short_title : (limits : Bounds) → CanBeLimits limits → (digest : List ℕ) → length (blocks digest (title_of limits ∷ [])) + 1 ≤ max_untitled_len
short_title limits range digest =
    let title = title_of limits in
    omega (arith, title_short limits range, length-append (body digest title) [], length-append (head digest title) title, length-head digest title)

pub title_ends : {D : Type 0} (seen : D → List ℕ) (may_leave : D → List ℕ → Type 0) (limits : Bounds) → CanBeLimits limits → (log : Log D) → PersistsTexts seen may_leave [] log
    → end_offset log (title_of limits ∷ []) ≤ max_untitled_len
title_ends seen may_leave limits range log persists = omega (arith, short_title limits range log.digest, persists.length_is, ap (λ (l : List ℕ). length l) persists.are)

-- why a title is not appended to a log that has not failed
pub title_is_not_appended : {D : Type 0} (seen : D → List ℕ) (may_leave : D → List ℕ → Type 0) (is_usable : D → Bool) (limits : Bounds) → CanBeLimits limits → (log : Log D) (why : StoreFault)
    → PersistsTexts seen may_leave [] log → IsAppendable is_usable log → IsAppendFault is_usable log (title_of limits ∷ []) why → IsTitleFault (fault_of why)
title_is_not_appended seen may_leave is_usable limits range log store.Memory persists open_ of = tt
title_is_not_appended seen may_leave is_usable limits range log (store.Disk error) persists open_ of = tt
title_is_not_appended seen may_leave is_usable limits range log store.TooLong persists open_ (inl unfit) = absurd (unfit (title_fits limits range))
title_is_not_appended seen may_leave is_usable limits range log store.TooLong persists open_ (inr long) =
    absurd (omega (arith, long, title_ends seen may_leave limits range log persists))
title_is_not_appended seen may_leave is_usable limits range log (store.Damaged zero at) persists open_ of = absurd of
title_is_not_appended seen may_leave is_usable limits range log (store.Damaged (suc n) at) persists open_ of = absurd of
title_is_not_appended seen may_leave is_usable limits range log store.Failed persists open_ of = absurd (of open_)

-- a file of texts, the first of which is no title
pub another_title : (wanted : Option Bounds) (text : List ℕ) (texts : List (List ℕ)) → SaysLimits text None → (file : List ℕ) → DecodesTo (text ∷ texts) file → RefusesFile wanted persistence.NoStore file
another_title wanted text texts none file decodes =
    let first = begins_with text texts file decodes in
    record {
      untitled = λ limits range after block. none limits range ((block_once first_digest (title_of limits) text after first.0 file block first.1).0);
      long = λ empty. absurd (no_texts text texts (decodes_once (text ∷ texts) [] file decodes empty));
    }

-- a file of texts, one of which is of no entry that can come there
pub not_accepted : (limits : Bounds) (done : List (List ℕ)) (text : List ℕ) (rest : List (List ℕ)) (history : History) (notes : List PlacedNote) → CanBeLimits limits → AreReplayed limits done history notes
    → RefusesText history text → (file : List ℕ) → DecodesTo (title_of limits ∷ (done ++ text ∷ rest)) file → (new : Bounds) (stored : StoreContents) → AreAccepted stored → DecodesToCalls new stored file → ⊥
not_accepted limits done text rest history notes range asked none file decodes new stored accepted decoded =
    let texts = decoded_texts new (title_of limits) (done ++ text ∷ rest) stored file decodes decoded in
    let same : stored.limits ≡ limits = one_title stored.limits limits accepted.range range texts.0 in
    let e : entry_texts texts.1.entries ≡ entry_texts asked.entries.entries ++ text ∷ rest =
    sym texts.1.texts_are ∙ ap (λ (l : List (List ℕ)). l ++ text ∷ rest) asked.entries.texts_are in
    let next = next_after limits done history notes asked stored texts.1.entries text rest accepted same texts.1.can texts.1.calls_are e in
    none next.0 next.2.can next.1 (next_is limits history asked.calls asked.is next.0.call next.2.call)

-- the fault with which a damaged file was reported
pub refused_from : {T : Type 0} (Known : Type 0) (usable : Bool) (wanted : Option Bounds) (result : Result T PersistenceFault) (why : StoreFault) (file : List ℕ) → IsErrAnd result (λ fault. fault ≡ fault_of why)
    → IsReadingFault usable why → (Known → ReportsDamage why file) → IfErr result (λ fault. Known → RefusesToOpen usable wanted fault file)
refused_from Known usable wanted (Ok value) why file is of damage = tt
refused_from Known usable wanted (Err fault) why file is of damage = λ known.
    subst (λ (f : PersistenceFault). RefusesToOpen usable wanted f file) (sym is) (unread_unopened usable wanted why file of (damage known))

-- one that was read, and whose bytes are refused
pub refused_then : {T : Type 0} (Known : Type 0) (usable : Bool) (wanted : Option Bounds) (result : Result T PersistenceFault) (why : PersistenceFault) (file : List ℕ) → IsErrAnd result (λ fault. fault ≡ why)
    → (Known → RefusesFile wanted why file) → IfErr result (λ fault. Known → RefusesToOpen usable wanted fault file)
refused_then Known usable wanted (Ok value) why file is refusal = tt
refused_then Known usable wanted (Err fault) why file is refusal = λ known.
    subst (λ (f : PersistenceFault). RefusesToOpen usable wanted f file) (sym is) (refusal_unopened usable wanted why file (refusal known))

pub refused_at_once : {T : Type 0} (wanted : Option Bounds) (result : Result T PersistenceFault) (why : StoreFault) (file : List ℕ) → IsErrAnd result (λ fault. fault ≡ fault_of why)
    → IsDecodeFault why → ReportsDamage why file → IfErr result (λ fault. RefusesFile wanted fault file)
refused_at_once wanted (Ok value) why file is of damage = tt
refused_at_once wanted (Err fault) why file is of damage = subst (λ (f : PersistenceFault). RefusesFile wanted f file) (sym is) (damage_is_refused wanted why file of damage)

-- one whose title is refused
pub refused_so : {T : Type 0} (wanted : Option Bounds) (result : Result T PersistenceFault) (why : PersistenceFault) (Known : List ℕ → Type 0) → IsErrAnd result (λ fault. fault ≡ why)
    → ((file : List ℕ) → Known file → RefusesFile wanted why file) → IfErr result (λ fault. (file : List ℕ) → Known file → RefusesFile wanted fault file)
refused_so wanted (Ok value) why Known is refusal = tt
refused_so wanted (Err fault) why Known is refusal = λ file known.
    subst (λ (f : PersistenceFault). RefusesFile wanted f file) (sym is) (refusal file known)
