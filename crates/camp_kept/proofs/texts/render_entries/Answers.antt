use Rattle.std.proofs.Common.{rules, ◌≡◌, ◌+◌, ◌≤◌, ◌<◌, ◌∙◌, List, ℕ, [], ◌∷◌, ◌++◌, length, take, take_all, ap, arith, subst, sym}
use Rattle.std.specs.List.{AllByRecursion}
use Rattle.std.proofs.lemmas.List.{length-map, map-append, take_more}
use Rattle.camp_call.specs.declared.calls.Call.{Call}
use Rattle.camp_kept.specs.Entries.{AreStoredEntries, AreInPlace}
use Rattle.camp_kept.proofs.EntryLemmas.{all_join}
use Rattle.camp_kept.proofs.PlaceLemmas.{AreRendered, call_rendered, first_calls, rest_rendered}
use Rattle.camp_notes.specs.Logs.{notes_placed}
use Rattle.camp_notes.specs.Texts.{notes_text}
use Rattle.camp_script.specs.Canonical.{call_text}
use Rattle.camp_script.specs.Keeping.{CanBeInScript, calls_of}
use Rattle.camp_store.specs.Logs.{texts_of}
use Rattle.camp_store.proofs.BlockLemmas.{texts_of-push}
use Rattle.camp_kept.proofs.texts.render_entries.Goals as goal

pub loop-entry-preserved : goal.loop-entry-preserved
loop-entry-preserved c =
    let xs = c.args.calls.now in
    let i = c.loop-entry.entry-index in
    let x = c.entry-item.result in
    let at = c.loop-entry.at in
    let first = c.args.first in
    let here = c.split_placed.result.0.now in
    let later = c.split_placed.result.1.now in
    let done = calls_of (take i xs) in
    let new = c.extend_from_slice.new.self in
    let next : take (i + 1) xs ≡ take i xs ++ x ∷ [] = search (rules, take_more) in
    let call : c.in_ok-accepted_text.field-0.items ≡ call_text x.1 = search rules in
    let stands : CanBeInScript x.1 = search rules in
    let text : new.items ≡ notes_text (notes_placed here) ++ call_text x.1 =
    c.in_ok-extend_from_slice.ensures.items ∙ (λ j. c.in_ok-text.ensures.text j ++ (c.deref.ensures.value ∙ call) j) in
    let pushed : texts_of c.push.new.self.items ≡ texts_of c.loop-entry.texts.items ++ new.items ∷ [] =
    ap texts_of c.in_ok-push.ensures.items ∙ texts_of-push c.loop-entry.texts.items new in
    let calls : calls_of (take (i + 1) xs) ≡ done ++ x.1 ∷ [] = ap (λ l. calls_of l) next ∙ map-append (λ e. e.1) (take i xs) (x ∷ []) in
    let is : at ≡ first + i = c.loop-entry.invariant.0 in
    let at_is : at ≡ first + length done = is ∙ ap (λ (n : ℕ). first + n) (sym (first_calls xs i (omega (arith, c.loop-entry-test.true)))) in
    let rendered =
    call_rendered first done c.args.notes.now c.loop-entry.rest.now here later (texts_of c.loop-entry.texts.items) at x.1 new.items c.loop-entry.invariant.2 at_is c.split_placed.ensures.all c.split_placed.ensures.here
    c.in_ok-text.ensures.can text in (
      omega (arith, is),
      c.split_placed.ensures.later (first + length xs) c.loop-entry.invariant.1,
      subst (λ (l : List Call). AreRendered first l c.args.notes.now later (texts_of c.push.new.self.items)) (sym calls)
          (subst (λ (l : List (List ℕ)). AreRendered first (done ++ x.1 ∷ []) c.args.notes.now later l) (sym pushed) rendered),
      subst (λ (l : List Call). AllByRecursion CanBeInScript l) (sym calls) (all_join CanBeInScript done (x.1 ∷ []) c.loop-entry.invariant.3 (stands, tt)),
    )

pub returns-clause-entries : goal.returns-clause-entries
returns-clause-entries c =
    let xs = c.args.calls.now in
    let i = c.loop-entry.entry-index in
    let rest = c.loop-entry.rest.now in
    let at = c.loop-entry.at in
    let first = c.args.first in
    let last = c.in_ok-last.last in
    let all : take i xs ≡ xs = take_all i xs (omega arith) in
    let few : i ≤ length xs = omega arith in
    let done : AreRendered first (calls_of xs) c.args.notes.now rest (texts_of c.loop-entry.texts.items) =
    subst (λ l. AreRendered first (calls_of l) c.args.notes.now rest (texts_of c.loop-entry.texts.items)) all c.loop-entry.invariant.2 in
    let count : length (calls_of xs) ≡ i = ap (λ l. length (calls_of l)) (sym all) ∙ first_calls xs i few in
    let at_is : at ≡ first + length (calls_of xs) = c.loop-entry.invariant.0 ∙ ap (λ (n : ℕ). first + n) (sym count) in
    let end : at ≡ first + length xs = at_is ∙ ap (λ (n : ℕ). first + n) (length-map xs (λ e. e.1)) in
    let place : AreInPlace at at rest = subst (λ (n : ℕ). AreInPlace at n rest) (sym end) c.loop-entry.invariant.1 in
    let some : 0 < length rest = search rules in
    let pushed : texts_of c.push-2.new.self.items ≡ texts_of c.loop-entry.texts.items ++ last.items ∷ [] =
    ap texts_of c.in_ok-push-2.ensures.items ∙ texts_of-push c.loop-entry.texts.items last in
    subst (λ (l : List (List ℕ)). AreStoredEntries first (calls_of xs) c.args.notes.now l) (sym pushed)
    (rest_rendered first (calls_of xs) c.args.notes.now rest (texts_of c.loop-entry.texts.items) at last.items done at_is place some c.in_ok-last.ensures.can c.in_ok-last.ensures.text)
