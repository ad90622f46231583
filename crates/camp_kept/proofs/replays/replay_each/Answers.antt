use Rattle.std.proofs.Common.{rules, ◌≡◌, ◌+◌, ◌∙◌, true, false, List, ℕ, [], ◌∷◌, ◌++◌, length, take, drop, ap, arith, subst, sym, length-append}
use Rattle.std.proofs.lemmas.List.{take_more}
use Rattle.camp_kept.specs.Replaying.{AddsText, AreReplayed, RefusesText, ReplaysText}
use Rattle.camp_kept.specs.Titles.{title_of}
use Rattle.camp_kept.specs.Faults.{ReportsNumber}
use Rattle.camp_kept.proofs.Numbering.{damaged_there, size, size-push, stops}
use Rattle.camp_kept.proofs.ReplayLemmas.{replayed_more}
use Rattle.camp_kept.proofs.Refusing.{not_accepted}
use Rattle.camp_store.specs.Blocks.{DecodesTo}
use Rattle.camp_store.specs.Logs.{texts_of}
use Rattle.camp_store.proofs.BlockLemmas.{around, texts_of-push}
use Rattle.camp_kept.proofs.replays.replay_each.Goals as goal

pub returns-then-not-branch-clause-refused : goal.returns-then-not-branch-clause-refused
returns-then-not-branch-clause-refused c wanted file decodes =
    let limits = c.args.book.now.first.limits in
    let xs = c.args.texts.now in
    let i = c.loop-text.text-index in
    let x = c.text-item.result in
    let asked = c.loop-text.invariant.0 in
    let next : take (i + 1) xs ≡ take i xs ++ x ∷ [] = search (rules, take_more) in
    let no : c.in_ok-replay_entry.field-0 ≡ false = search rules in
    let none : RefusesText c.loop-text.book x.items =
    subst (λ yes. ReplaysText c.loop-text.book c.loop-text.notes x.items yes c.replay_entry.new.book c.replay_entry.new.notes) no
    (subst (λ t. ReplaysText c.loop-text.book c.loop-text.notes t c.in_ok-replay_entry.field-0 c.replay_entry.new.book c.replay_entry.new.notes) c.deref.ensures.value c.in_ok-replay_entry.ensures.replays) in
    let there = subst (λ ts. DecodesTo ts file) (λ j. c.requires.title j ∷ around xs i x next j) decodes in (
      damaged_there limits (texts_of (take i xs)) x.items (texts_of (drop (i + 1) xs)) c.loop-text.book c.loop-text.notes c.requires.range asked c.replay_entry.ensures.legal none
          _ _ c.loop-text.invariant.1 c.loop-text.invariant.2 file there,
      not_accepted limits (texts_of (take i xs)) x.items (texts_of (drop (i + 1) xs)) c.loop-text.book c.loop-text.notes c.requires.range asked none file there,
    )

pub loop-text-preserved : goal.loop-text-preserved
loop-text-preserved c =
    let limits = c.args.book.now.first.limits in
    let xs = c.args.texts.now in
    let i = c.loop-text.text-index in
    let x = c.text-item.result in
    let next : take (i + 1) xs ≡ take i xs ++ x ∷ [] = search (rules, take_more) in
    let yes : c.in_ok-replay_entry.field-0 ≡ true = search rules in
    let one : AddsText c.loop-text.book c.loop-text.notes x.items c.replay_entry.new.book c.replay_entry.new.notes =
    subst (λ yes. ReplaysText c.loop-text.book c.loop-text.notes x.items yes c.replay_entry.new.book c.replay_entry.new.notes) yes
    (subst (λ t. ReplaysText c.loop-text.book c.loop-text.notes t c.in_ok-replay_entry.field-0 c.replay_entry.new.book c.replay_entry.new.notes) c.deref.ensures.value c.in_ok-replay_entry.ensures.replays) in
    let texts = texts_of (take i xs) in
    let before = 27 + length (title_of limits) in
    let pushed : texts_of (take (i + 1) xs) ≡ texts ++ x.items ∷ [] = ap texts_of next ∙ texts_of-push (take i xs) x in (
      subst (λ ts. AreReplayed limits ts c.replay_entry.new.book c.replay_entry.new.notes) (sym pushed)
          (replayed_more limits texts x.items c.loop-text.book c.replay_entry.new.book c.loop-text.notes c.replay_entry.new.notes c.loop-text.invariant.0 one),
      subst (λ (ts : List (List ℕ)). ReportsNumber c.saturating_add-call.result (length ts + 1)) (sym pushed)
          (subst (λ (n : ℕ). ReportsNumber c.saturating_add-call.result n) (omega (arith, length-append texts (x.items ∷ [])))
          (stops c.loop-text.call 1 (length texts + 1) c.saturating_add-call.result c.saturating_add-call.ensures c.loop-text.invariant.1)),
      subst (λ (ts : List (List ℕ)). ReportsNumber c.saturating_add-at-in-loop-text.result (before + size ts)) (sym pushed)
          (subst (λ (n : ℕ). ReportsNumber c.saturating_add-at-in-loop-text.result n) (omega (arith, size-push texts x.items))
          (stops c.saturating_add.result (length x.items) (before + size texts + 27) c.saturating_add-at-in-loop-text.result (search rules)
          (stops c.loop-text.at 27 (before + size texts) c.saturating_add.result c.saturating_add.ensures c.loop-text.invariant.2))),
    )
