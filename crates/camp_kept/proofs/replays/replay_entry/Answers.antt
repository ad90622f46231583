use Rattle.std.proofs.Common.{◌++◌, ◌∙◌, Option, Some, length, subst}
use Rattle.std.proofs.lemmas.Result.{IfOk-weaker}
use Rattle.camp_call.specs.declared.calls.Call.{Call}
use Rattle.camp_kept.specs.Entries.{placed_at}
use Rattle.camp_kept.specs.Parsing.{IsStoredEntryOf}
use Rattle.camp_kept.proofs.ReplayLemmas.{replays_call, replays_none}
use Rattle.camp_kept.proofs.replays.replay_entry.Goals as goal

pub returns-in_default-clause-replays : goal.returns-in_default-clause-replays
returns-in_default-clause-replays c =
    replays_none c.args.book.now c.args.text.now (rw c.in_default.is at c.in_ok-given.ensures.exact)

pub returns-in-Some-call-clause-replays : goal.returns-in-Some-call-clause-replays
returns-in-Some-call-clause-replays c =
    let book = c.args.book.now in
    let text = c.args.text.now in
    let given = c.in-Some.given.items in
    let found = rw c.in-Some.is at c.in_ok-given.ensures.exact in
    let one : IsStoredEntryOf text (record { notes = given; call = Some c.in-Some-call.call }) =
    subst (λ (call : Option Call). IsStoredEntryOf text (record { notes = given; call = call })) c.in-Some-call.is found in
    let is = c.in_ok-add_notes.ensures ∙ (λ k. c.args.notes.now ++ placed_at (length (c.history-at.ensures.value k)) (c.deref.ensures.value k)) in
    IfOk-weaker c.execute.result _ _ (λ yes asks. replays_call book c.execute.new.book c.args.notes.now c.add_notes.new.log text given c.in-Some-call.call yes one is asks) c.execute.ensures
