use Rattle.std.proofs.Common.{◌≡◌, ◌+◌, ◌-◌, ◌≤◌, ◌<◌, ℕ, List, [], ◌∷◌, ◌++◌, length, take, drop, slice_get, sym, ap, subst, ◌∙◌, arith, Some, length-drop}
use Rattle.std.specs.List.{AllByRecursion}
use Rattle.camp_call.specs.declared.calls.Call.{Call}
use Rattle.camp_member.specs.Notes.{WithNote}
use Rattle.camp_script.specs.Canonical.{IsScriptCall}
use Rattle.camp_entries.specs.Inside.{IsNoteLength}
use Rattle.camp_entries.specs.Texts.{IsNoted}
use Rattle.camp_entries.proofs.BodyLemmas.{LeftOf, all_from, drop_at, left_next, left_short, noted_push}
use Rattle.camp_entries.proofs.NoteLemmas.{rest_is}
use Rattle.camp_entries.proofs.bodies.with_notes.Goals as goal

pub returns-then-len-rest : goal.returns-then-len-rest
returns-then-len-rest c =
    let body = c.args.body.now in
    let calls = c.args.calls.now in
    let at = c.loop-call.at in
    let index = c.loop-call.call-index in
    let note = c.note_len-note.result in
    let rest = rest_is at body in
    let is_len : IsNoteLength (drop at body) note = subst (λ b. IsNoteLength b note) rest c.note_len-note.ensures in
    let goes = drop_at calls index c.call-item.result c.loop-call-test.true c.call-item.is in
    let size = ap length rest in
    let within = is_len.within in
    let test = c.if-len-rest.true in
    left_short body calls index at note c.in_ok-len.len c.call-item.result c.loop-call.noted.items goes is_len c.in_ok-len.ensures (omega (arith, size, within, test)) c.loop-call.invariant.1

pub loop-call-preserved : goal.loop-call-preserved
loop-call-preserved c =
    let body = c.args.body.now in
    let calls = c.args.calls.now in
    let at = c.loop-call.at in
    let index = c.loop-call.call-index in
    let note = c.note_len-note.result in
    let len = c.in_ok-len.len in
    let call = c.call-item.result in
    let done = c.loop-call.noted.items in
    let rest = rest_is at body in
    let is_len : IsNoteLength (drop at body) note = subst (λ b. IsNoteLength b note) rest c.note_len-note.ensures in
    let goes = drop_at calls index call c.loop-call-test.true c.call-item.is in
    let one : WithNote Call = record { note = take note (drop at body); call = call } in
    let of_note : List ℕ → WithNote Call = λ b. record { note = take note b; call = call } in
    let copied : c.in_ok-copy_noted.field-0 ≡ one = c.in_ok-copy_noted.ensures ∙ ap of_note rest in
    let pushed : c.push.new.self.items ≡ done ++ one ∷ [] = c.in_ok-push.ensures.items ∙ ap (λ (o : WithNote Call). done ++ o ∷ []) copied in
    let size = ap length rest in
    let cut = length-drop at body in
    let within = is_len.within in
    let test = c.if-len-rest.false in
    let before = c.loop-call.invariant.0 in (
      omega (arith, size, cut, within, test, before),
      subst (λ d. LeftOf body calls (index + 1) (at + (note + len)) d) (sym pushed) (left_next body calls index at note len call done goes is_len c.in_ok-len.ensures c.loop-call.invariant.1),
      λ can. subst (λ d. AllByRecursion IsNoted d) (sym pushed) (noted_push done one (c.loop-call.invariant.2 can) (is_len.note, all_from IsScriptCall calls index call (drop (index + 1) calls) goes can)),
    )
