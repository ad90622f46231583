use Rattle.std.proofs.Common.{rules, ◌≡◌, ℕ, List, length, refl, sym, ap, ◌∙◌, Some, slice_get}
use Rattle.std.proofs.lemmas.Option.{slice_get_read}
use Rattle.camp_call.specs.declared.calls.Call.{Call}
use Rattle.camp_entries.specs.Texts.{IsNoted}
use Rattle.camp_member.specs.Notes.{WithNote}
use Rattle.camp_member.specs.Readings.{Reading}
use Rattle.camp_repo.specs.States.{Contents}
use Rattle.camp_shared.specs.Sharing.{Sharing}
use Rattle.camp_shared_session.specs.Sessions.{MemberSession}
use Rattle.camp_shared_session.proofs.sessions.SharedSession.call.Goals as goal

pub returns-in-Err-Unfit-clause-renders : goal.returns-in-Err-Unfit-clause-renders
returns-in-Err-Unfit-clause-renders c =
    let history = c.history.result.now in
    let same : history ≡ c.args.self.now.member.reading.history = c.history.ensures.value ∙ ap (λ (r : Reading Contents (WithNote Call)). r.history) c.reader.ensures.exact ∙ ap (λ (m : Sharing). m.reading.history) c.member.ensures.exact ∙ ap (λ (s : MemberSession). s.member.reading.history) c.self.view_is in
    let there : slice_get history c.args.at ≡ Some c.in-Some.field-0.now = slice_get_read history (length history) c.args.at c.in-Some.field-0.now refl c.in-Some.ensures.lookup.3.0 c.in-Some.ensures.lookup.1 in
    let unfit : ¬ (IsNoted c.in-Some.field-0.now.1) = search rules in
    let here : slice_get c.args.self.now.member.reading.history c.args.at ≡ Some c.in-Some.field-0.now = ap (λ (h : List (ℕ × WithNote Call)). slice_get h c.args.at) (sym same) ∙ there in
    rw here (refl, unfit)
