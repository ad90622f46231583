use Rattle.std.proofs.Common.{◌≡◌, [], ◌∷◌, ◌++◌, slice_index_or, sym, refl, ◌∙◌, ap, subst}
use Rattle.std.specs.List.{remove}
use Rattle.camp_object.specs.Objects.{begun}
use Rattle.camp_member.specs.Inside.Settling.{AnswersFirst, IsNext}
use Rattle.camp_member.specs.Members.{Membership}
use Rattle.camp_member.specs.declared.wanting.Next.TheVariants.{Answers}
use Rattle.camp_member.proofs.members.Member.give_first.Goals as goal

pub returns-clause-answers : goal.returns-clause-answers
returns-clause-answers g c =
    let M = Membership g.row.State.Denot g.row.State-Call.Denot g.row.State-Reply.Denot in
    let object = g.State.Object.object in
    let inside = c.self.inside in
    let new : M = record { seat = inside.seat; reading = inside.reader; is_stopped = inside.is_stopped; waiting = c.remove-request.new.self.items; sent = inside.sent; answers = c.push_reserved.new.self.items } in
    let P : M → Type 0 = λ m. AnswersFirst (begun object m.reading.first) m new in
    let R : M → Type 0 = λ m. IsNext (begun object m.reading.first) m (Answers c.args.answer) in
    let needs = subst R (sym c.self.view_is) c.requires in
    let request = needs.1.0 in
    let rest = needs.1.1 in
    let gone : c.remove-request.new.self.items ≡ rest = c.remove-request.ensures.items ∙ ap (λ list. remove list 0) needs.1.2 in
    let same : c.remove-request.result ≡ request = c.remove-request.ensures.value ∙ ap (λ list. slice_index_or list 0 c.remove-request.result) needs.1.2 in
    subst P c.self.view_is (record {
      request = request;
      answer = c.args.answer;
      none_sent = needs.0;
      is = needs.1.3;
      waiting = needs.1.2 ∙ ap (λ list. request ∷ list) (sym gone);
      answers = c.push_reserved.ensures.items ∙ (λ i. c.reserve.ensures.items i ++ ((same i).id, c.args.answer) ∷ []);
      seat = refl;
      reading = refl;
      is_stopped = refl;
      sent = refl;
    })
