use Rattle.std.proofs.Common.{List, ℕ, refl, subst}
use Rattle.camp_talk.proofs.Growing.{frame_grows}
use Rattle.camp_talk.specs.Engine.Commands.{AnswersFrame}
use Rattle.camp_kept_talk.proofs.conversations.FramedStoreBackendVecU8VecU8.execute.Goals as goal

pub returns : goal.returns
returns g c =
    let answers = subst (λ (bytes : List ℕ). AnswersFrame c.args.self.now.kept.book bytes c.answer_alone.result c.answer_alone.new.book) c.deref.ensures.value
    c.answer_alone.ensures in
    (record { same = refl; grows = frame_grows _ c.args.request.items c.answer_alone.result c.answer_alone.new.book answers }, answers)
