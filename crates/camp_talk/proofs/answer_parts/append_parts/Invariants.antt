use Rattle.camp_talk.proofs.Words.{◌≡◌, ◌++◌, take, flat_map}
use Rattle.camp_talk.proofs.answer_parts.append_parts.Given as goal

abbrev pub invariant-loop-part : goal.invariant-loop-part
invariant-loop-part l = l.text.items ≡ l.initial.text.items ++ flat_map (λ part. part.now) (take l.part-index l.parts)
