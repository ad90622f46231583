use Rattle.camp_talk.specs.Visible.{IsPlainText}
use Rattle.camp_talk.proofs.plain_texts.plain.Given as goal

abbrev pub invariant-loop-byte : goal.invariant-loop-byte
invariant-loop-byte l = IsPlainText l.text.items
