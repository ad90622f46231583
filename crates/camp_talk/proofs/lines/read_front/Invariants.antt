use Rattle.camp_talk.proofs.Words.{Takes}
use Rattle.camp_talk.specs.declared.lines.Seen.TheVariants.{Part}
use Rattle.camp_talk.proofs.lines.read_front.Given as goal

abbrev pub invariant-loop : goal.invariant-loop
invariant-loop g l =
    Takes (g.R.Read.remaining l.initial.reader) (g.R.Read.remaining l.reader) 1_048_577 Part l.initial.text.items l.text.items
