use Rattle.camp_talk.proofs.Words.{◌<◌, length, Consumes}
use Rattle.camp_talk.proofs.serving.read_bytes.Given as goal

abbrev pub invariant-loop : goal.invariant-loop
invariant-loop g l =
    Consumes (g.R.Read.remaining l.initial.reader) (g.R.Read.remaining l.reader) l.bytes.items × (length l.bytes.items < l.count)
