use Rattle.camp_transfer.proofs.ReadingLemmas.{IsReadSoFar}
use Rattle.camp_transfer.proofs.reading.read_commits.Given as goal

abbrev pub invariant-commands : goal.invariant-commands
invariant-commands l = IsReadSoFar l.announced l.fn.known l.stream l.counter l.objects l.rest l.commits.items
