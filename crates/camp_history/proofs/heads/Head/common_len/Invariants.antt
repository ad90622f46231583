use Rattle.camp_history.proofs.Words.{IsMarkPrefix, IsMadeFrom}
use Rattle.camp_history.proofs.heads.Head.common_len.Given as goal

-- the snapshot reached by following parents is a prefix of the one that the loop started from
abbrev pub invariant-loop : goal.invariant-loop
invariant-loop g l = record {
  made : IsMadeFrom l.self.slots l.way;
  begins : IsMarkPrefix l.way.snapshot.snapshot.value l.fn.link.snapshot.snapshot.value;
}
