use Rattle.camp_seq.proofs.Words.{subst, FirstPasses}
use Rattle.camp_seq.proofs.splits.pass_first.Goals as goal

pub returns-then-not-pass : goal.returns-then-not-pass
returns-then-not-pass c = record {
  exact = λ any m.
      let first = subst (λ s. FirstPasses s any) c.in-Some.ensures.cases.0 m in
      c.if-not-pass.ensures.exact (first.0, first.1) first.2;
}
