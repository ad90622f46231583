use Rattle.camp_seq.proofs.Words.{inverse_all}
use Rattle.camp_seq.proofs.MergeGrid.{merge_passes}
use Rattle.camp_seq.proofs.merges.clean_merge.Goals as goal

pub returns-then-not-commute_past_all : goal.returns-then-not-commute_past_all
returns-then-not-commute_past_all c = record {
  exact = λ any m.
      c.if-not-commute_past_all.ensures.exact (any.0, inverse_all any.1) (rw (c.in_ok-back.ensures.exact, c.in_ok-after.ensures.exact) (merge_passes c.args.a.now c.args.b.now any.0 any.1 m));
}
