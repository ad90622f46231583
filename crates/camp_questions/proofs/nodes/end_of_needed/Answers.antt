use Rattle.camp_questions.proofs.Words.{◌-◌, ◌∙◌, arith, sym, needs_index}
use Rattle.camp_questions.proofs.PlacedNeeds.{none_behind, none_from}
use Rattle.camp_questions.proofs.nodes.end_of_needed.Goals as goal

pub loop-end-init : goal.loop-end-init
loop-end-init c =
    record {
      within = omega (arith, c.min-end.ensures);
      none = λ k far less. none_behind c.args.marks.now c.args.at k (omega (arith, c.min-end.ensures, far, less));
    }

pub loop-end-preserved : goal.loop-end-preserved
loop-end-preserved c =
    let before = c.loop-end.invariant.within in
    record {
      within = omega (arith, before);
      none = none_from (needs_index c.args.marks.now c.args.at) c.loop-end.end c.args.count (c.loop-end.end - 1) (omega arith) c.loop-end.invariant.none (sym c.needs.ensures ∙ c.if-needs.false);
    }
