use Rattle.camp_questions.proofs.Words.{List, subst, IsInOrder, Pair, sorted_once, dedup_is}
use Rattle.camp_questions.proofs.OpenPairs.{open_by}
use Rattle.camp_questions.proofs.open_conflicts.unresolved_among.Goals as goal

pub returns : goal.returns
returns c =
    let list : List Pair = c.dedup.new.self.items in
    let is = dedup_is _ _ _ c.dedup.ensures.filtered in
    let order = sorted_once _ _ list c.sort_unstable.ensures.permutation c.sort_unstable.ensures.sorted is in
    open_by c.args.seen.now c.args.catches.now list (subst (λ pairs. IsInOrder pairs list) c.in_ok-pairs.ensures order)
