use Rattle.camp_ctx.proofs.Words.{◌≡◌, refl, arith, length}
use Rattle.camp_ctx.proofs.SetSteps.{members_of, count_of_members, same_members, same_by_index}
use Rattle.camp_ctx.proofs.sets.CtxSet.is_same.Goals as goal

pub returns : goal.returns
returns c =
    let a = c.args.self.now in
    let b = c.args.other.now in
    let first = count_of_members a in
    let second = count_of_members b in
    let long : length (members_of a) ≡ length (members_of b) = omega arith in
    record { exact = (λ yes. same_members a b c.len.ensures.keyed c.len-2.ensures.keyed (same_by_index (members_of a) (members_of b) long (λ k within. c.loop-index.invariant k (omega arith))), λ same. refl) }
