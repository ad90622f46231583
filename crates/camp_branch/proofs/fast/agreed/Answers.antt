use Rattle.std.proofs.Common.{◌∙◌, arith}
use Rattle.camp_branch.proofs.AgreedFronts.{agree_with}
use Rattle.camp_branch.proofs.SamePrefixes.{agree_with_alike, reaches_all}
use Rattle.camp_branch.proofs.fast.agreed.Goals as goal

pub returns-in-Ok : goal.returns-in-Ok
returns-in-Ok c =
    let from = c.args.from.now in
    let to = c.args.to.now in
    let most = c.count_same.ensures.most in
    let start = agree_with_alike from to c.args.known c.count_same.result c.requires most.alike in
    let more = c.count_alike_labels-more in
    record {
      agree = agree_with from to c.deref.result.now c.deref-2.result.now _ more.result start more.ensures.fits more.ensures.fits_too (c.deref.ensures.value ∙ c.in_ok-theirs.ensures.exact) (c.deref-2.ensures.value ∙ c.in_ok-ours.ensures.exact) c.in-Ok.ensures.exact;
      as_they_are = reaches_all from to c.args.known c.count_same.result _ most (omega arith);
    }

pub returns-then-more-eq0-clause-agree : goal.returns-then-more-eq0-clause-agree
returns-then-more-eq0-clause-agree c =
    agree_with_alike c.args.from.now c.args.to.now c.args.known c.count_same.result c.requires c.count_same.ensures.most.alike

pub returns-in-Err-Blocked-clause-agree : goal.returns-in-Err-Blocked-clause-agree
returns-in-Err-Blocked-clause-agree c =
    agree_with_alike c.args.from.now c.args.to.now c.args.known c.count_same.result c.requires c.count_same.ensures.most.alike
