use Rattle.std.proofs.Common.{◌≡◌, ◌≢◌, codes, ◌∙◌, Ok, Some, ap, sym, true≢false}
use Rattle.camp_kept.proofs.TitleLemmas.{bounded_in_range, first_of, says_with, second_of}
use Rattle.camp_repo.specs.Limits.{bounded}
use Rattle.camp_kept.proofs.titles.limits_in.Goals as goal

pub returns-in-Ok : goal.returns-in-Ok
returns-in-Ok c limits range is =
    let other : c.args.text.now ≢ codes "camp store 1\n" = λ short. true≢false (sym (c.is_default_title.ensures.1 short) ∙ c.if-is_default_title.false) in
    let found : c.numbers_in.result ≡ Some (limits.catches, limits.branches) = c.numbers_in.ensures limits range (says_with limits c.args.text.now is other) in
    let decoded : c.numbers_in.result ≡ Some (c.in_ok-catches.catches, c.in_ok-catches.branches) = c.in_ok-catches.was in
    let catches : c.in_ok-catches.catches ≡ limits.catches = ap first_of (sym decoded ∙ found) in
    let branches : c.in_ok-catches.branches ≡ limits.branches = ap second_of (sym decoded ∙ found) in
    let made : c.new.result ≡ Ok limits = c.new.ensures.exact ∙ (λ k. bounded (catches k) (branches k)) ∙ bounded_in_range limits range in
    let ok = c.in-Ok.is in
    cc
