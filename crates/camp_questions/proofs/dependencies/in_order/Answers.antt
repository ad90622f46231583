use Rattle.camp_questions.proofs.Words.{◌∙◌, ap, filter, slice_cmp, nat_cmp, map_of, has_listed, has_name, names_of}
use Rattle.camp_questions.proofs.dependencies.in_order.Goals as goal

pub returns : goal.returns
returns c =
    let set = map_of (slice_cmp nat_cmp) c.args.set.now in
    c.new.ensures.exact ∙ c.keep_named.ensures ∙ ap (filter (has_name c.args.set.now)) c.in_ok-names.ensures.exact ∙ (λ i. filter (λ name. has_listed set name i) (names_of c.args.branch.now))
