use Rattle.std.proofs.lemmas.List.{take_rest}
use Rattle.camp_branch.proofs.Words.{◌||◌, ◌<◌, ◌∙◌, ap, arith, length, map, slice_cmp, nat_cmp, map_of, has_name, is_among, name_of}
use Rattle.camp_branch.proofs.NameSets.{entails, first_comes}
use Rattle.camp_branch.proofs.name_sets.with_taken.Goals as goal

pub returns-in_ok-inserted-in-len1-up : goal.returns-in_ok-inserted-in-len1-up
returns-in_ok-inserted-in-len1-up c =
    let within : 0 < length c.args.taken.now = omega (arith, c.in-len1-up.len_at_least) in
    entails c.with_more.result _ _
    (λ all has name. first_comes (map_of (slice_cmp nat_cmp) c.args.names.now) (map_of (slice_cmp nat_cmp) c.in_ok-inserted-in-len1-up.field-0) (map_of (slice_cmp nat_cmp) all) c.args.taken.now c.first-item.result c.first-item.result c.name.result.now name within c.first-item.is (c.name.ensures.exact ∙ ap name_of c.deref.ensures) c.in_ok-inserted-in-len1-up.ensures.exact (has name ∙ ap (λ l. has_name c.in_ok-inserted-in-len1-up.field-0 name || is_among (map name_of l) name) (take_rest c.args.taken.now 1)))
    c.with_more.ensures
