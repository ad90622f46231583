use Rattle.std.proofs.Common.{drop_of_length-le}
use Rattle.camp_branch.proofs.Words.{◌∙◌, ap, arith, drop, keys, length, ◌≤◌, slice_cmp, nat_cmp, map_of, is_among}
use Rattle.camp_branch.proofs.NameSets.{all_filled, none_filled, one_listed}
use Rattle.camp_branch.proofs.name_sets.filled.Goals as goal

pub loop-name-init : goal.loop-name-init
loop-name-init c = none_filled (map_of (slice_cmp nat_cmp) c.in_ok-set.set) c.args.names.now (c.in_ok-set.ensures.exact ∙ c.new.ensures.exact)

pub loop-name-preserved : goal.loop-name-preserved
loop-name-preserved c =
    one_listed (map_of (slice_cmp nat_cmp) c.loop-name.set) (map_of (slice_cmp nat_cmp) c.insert_if_absent.new.self) c.args.names.now c.loop-name.name-index c.name-item.result c.name-item.result (is_among c.args.names.now) c.loop-name.invariant (omega arith) c.name-item.is c.in_ok-insert_if_absent.ensures.exact

pub returns : goal.returns
returns c =
    let past : length c.args.names.now ≤ c.loop-name.name-index = omega arith in
    λ name. ap (λ m. is_among (keys m) name) c.in_ok-into_map.ensures.exact ∙ all_filled (map_of (slice_cmp nat_cmp) c.loop-name.set) (drop c.loop-name.name-index c.args.names.now) (is_among c.args.names.now) (drop_of_length-le c.args.names.now past) c.loop-name.invariant name
