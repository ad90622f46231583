use Rattle.camp_import.proofs.DifferenceLemmas.{differ_within, differences_only, no_path_in}
use Rattle.camp_import.proofs.differences.differing_paths.Goals as goal

pub returns : goal.returns
returns c = record {
  exact = differ_within c.args.old.now c.args.new.now _ c.in_ok-removed.removed c.in_ok-both.both c.in_ok-removed.ensures c.in_ok-both.ensures;
  only = differences_only c.args.old.now c.args.new.now _ c.in_ok-removed.removed c.in_ok-both.both (no_path_in _ c.new.ensures.exact) c.in_ok-removed.ensures c.in_ok-both.ensures;
}
