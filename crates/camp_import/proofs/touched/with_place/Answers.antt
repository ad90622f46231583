use Rattle.camp_coding.specs.GitTrees.{place_path}
use Rattle.camp_import.proofs.DifferenceLemmas.{place_added}
use Rattle.camp_import.proofs.touched.with_place.Goals as goal

pub returns-in_ok-more-in-Ok : goal.returns-in_ok-more-in-Ok
returns-in_ok-more-in-Ok c =
    place_added _ (place_path c.args.place c.args.path.now) c.args.paths.now c.in_ok-more-in-Ok.more c.in-Ok.ensures.0 c.in_ok-more-in-Ok.ensures.exact
