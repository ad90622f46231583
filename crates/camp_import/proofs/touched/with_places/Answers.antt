use Rattle.camp_import.proofs.DifferenceLemmas.{places_added}
use Rattle.camp_import.proofs.touched.with_places.Goals as goal

pub returns : goal.returns
returns c =
    places_added c.args.path.now c.args.paths.now _ _ _ _ c.in_ok-own.ensures c.in_ok-mode.ensures c.in_ok-newline.ensures c.in_ok-wrapped.ensures
