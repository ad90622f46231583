use Rattle.std.proofs.Common.{◌≡◌, Bor, List, false, map}
use Rattle.std.specs.Prelude.{option_map}
use Rattle.camp_base.specs.Bytes.{is_path}
use Rattle.camp_coding.specs.GitTrees.{place_path}
use Rattle.camp_coding.proofs.PlaceLemmas.{placed, refused}
use Rattle.camp_coding.proofs.places.set_place.Goals as goal

pub returns-in-None : goal.returns-in-None
returns-in-None c =
    let no_path : is_path (place_path c.args.place c.args.path.now) ≡ false = rw c.in-None.is at c.in_ok-found.ensures in
    refused (place_path c.args.place c.args.path.now) (option_map (λ lines. lines.now) c.args.lines) c.args.tree.now c.refuse.result no_path c.refuse.ensures

pub returns : goal.returns
returns c =
    let made = rw c.in-Some.is at c.in_ok-found.ensures in
    placed _ _ _ _ _ made.0 made.1 c.in_ok-set_file.ensures
