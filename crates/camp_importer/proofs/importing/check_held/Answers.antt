use Rattle.std.proofs.Common.{◌≡◌, sym, true≢false, ◌∙◌}
use Rattle.camp_branch.proofs.KeepLawful.{trees_are_determined}
use Rattle.camp_importer.proofs.importing.check_held.Goals as goal

pub returns-then-not-is_same : goal.returns-then-not-is_same
returns-then-not-is_same c = λ leads.
    let same : c.tree.result.now ≡ c.args.commit.now.tree =
    trees_are_determined.one c.args.branch.now c.tree.result.now c.args.commit.now.tree c.tree.ensures.exact leads in
    true≢false (sym (c.is_same.ensures.exact.1 same) ∙ c.if-not-is_same.true)
