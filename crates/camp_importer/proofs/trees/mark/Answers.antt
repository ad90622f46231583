use Rattle.std.proofs.Common.{ap, ◌∙◌}
use Rattle.camp_coding.specs.Attributes.{attribute_path}
use Rattle.camp_coding.specs.declared.attributes.Attribute.TheVariants.{EmptyCommit}
use Rattle.camp_importer.proofs.MarkLemmas.{mark_or}
use Rattle.camp_importer.proofs.trees.mark.Goals as goal

pub returns-in-Ok : goal.returns-in-Ok
returns-in-Ok c =
    mark_or c.args.name.now c.in-Ok.path c.args.tree.now c.mark_at.result (c.in-Ok.ensures.exact.0 ∙ ap (attribute_path EmptyCommit) c.bytes.ensures.value) c.mark_at.ensures
