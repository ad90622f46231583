use Rattle.std.proofs.Common.{ap, sym, ◌∙◌}
use Rattle.camp_catch.specs.Catches.{catch_key}
use Rattle.camp_catch.proofs.Gains.{same_key}
use Rattle.camp_catch.proofs.fast.gaining.Gaining.key.Goals as goal

pub returns : goal.returns
returns c = c.key.ensures.exact ∙ ap catch_key c.deref.ensures ∙ sym (same_key c.self.inside.gained.items c.self.inside.catch) ∙ ap catch_key c.self.view_is
