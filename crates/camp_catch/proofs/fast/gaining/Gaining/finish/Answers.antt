use Rattle.std.proofs.Common.{ap, refl, sym, ◌==◌, ◌∙◌}
use Rattle.camp_catch.proofs.CommuteSteps.{is_nothing}
use Rattle.camp_catch.proofs.Gains.{ungained}
use Rattle.camp_catch.proofs.fast.gaining.Gaining.finish.Goals as goal

pub returns : goal.returns
returns c =
    let gained = c.self.inside.gained.items in
    let none = is_nothing gained gained _ (c.is_empty.ensures ∙ ap (λ n. n == 0) c.self.inside.gained.ok.0) c.if-not-is_empty.false refl in
    sym (ungained gained c.self.inside.catch none) ∙ c.self.view_is
