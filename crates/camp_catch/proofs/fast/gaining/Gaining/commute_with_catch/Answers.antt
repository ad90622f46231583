use Rattle.std.proofs.Common.{ap, refl, ◌==◌, ◌∙◌}
use Rattle.camp_catch.proofs.CommuteSteps.{is_nothing}
use Rattle.camp_catch.proofs.Gains.{commuted_alone, let_by, let_by_aside}
use Rattle.camp_catch.proofs.fast.gaining.Gaining.commute_with_catch.Goals as goal

pub returns-in-Aside : goal.returns-in-Aside
returns-in-Aside c =
    let passes = rw c.in-Aside.is at c.in_ok-check_commute.ensures in
    record { exact = let_by_aside _ _ _ c.self.inside.gained.items (rw (c.deref.ensures, c.deref-2.ensures) at passes) c.self.view_is }

pub returns-in_ok-push-in-Leaves : goal.returns-in_ok-push-in-Leaves
returns-in_ok-push-in-Leaves c =
    let passes = rw c.in-Leaves.is at c.in_ok-check_commute.ensures in
    record { exact = rw c.in_ok-next-in-Leaves.ensures.exact (let_by _ _ _ _ c.self.inside.gained.items _ _ (rw (c.deref.ensures, c.deref-2.ensures) at passes) c.in_ok-push-in-Leaves.ensures.items c.self.view_is) }

pub returns-else-not-is_empty : goal.returns-else-not-is_empty
returns-else-not-is_empty c =
    let gained = c.self.inside.gained.items in
    let none = is_nothing gained gained _ (c.is_empty.ensures ∙ ap (λ n. n == 0) c.self.inside.gained.ok.0) c.if-not-is_empty.false refl in
    record { exact = commuted_alone gained _ _ _ _ _ c.commute_in_place-done.result none c.self.view_is c.commute_in_place-done.ensures.exact }
