use Rattle.camp_catch.proofs.Gains.{met_aside, met_behind}
use Rattle.camp_catch.proofs.fast.gaining.Gaining.merge_self_with.Goals as goal

pub returns-in-Aside : goal.returns-in-Aside
returns-in-Aside c =
    let gains = rw c.in-Aside.is at c.in_ok-check_merge.ensures in
    record { exact = (_, met_aside _ _ _ _ c.j.inside.gained.items c.self.inside.gained.items (rw (c.deref.ensures, c.deref-2.ensures) at gains) c.j.view_is c.self.view_is) }

pub returns-in-Conflict : goal.returns-in-Conflict
returns-in-Conflict c =
    let gains = rw c.in-Conflict.is at c.in_ok-check_merge.ensures in
    record { exact = met_behind _ _ _ _ c.j.inside.gained.items c.self.inside.gained.items _ _ _ (rw (c.deref.ensures, c.deref-2.ensures) at gains) c.in_ok-push-in-Conflict.ensures.items c.j.view_is c.self.view_is }
