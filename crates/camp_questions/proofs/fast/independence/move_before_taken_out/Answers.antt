use Rattle.camp_questions.proofs.Words.{[], ◌∷◌, refl, subst, sym, AllCommuteUnchanged, AreApart, ArrangesAfter, IsBlockedAfter}
use Rattle.camp_questions.proofs.PartsArranged.{all_came}
use Rattle.camp_questions.proofs.fast.independence.move_before_taken_out.Goals as goal

pub returns-then-all_stay : goal.returns-then-all_stay
returns-then-all_stay c =
    let stay : AllCommuteUnchanged c.args.going.now.items c.args.patch.now.catches.items = rw (c.deref.ensures.value, c.deref-2.ensures.value) at (c.if-all_stay.ensures refl) in
    (c.args.patch.now.catches.items, all_came c.args.patch.now.name c.args.going.now.items c.args.patch.now.catches.items c.requires.own stay)

pub returns-then-is_blocked : goal.returns-then-is_blocked
returns-then-is_blocked c =
    (refl, (rw (c.deref-3.ensures.value, c.deref-4.ensures.value) at (c.if-is_blocked.ensures refl)) c.args.patch.now.name c.requires.own)

pub commute_before-requires : goal.commute_before-requires
commute_before-requires c =
    subst (AreApart c.args.patch.now.name) (sym c.deref-5.ensures.value) c.requires.apart

pub returns-in-Ok : goal.returns-in-Ok
returns-in-Ok c =
    let first = c.in-Ok.arranged.first.items in
    (first, subst (λ l. ArrangesAfter (c.args.patch.now.name ∷ []) l c.args.patch.now.catches.items first c.in-Ok.arranged.rest.items) c.deref-5.ensures.value c.in-Ok.ensures)

pub returns-in-Err-Blocked : goal.returns-in-Err-Blocked
returns-in-Err-Blocked c =
    let stuck = c.in-Err-Blocked.field-0-0 in
    let sticks = rw c.in-Err-Blocked.field-0-is at c.in-Err-Blocked.ensures in
    (refl, (stuck.patch, stuck.on, subst (λ l. IsBlockedAfter (c.args.patch.now.name ∷ []) l c.args.patch.now.catches.items stuck.patch stuck.on) c.deref-5.ensures.value sticks))
