use Rattle.camp_ctx.proofs.adding.order_passed.Goals as goal

pub returns : goal.returns
returns c =
    let room = rw c.items.ensures.exact at (c.has_room_to_merge.ensures.room c.if-not-has_room_to_merge.false).forth in
    let own = c.requires c.if-not-told.false room in
    record { order = own; own = λ yes. own }
