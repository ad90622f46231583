use Rattle.std.proofs.Common.{◌<◌, ◌^◌, ℕ, subst}
use Rattle.camp_shared.proofs.RoomLemmas.{logged}
use Rattle.camp_shared.proofs.wanting.render.Goals as goal

pub unreachable-requires : goal.unreachable-requires
unreachable-requires c =
    let seat = subst (λ (n : ℕ). n < 2 ^ 128) c.seat-seat.ensures.exact c.seat-seat.type_inv in
    let number = subst (λ (n : ℕ). n < 2 ^ 64) c.number-number.ensures.exact c.number-number.type_inv in
    let never = rw (c.in-Err-Unfit.is, c.in-Err-Unfit.field-0-is) at c.entry_text.ensures.unfit in
    never (logged c.args.entry.now seat number c.requires.is c.requires.noted c.requires.short)
