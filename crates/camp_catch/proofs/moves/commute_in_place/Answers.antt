use Rattle.std.proofs.Common.{refl}
use Rattle.camp_catch.proofs.moves.commute_in_place.Goals as goal

pub returns-in_default : goal.returns-in_default
returns-in_default c =
    record { exact = (λ any w. (rw (c.in_default.is, c.deref-3.ensures, c.deref-4.ensures) at c.in_ok-pair.ensures.exact) (any.1, any.0) w, refl) }
