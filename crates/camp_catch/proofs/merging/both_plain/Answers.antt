use Rattle.camp_catch.proofs.Words.{refl, Plain}
use Rattle.camp_catch.proofs.merging.both_plain.Goals as goal

pub first_conflict-requires : goal.first_conflict-requires
first_conflict-requires c =
    λ b' a' m. (rw c.in-None.is at c.in_ok-pair.ensures.exact) (Plain b', Plain a') (record { b' = b'; a' = a'; merge = m; after = refl; beside = refl })
