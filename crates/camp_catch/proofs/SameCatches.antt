-- It is decidable whether two catches are equal.
use Rattle.camp_catch.proofs.Words.{ap, inr, ◌≡◌, Decided, decided_by, named_or_not, Catch, Plain, Conflictor}
use Rattle.camp_catch.proofs.PartsDetermined.{conflictor_or_not}

-- two catches are equal, or they are not
pub catch_or_not : (j k : Catch) → Decided (j ≡ k)
catch_or_not (Plain a) (Plain b) = decided_by (ap Plain) (λ e. cc) (named_or_not a b)
catch_or_not (Plain a) (Catch.Conflictor k) = inr (λ e. cc)
catch_or_not (Catch.Conflictor j) (Plain b) = inr (λ e. cc)
catch_or_not (Catch.Conflictor j) (Catch.Conflictor k) =
    decided_by (ap Catch.Conflictor) (λ e. cc) (conflictor_or_not j k)
