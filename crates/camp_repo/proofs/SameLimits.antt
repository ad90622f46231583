-- When two repositories have the same limits.
use Rattle.camp_repo.proofs.Words.{◌≡◌, Bounds}

-- limits of the same numbers are the same
pub same_bounds : (one other : Bounds) → one.catches ≡ other.catches → one.branches ≡ other.branches → one ≡ other
same_bounds one other catches branches = λ k. record { catches = catches k; branches = branches k }
