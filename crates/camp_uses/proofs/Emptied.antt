-- A map into which a key is inserted, and from which it is removed again.
use Rattle.std.proofs.Common.{rules, ◌≡◌, ℕ, List, ◌∙◌, ap}
use Rattle.std.specs.Ordering.{nat_cmp}
use Rattle.std.proofs.lemmas.Cmp.{nat_list_cmp_total}
use Rattle.std.specs.Cmp.Lexicographic.{slice_cmp}
use Rattle.std.specs.FinMap.{FinMap, gets, insert, nat_cmp-IsAntisymmetric, remove, same_map, slice_cmp-IsAntisymmetric}

-- it is the map without the key
pub put_and_taken : {X : Type 0} (m : FinMap (slice_cmp nat_cmp) X) (key : List ℕ) (value : X) → remove (insert m key value) key ≡ remove m key
put_and_taken m key value =
    same_map nat_list_cmp_total (slice_cmp-IsAntisymmetric nat_cmp-IsAntisymmetric) (remove (insert m key value) key) (remove m key) (λ q. grind (gets, rules))

-- the same of maps that are known by what they are equal to
pub put_and_taken_of : {X : Type 0} (path key : List ℕ) (value : X) (old one left : FinMap (slice_cmp nat_cmp) X)
    → key ≡ path → one ≡ insert old key value → left ≡ remove one path → left ≡ remove old path
put_and_taken_of path key value old one left same put taken =
    taken ∙ ap (λ m. remove m path) (put ∙ ap (λ k. insert old k value) same) ∙ put_and_taken old path value
