-- Gathering the results that threads return.
use Rattle.std.specs.Prelude.{◌≡◌, List, ◌∷◌, ◌++◌, map, Result, Ok}
use Rattle.std.specs.List.{AllZip}

-- the given elements, followed by those that each thread returned
pub record Gathers {Own Fault : Type 0}
    (first : List Own) (made : List (Result Own Fault)) (all : List Own) : Type 0 where
  pub others : List Own
  pub begins : all ≡ first ++ others
  pub brought : AllZip (λ one own. one ≡ Ok own) made others

-- the results of threads, separated: their seats, and all answers, those of the opening first
pub record AreSeparated {Seat Own Fault : Type 0}
    (opening : Own) (made : List (Result (Seat × Own) Fault)) (seats : List Seat) (all : List Own) : Type 0 where
  pub pairs : List (Seat × Own)
  pub brought : AllZip (λ one pair. one ≡ Ok pair) made pairs
  pub firsts : seats ≡ map (λ pair. pair.0) pairs
  pub seconds : all ≡ opening ∷ map (λ pair. pair.1) pairs
