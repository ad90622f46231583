-- Steps that end with a value or with a fault.
use Rattle.std.specs.Prelude.{Result, Ok, Err}

-- continues with a value; keeps a fault
infixl 10 ◌>>=◌
abbrev pub ◌>>=◌ : {A B E : Type 0} → Result A E → (A → Result B E) → Result B E
(Ok x) >>= next = next x
(Err fault) >>= next = Err fault
