-- The representation of a name: its buffer, and its first eight bytes as a number.
use Rattle.std.specs.Prelude.{◌≡◌, ℕ, zero, suc, ◌+◌, ◌-◌, ◌*◌, IsTrue, List, [], ◌∷◌, ◌++◌, length, take, replicate}
use Rattle.camp_base.specs.Bytes.{is_name}
use Rattle.camp_base.specs.Limits.{longest_name}
use Rattle.camp_base.specs.declared.names.Name.TheInside.{Inside}

-- the buffer of a name: its bytes, padded with zeros
abbrev pub padded : List ℕ → Inside
padded bytes = record { buffer = bytes ++ replicate (longest_name - length bytes) 0; len = length bytes }

-- the invariant of a name: the bytes are a name, and the rest of the buffer is zeros
pub record IsPadded (name : Inside) : Type 0 where
  pub form : IsTrue (is_name (take name.len name.buffer))
  pub padding : padded (take name.len name.buffer) ≡ name

-- `sum` with `n` more digits of base 256 appended, the most significant first: the next bytes of the list, and zeros if
-- it ends. `spelt 8 0 name` is the first eight bytes as a big-endian number
abbrev pub spelt : ℕ → ℕ → List ℕ → ℕ
spelt zero sum bytes = sum
spelt (suc n) sum [] = spelt n (sum * 256) []
spelt (suc n) sum (byte ∷ bytes) = spelt n (sum * 256 + byte) bytes
