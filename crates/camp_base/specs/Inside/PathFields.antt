-- The representation of a path: its bytes, and its last eight bytes as a number.
use Rattle.std.specs.Prelude.{◌≡◌, ℕ, ◌-◌, IsTrue, List, length, drop}
use Rattle.camp_base.specs.Bytes.{is_path}
use Rattle.camp_base.specs.Inside.NameFields.{spelt}
use Rattle.camp_base.specs.declared.paths.Path.TheInside.{Inside}

-- the last eight bytes of a list, or all if there are fewer
abbrev pub last_eight : List ℕ → List ℕ
last_eight bytes = drop (length bytes - 8) bytes

-- the invariant of a path: the bytes are a path, and the number is that of its last eight bytes
pub record IsKept (path : Inside) : Type 0 where
  pub form : IsTrue (is_path path.bytes.items)
  pub tail : path.tail ≡ spelt 8 0 (last_eight path.bytes.items)
