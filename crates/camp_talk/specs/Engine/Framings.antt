-- What a framing has read, and what was read ahead.
use Rattle.std.specs.Prelude.{◌≡◌, ℕ, List, ◌++◌}
use Rattle.camp_talk.specs.Frames.{IsFrame}

-- bytes begin with a complete frame
pub record BeginsWithFrame (bytes : List ℕ) : Type 0 where
  pub request : List ℕ
  pub frame : List ℕ
  pub more : List ℕ
  pub is : IsFrame request frame
  pub begins : bytes ≡ frame ++ more
