-- How much of the frame of a request was read.
use Rattle.std.specs.Prelude.{◌≡◌, ◌<◌, ◌≤◌, ℕ, Bool, true, false, List, [], ◌++◌, length, Option, None, Some}
use Rattle.std.specs.Io.KnownBytes.{Consumes}
use Rattle.camp_script.specs.Words.{count_of}
use Rattle.camp_talk.specs.Frames.{IsFrame, most_bytes}
use Rattle.camp_talk.specs.Inside.Parts.{Ends}
use Rattle.camp_talk.specs.declared.frames.FrameFault.{FrameFault}
use Rattle.camp_talk.specs.declared.frames.FrameFault.TheVariants.{Cut, NoNumber, Talk, TooLarge}

-- a line is the length of a request, in digits
abbrev pub IsCounted : List ℕ → ℕ → Type 0
IsCounted line count = (count_of line ≡ Some count) × (count ≤ most_bytes)

-- a line is not the length of a request, or it is too large a one
abbrev pub IsNotCounted : List ℕ → FrameFault → Type 0
IsNotCounted line NoNumber = count_of line ≡ None
IsNotCounted line TooLarge = (count : ℕ) × (count_of line ≡ Some count) × (most_bytes < count)
IsNotCounted line Cut = ⊥
IsNotCounted line (Talk fault) = ⊥

module _ (remaining rest : Option (List ℕ)) where
  -- some further bytes were read, up to the capacity; or the input has ended
  abbrev pub ReadsMore : ℕ → Bool → List ℕ → List ℕ → Type 0
  ReadsMore capacity true old new =
      (more : List ℕ) × Consumes remaining rest more × (new ≡ old ++ more) × (length more ≤ capacity)
  ReadsMore capacity false old new = Consumes remaining rest [] × (new ≡ old) × Ends remaining rest

  -- the wanted number of bytes was read; or fewer, and the input has ended
  abbrev pub ReadsBytes : ℕ → Bool → List ℕ → Type 0
  ReadsBytes count true bytes = Consumes remaining rest bytes × (length bytes ≡ count)
  ReadsBytes count false bytes = Consumes remaining rest bytes × (length bytes < count) × Ends remaining rest

  -- fewer bytes than wanted were read
  pub record ReadsFewer (count : ℕ) : Type 0 where
    pub some : List ℕ
    pub reads : Consumes remaining rest some
    pub fewer : length some < count

  -- the frame of a request was read
  pub record ReadsFrame (request : List ℕ) : Type 0 where
    pub frame : List ℕ
    pub is : IsFrame request frame
    pub reads : Consumes remaining rest frame

  -- the input had ended
  pub record ReadsNothing : Type 0 where
    pub reads : Consumes remaining rest []
    pub ends : Ends remaining rest
