-- Requests in frames: each comes after a line with its number of bytes, and so does its answer.
use Rattle.std.specs.Prelude.{◌≡◌, ◌≢◌, ◌<◌, ◌≤◌, ◌⊎◌, ℕ, List, [], ◌∷◌, ◌++◌, length, Option, OnSome, None, Some}
use Rattle.std.specs.Fmt.{decimal}
use Rattle.std.specs.Io.KnownBytes.{Consumes, IsAtEnd}
use Rattle.camp_base.specs.Signs.{newline}
use Rattle.camp_script.specs.Words.{count_of}
use Rattle.camp_talk.specs.Cutting.{IsLine}
use Rattle.camp_talk.specs.Faults.{fault_status}
use Rattle.camp_talk.specs.declared.frames.FrameFault.{FrameFault}
use Rattle.camp_talk.specs.declared.frames.FrameFault.TheVariants.{Cut, NoNumber, Talk, TooLarge}
use Rattle.camp_talk.specs.declared.faults.TalkFault.TheVariants.{Internal, Memory, Read, Write}

-- the most bytes of a request
abbrev pub most_bytes : ℕ
most_bytes = 268_435_456

-- bytes are the frame of a request: its length in 1 to 10 digits, a line feed, and the request
pub record IsFrame (request frame : List ℕ) : Type 0 where
  pub digits : List ℕ
  pub counts : count_of digits ≡ Some (length request)
  pub few : length request ≤ most_bytes
  pub is : frame ≡ digits ++ newline ∷ request

-- the frame of an answer
abbrev pub framed : List ℕ → List ℕ
framed answer = decimal (length answer) ++ newline ∷ answer

-- no frame begins with these bytes
abbrev pub BeginsNoFrame : List ℕ → Type 0
BeginsNoFrame bytes = (request frame more : List ℕ) → IsFrame request frame → frame ≢ bytes ++ more

-- bytes do not begin with a complete frame
abbrev pub HasNoFrame : List ℕ → Type 0
HasNoFrame bytes = (request frame more : List ℕ) → IsFrame request frame → bytes ≢ frame ++ more

-- a line with the length of a request, and fewer bytes after it than that
pub record IsShortFrame (bytes : List ℕ) : Type 0 where
  pub line : List ℕ
  pub some : List ℕ
  pub count : ℕ
  pub counts : count_of line ≡ Some count
  pub few : count ≤ most_bytes
  pub short : length some < count
  pub is : bytes ≡ line ++ newline ∷ some

-- bytes end within a frame: within its first line, or within the request
abbrev pub EndsWithin : List ℕ → Type 0
EndsWithin bytes = IsLine bytes ⊎ IsShortFrame bytes

-- given the contents of a reader, before and after, if they are known
module _ (remaining rest : Option (List ℕ)) where
  -- exactly a line was read, and it is not a number of 1 to 10 digits
  pub record ReadsNoNumber : Type 0 where
    pub line : List ℕ
    pub is_line : IsLine line
    pub none : count_of line ≡ None
    pub reads : Consumes remaining rest (line ++ newline ∷ [])

  -- exactly a line was read, and its number is greater than the most bytes of a request
  pub record ReadsTooLarge : Type 0 where
    pub line : List ℕ
    pub count : ℕ
    pub counts : count_of line ≡ Some count
    pub large : most_bytes < count
    pub reads : Consumes remaining rest (line ++ newline ∷ [])

  -- at most a part of a frame was read
  pub record ReadsPart : Type 0 where
    pub some : List ℕ
    pub reads : Consumes remaining rest some
    pub within : EndsWithin some

  -- the input has ended within a frame, and what there was of the frame was read
  pub record ReadsCut : Type 0 where
    pub part : ReadsPart
    pub some_are : part.some ≢ []
    pub ends : OnSome remaining (IsAtEnd rest)

  -- why no frame was read. NoNumber: exactly a line was read, which is no number. TooLarge: exactly a line was read,
  -- whose number is too great. Cut: the input has ended within a frame. Memory, Read: within a frame memory ran out or
  -- the reader failed.
  abbrev pub ReadsNoFrame : FrameFault → Type 0
  ReadsNoFrame NoNumber = ReadsNoNumber
  ReadsNoFrame TooLarge = ReadsTooLarge
  ReadsNoFrame Cut = ReadsCut
  ReadsNoFrame (Talk Memory) = ReadsPart
  ReadsNoFrame (Talk (Read error)) = ReadsPart
  ReadsNoFrame (Talk (Write error)) = ⊥
  ReadsNoFrame (Talk Internal) = ⊥

-- the exit status for a fault
abbrev pub frame_status : FrameFault → ℕ
frame_status (Talk fault) = fault_status fault
frame_status other = 1
