-- What a conversation reads and writes.
use Rattle.std.specs.Prelude.{◌≡◌, ◌^◌, ◌+◌, ◌<◌, ◌≤◌, ℕ, Bool, true, false, List, [], ◌∷◌, ◌++◌, length, Option, OnSome}
use Rattle.std.specs.List.{flat_map}
use Rattle.std.specs.Io.KnownBytes.{Appends, Consumes, IsAtEnd}
use Rattle.camp_script.specs.Lines.{lines_of}
use Rattle.camp_talk.specs.Answers.{AnswersCommand, SessionState}
use Rattle.camp_talk.specs.Cutting.{IsCommand, IsLeft}
use Rattle.camp_talk.specs.declared.faults.TalkFault.{TalkFault}
use Rattle.camp_talk.specs.declared.faults.TalkFault.TheVariants.{Internal, Memory, Read, Write}

-- a command and its answer
pub record Exchange : Type 0 where
  pub command : List ℕ
  pub answer : List ℕ

-- a count in 64 bits was increased without overflow
pub record HasGrown (old new : ℕ) : Type 0 where
  pub rises : old < new
  pub counted : old < 2 ^ 64

-- known bytes were extended by a prefix of a text
abbrev pub AppendsSome : Option (List ℕ) → Option (List ℕ) → List ℕ → Type 0
AppendsSome old new text = (done : List ℕ) × (rest : List ℕ) × (text ≡ done ++ rest) × Appends old new done

-- given the contents of a reader, before and after
module _ (remaining rest : Option (List ℕ)) where
  -- exactly a command was read: a complete one; or what the end of the input left of one
  abbrev pub ReadsCommand : Bool → List ℕ → Type 0
  ReadsCommand true command = Consumes remaining rest command × IsCommand command
  ReadsCommand false command = Consumes remaining rest command × IsLeft command × OnSome remaining (IsAtEnd rest)

  -- at most a command was read: all that was read belongs to its first line
  pub record ReadsWithin : Type 0 where
    pub some : List ℕ
    pub reads : Consumes remaining rest some
    pub is : IsLeft some

  -- at most a command was read, and the line after it would have the number 2^64
  pub record ReadsTooMuch (before : SessionState) : Type 0 where
    pub some : List ℕ
    pub reads : Consumes remaining rest some
    pub is : IsLeft some
    pub many : 2 ^ 64 ≤ before.lines + length (lines_of some) + 1

  -- there is no command to execute: memory ran out for it, the reader failed, or its lines can't be counted
  abbrev pub ReadsNone : SessionState → TalkFault → Type 0
  ReadsNone before Memory = ReadsWithin
  ReadsNone before (Read error) = ReadsWithin
  ReadsNone before (Write error) = ⊥
  ReadsNone before Internal = ReadsTooMuch before

-- given that, and the contents of a writer, before and after, if they are known
module _ (remaining rest old new : Option (List ℕ)) where
  -- exactly a command was read, and exactly its answer was written
  pub record Exchanges (whole : Bool) (before after : SessionState) : Type 0 where
    pub exchange : Exchange
    pub reads : ReadsCommand remaining rest whole exchange.command
    pub answers : AnswersCommand before exchange.command exchange.answer after
    pub writes : Appends old new exchange.answer

-- commands are answered one after the other, beginning with this session state
abbrev pub AnswersInOrder : SessionState → List Exchange → SessionState → Type 0
AnswersInOrder first [] last = first ≡ last
AnswersInOrder first (exchange ∷ others) last =
    (next : SessionState) × IsCommand exchange.command × AnswersCommand first exchange.command exchange.answer next × AnswersInOrder next others last

-- exactly these commands were read and answered so far
pub record HasAnswered (remaining rest old new : Option (List ℕ)) (first last : SessionState) : Type 0 where
  pub exchanges : List Exchange
  pub follow : AnswersInOrder first exchanges last
  pub reads : Consumes remaining rest (flat_map (λ exchange. exchange.command) exchanges)
  pub writes : Appends old new (flat_map (λ exchange. exchange.answer) exchanges)
