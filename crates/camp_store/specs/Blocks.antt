-- The format of a log file: blocks, each with a digest of its text and all texts before it, and an end.
use Rattle.std.specs.Prelude.{Bool, false, ◌==◌, ◌≡◌, ◌≢◌, ◌⊎◌, ◌<◌, ◌^◌, ℕ, List, [], ◌∷◌, ◌++◌, length, take, replicate}
use Rattle.std.specs.Int.{to_be_bytes, w32}
use Rattle.hex.specs.Hex.{encode_lower}
use Rattle.sha2.specs.Sha256.{sha256}

-- the commit mark of a block that counts, `=`
abbrev pub open_mark : ℕ
open_mark = 61

-- the closed mark, with which the end of a file begins, `~`
abbrev pub closed_mark : ℕ
closed_mark = 126

-- the digest of an empty list of texts
abbrev pub first_digest : List ℕ
first_digest = replicate 32 0

-- the digest of texts and one more; `before` is the digest of those before it
abbrev pub digest_after : List ℕ → List ℕ → List ℕ
digest_after before text = sha256 (before ++ text)

-- the digest of a list of texts, given the digest of the texts before it
abbrev pub chain : List ℕ → List (List ℕ) → List ℕ
chain before [] = before
chain before (text ∷ texts) = chain (digest_after before text) texts

-- LENGTH DIGEST: a line with the length of a text in 8 hexadecimal digits, and the first 8 bytes of its digest in 16
abbrev pub head : List ℕ → List ℕ → List ℕ
head before text =
    encode_lower (to_be_bytes w32 (length text)) ++ (32 ∷ encode_lower (take 8 (digest_after before text)) ++ 10 ∷ [])

-- a block without its commit mark: the head of the text, and the text
abbrev pub body : List ℕ → List ℕ → List ℕ
body before text = head before text ++ text

-- a length that 8 hexadecimal digits can express
abbrev pub FitsInBlock : List ℕ → Type 0
FitsInBlock text = length text < 2 ^ 32

-- each text fits in a block
abbrev pub AllFit : List (List ℕ) → Type 0
AllFit [] = Unit {0}
AllFit (text ∷ texts) = FitsInBlock text × AllFit texts

-- the blocks of texts, as they are written
abbrev pub blocks : List ℕ → List (List ℕ) → List ℕ
blocks before [] = []
blocks before (text ∷ texts) = open_mark ∷ body before text ++ blocks (digest_after before text) texts

-- bytes begin with the block of this text, whose commit mark says that it counts; `rest` follows
pub record IsBlock (before text rest bytes : List ℕ) : Type 0 where
  pub mark : ℕ
  pub counts : mark ≢ closed_mark
  pub fits : FitsInBlock text
  pub split : bytes ≡ mark ∷ body before text ++ rest

-- the bytes are exactly the blocks of these texts, in order
abbrev pub AreBlocks : List ℕ → List (List ℕ) → List ℕ → Type 0
AreBlocks before [] bytes = bytes ≡ []
AreBlocks before (text ∷ texts) bytes =
    (rest : List ℕ) × IsBlock before text rest bytes × AreBlocks (digest_after before text) texts rest

-- no block begins here: the bytes are empty, one byte, or begin with the closed mark
abbrev pub IsEnd : List ℕ → Type 0
IsEnd [] = Unit {0}
IsEnd (mark ∷ rest) = (mark ≡ closed_mark) ⊎ (rest ≡ [])

-- the bytes begin with the closed mark
abbrev pub is_closed : List ℕ → Bool
is_closed [] = false
is_closed (mark ∷ rest) = mark == closed_mark

-- the file decodes to these texts: it is their blocks followed by an end
pub record DecodesTo (texts : List (List ℕ)) (file : List ℕ) : Type 0 where
  pub front : List ℕ
  pub end : List ℕ
  pub split : file ≡ front ++ end
  pub are : AreBlocks first_digest texts front
  pub ends : IsEnd end

-- a file decodes to at most one list of texts
abbrev pub FilesDecodeToOneList : Type 0
FilesDecodeToOneList = (texts others : List (List ℕ)) (file : List ℕ) → DecodesTo texts file → DecodesTo others file → texts ≡ others
