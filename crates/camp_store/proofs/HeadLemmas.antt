-- Decoding the head of a text.
use Rattle.camp_store.proofs.Words.{◌≡◌, ◌+◌, ◌*◌, ℕ, zero, suc, List, [], ◌∷◌, ◌++◌, Result, Ok, Err, length, take, drop, refl, sym, ◌∙◌, ap, arith, append_assoc, length-append, take_at, drop_at, length-take-le, FitsInBlock, body, digest_after, head}
use Rattle.std.proofs.lemmas.Nat.{from_be_bytes-to_be_bytes_4}
use Rattle.hex.specs.declared.error.FromHexError.{FromHexError}
use Rattle.std.specs.Int.{to_be_bytes, from_be_bytes, w32}
use Rattle.hex.specs.Hex.{IsBytes, decode_sized, decode_of, encode_lower, lower_digits}
use Rattle.hex.proofs.HexLemmas.{decode_of-encode_lower, decode_of-same, decode_sized-encode_lower, length-encode_with}
use Rattle.sha2.proofs.Facts256.{length-sha256}

are_bytes : (n : ℕ) → IsBytes (to_be_bytes w32 n)
are_bytes n zero = omega arith
are_bytes n (suc zero) = omega arith
are_bytes n (suc (suc zero)) = omega arith
are_bytes n (suc (suc (suc zero))) = omega arith
are_bytes n (suc (suc (suc (suc i)))) = omega arith

-- the digits of a length
abbrev pub digits : List ℕ → List ℕ
digits text = encode_lower (to_be_bytes w32 (length text))

-- the bytes between the digits of a length and the text
abbrev pub rest_of_head : List ℕ → List ℕ → List ℕ
rest_of_head before text = 32 ∷ encode_lower (take 8 (digest_after before text)) ++ 10 ∷ []

pub length-digits : (text : List ℕ) → length (digits text) ≡ 8
length-digits text = length-encode_with lower_digits (to_be_bytes w32 (length text))

pub length-rest_of_head : (before text : List ℕ) → length (rest_of_head before text) ≡ 18
length-rest_of_head before text =
    let all : length (digest_after before text) ≡ 32 = length-sha256 (before ++ text) in
    let some : length (take 8 (digest_after before text)) ≡ 8 = length-take-le 8 (digest_after before text) (omega (arith, all)) in
    let each : length (encode_lower (take 8 (digest_after before text))) ≡ 2 * length (take 8 (digest_after before text)) =
    length-encode_with lower_digits (take 8 (digest_after before text)) in
    omega (arith, some, each, length-append (encode_lower (take 8 (digest_after before text))) (10 ∷ []))

pub length-head : (before text : List ℕ) → length (head before text) ≡ 26
length-head before text = omega (arith, length-digits text, length-rest_of_head before text, length-append (digits text) (rest_of_head before text))

pub body_split : (before text rest : List ℕ) → body before text ++ rest ≡ digits text ++ (rest_of_head before text ++ (text ++ rest))
body_split before text rest =
    append_assoc (head before text) text rest ∙ append_assoc (digits text) (rest_of_head before text) (text ++ rest)

pub digits_decode : (before text : List ℕ) → decode_sized (take 8 (head before text)) 4 ≡ Ok (to_be_bytes w32 (length text))
digits_decode before text =
    ap (λ (l : List ℕ). decode_sized l 4) (take_at (digits text) (rest_of_head before text) 8 (length-digits text))
    ∙ decode_sized-encode_lower (to_be_bytes w32 (length text)) 4 refl (are_bytes (length text))

pub digits_say_length : (text : List ℕ) → FitsInBlock text → from_be_bytes w32 (to_be_bytes w32 (length text)) ≡ length text
digits_say_length text fits = from_be_bytes-to_be_bytes_4 (length text) fits

same_digits : (t u : List ℕ) → FitsInBlock t → FitsInBlock u → digits t ≡ digits u → length t ≡ length u
same_digits t u fits fits' is =
    let one : decode_of (digits t) ≡ Ok (to_be_bytes w32 (length t)) = decode_of-encode_lower (to_be_bytes w32 (length t)) (are_bytes (length t)) in
    let other : decode_of (digits t) ≡ Ok (to_be_bytes w32 (length u)) =
    ap decode_of is ∙ decode_of-encode_lower (to_be_bytes w32 (length u)) (are_bytes (length u)) in
    let bytes : to_be_bytes w32 (length t) ≡ to_be_bytes w32 (length u) = decode_of-same (digits t) _ _ one other in
    sym (digits_say_length t fits) ∙ ap (λ (l : List ℕ). from_be_bytes w32 l) bytes ∙ digits_say_length u fits'

-- bytes begin with one text at most
pub body_once : (before t u r s : List ℕ) → FitsInBlock t → FitsInBlock u → body before t ++ r ≡ body before u ++ s → (t ≡ u) × (r ≡ s)
body_once before t u r s fits fits' is =
    let split : digits t ++ (rest_of_head before t ++ (t ++ r)) ≡ digits u ++ (rest_of_head before u ++ (u ++ s)) =
    sym (body_split before t r) ∙ is ∙ body_split before u s in
    let numbers : digits t ≡ digits u =
    sym (take_at (digits t) (rest_of_head before t ++ (t ++ r)) 8 (length-digits t))
    ∙ ap (λ (l : List ℕ). take 8 l) split
    ∙ take_at (digits u) (rest_of_head before u ++ (u ++ s)) 8 (length-digits u) in
    let len : length t ≡ length u = same_digits t u fits fits' numbers in
    let after : rest_of_head before t ++ (t ++ r) ≡ rest_of_head before u ++ (u ++ s) =
    sym (drop_at (digits t) (rest_of_head before t ++ (t ++ r)) 8 (length-digits t))
    ∙ ap (λ (l : List ℕ). drop 8 l) split
    ∙ drop_at (digits u) (rest_of_head before u ++ (u ++ s)) 8 (length-digits u) in
    let rest : t ++ r ≡ u ++ s =
    sym (drop_at (rest_of_head before t) (t ++ r) 18 (length-rest_of_head before t))
    ∙ ap (λ (l : List ℕ). drop 18 l) after
    ∙ drop_at (rest_of_head before u) (u ++ s) 18 (length-rest_of_head before u) in (
      sym (take_at t r (length t) refl) ∙ ap (λ (l : List ℕ). take (length t) l) rest ∙ take_at u s (length t) (sym len),
      sym (drop_at t r (length t) refl) ∙ ap (λ (l : List ℕ). drop (length t) l) rest ∙ drop_at u s (length t) (sym len),
    )

pub long_body : (before text rest : List ℕ) → length (body before text ++ rest) ≡ 26 + length text + length rest
long_body before text rest =
    omega (arith, length-append (body before text) rest, length-append (head before text) text, length-head before text)

-- bytes that begin with a head and its text
module _ (before text rest bytes : List ℕ) (is : bytes ≡ body before text ++ rest) where
  pub head_at : take 26 bytes ≡ head before text
  head_at =
      ap (λ (l : List ℕ). take 26 l) (is ∙ append_assoc (head before text) text rest)
      ∙ take_at (head before text) (text ++ rest) 26 (length-head before text)

  pub text_at : drop 26 bytes ≡ text ++ rest
  text_at =
      ap (λ (l : List ℕ). drop 26 l) (is ∙ append_assoc (head before text) text rest)
      ∙ drop_at (head before text) (text ++ rest) 26 (length-head before text)

-- the digits of a head are read as the length of its text
pub size_read : (before text line : List ℕ) (read : Result (List ℕ) FromHexError) (bytes : List ℕ) → FitsInBlock text → line ≡ head before text
    → read ≡ decode_sized (take 8 line) 4 → read ≡ Ok bytes → from_be_bytes w32 bytes ≡ length text
size_read before text line read bytes fits is decoded ok =
    let sized : decode_sized (take 8 line) 4 ≡ Ok (to_be_bytes w32 (length text)) = ap (λ (l : List ℕ). decode_sized (take 8 l) 4) is ∙ digits_decode before text in
    let same : bytes ≡ to_be_bytes w32 (length text) = cc in
    ap (λ (l : List ℕ). from_be_bytes w32 l) same ∙ digits_say_length text fits

pub size_not_read : (before text line : List ℕ) (read : Result (List ℕ) FromHexError) (e : FromHexError) → line ≡ head before text
    → read ≡ decode_sized (take 8 line) 4 → read ≡ Err e → ⊥
size_not_read before text line read e is decoded err =
    let sized : decode_sized (take 8 line) 4 ≡ Ok (to_be_bytes w32 (length text)) = ap (λ (l : List ℕ). decode_sized (take 8 l) 4) is ∙ digits_decode before text in
    cc
