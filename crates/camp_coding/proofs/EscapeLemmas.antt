-- Escaped paths are decoded to the paths.
use Rattle.std.proofs.Common.{◌≡◌, ℕ, ◌<◌, true, false, true≢false, List, [], ◌∷◌, ◌++◌, All, refl, sym, ◌∙◌, ap, ⊎_elim, arith}
use Rattle.std.proofs.lemmas.Bool.{cond-true, cond-false, cases_Bool}
use Rattle.std.proofs.lemmas.Bool.Decides.{nat_tests}
use Rattle.std.proofs.lemmas.List.Elements.{All-head, All-tail}
use Rattle.percent_encoding.specs.Percent.{percent_decode, percent_encode_byte}
use Rattle.percent_encoding.proofs.PercentLemmas.{IsByte, percent_decode-nil, percent_decode-percent_encode_byte, percent_decode_not_percent}
use Rattle.camp_coding.specs.GitPaths.{AreBytes, EscapedPathsDiffer, escaped_path, is_unescaped}

pub no_percent : (byte : ℕ) → is_unescaped byte ≡ true → byte ≡ 37 → ⊥
no_percent byte kept is = true≢false (sym kept ∙ ap is_unescaped is)

pub decoded_path : (path : List ℕ) → AreBytes path → percent_decode (escaped_path path) ≡ path
decoded_path [] bytes = percent_decode-nil
decoded_path (byte ∷ path) bytes =
    let rest = ap (λ (l : List ℕ). byte ∷ l) (decoded_path path (All-tail IsByte byte path bytes)) in
    ⊎_elim
    (λ kept.
    ap (λ (l : List ℕ). percent_decode (l ++ escaped_path path)) (cond-true _ _ _ kept)
    ∙ percent_decode_not_percent byte (escaped_path path) (no_percent byte kept)
    ∙ rest)
    (λ escaped.
    ap (λ (l : List ℕ). percent_decode (l ++ escaped_path path)) (cond-false _ _ _ escaped)
    ∙ percent_decode-percent_encode_byte byte (escaped_path path) (All-head IsByte byte path bytes)
    ∙ rest)
    (cases_Bool (is_unescaped byte))

pub paths_differ : EscapedPathsDiffer
paths_differ path other bytes bytes' same =
    sym (decoded_path path bytes) ∙ ap percent_decode same ∙ decoded_path other bytes'
