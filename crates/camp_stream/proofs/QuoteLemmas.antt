-- Quoted paths are read as the paths.
use Rattle.std.proofs.Common.{◌≡◌, ℕ, ◌+◌, ◌-◌, ◌/◌, ◌%◌, ◌<◌, ◌≤◌, true, false, true≢false, List, [], ◌∷◌, ◌++◌, Option, None, Some, ◌==◌, refl, sym, ◌∙◌, ap, ⊎_elim, arith, append_assoc}
use Rattle.std.specs.List.{flat_map}
use Rattle.std.proofs.lemmas.Bool.{and_from, cond-true, cond-false, cases_Bool, eqb-true, le-leb}
use Rattle.std.proofs.lemmas.List.Elements.{All-head, All-tail}
use Rattle.camp_base.specs.Signs.{backslash, is_between, quote}
use Rattle.camp_stream.specs.QuotedPaths.{QuotedPathsComeBack, needs_no_escape, octal_more, onto_path, quoted_path_byte, unquoted_from}
use Rattle.camp_stream.specs.Inside.Steps.{behind_path}
use Rattle.camp_stream.specs.declared.unquoting.EscapeState.TheVariants.{Plain}

abbrev pub IsByte : ℕ → Type 0
IsByte byte = byte < 256

not_quote : (byte : ℕ) → needs_no_escape byte ≡ true → (byte == quote) ≡ false
not_quote byte kept =
    ⊎_elim (λ same. absurd (true≢false (sym kept ∙ ap needs_no_escape (eqb-true byte quote same)))) (λ other. other) (cases_Bool (byte == quote))

not_backslash : (byte : ℕ) → needs_no_escape byte ≡ true → (byte == backslash) ≡ false
not_backslash byte kept =
    ⊎_elim (λ same. absurd (true≢false (sym kept ∙ ap needs_no_escape (eqb-true byte backslash same)))) (λ other. other) (cases_Bool (byte == backslash))

between : (low high byte : ℕ) → low ≤ byte → byte ≤ high → is_between low high byte ≡ true
between low high byte le le' = and_from _ _ (le-leb low byte le) (le-leb byte high le')

-- three octal digits make the byte
digits_make : (byte : ℕ) → byte < 256 → octal_more (octal_more (48 + byte / 64 - 48) (48 + byte / 8 % 8)) (48 + byte % 8) ≡ byte
digits_make byte small = omega (arith, small)

read_escape : (byte : ℕ) (more : List ℕ) → byte < 256 → unquoted_from Plain (92 ∷ (48 + byte / 64) ∷ (48 + byte / 8 % 8) ∷ (48 + byte % 8) ∷ more) ≡ onto_path byte (unquoted_from Plain more)
read_escape byte more small =
    cond-true _ _ _ (between 48 51 (48 + byte / 64) (omega arith) (omega (arith, small)))
    ∙ cond-true _ _ _ (between 48 55 (48 + byte / 8 % 8) (omega arith) (omega arith))
    ∙ cond-true _ _ _ (between 48 55 (48 + byte % 8) (omega arith) (omega arith))
    ∙ ap (λ (value : ℕ). onto_path value (unquoted_from Plain more)) (digits_make byte small)

read_byte : (byte : ℕ) (more : List ℕ) → byte < 256 → unquoted_from Plain (quoted_path_byte byte ++ more) ≡ onto_path byte (unquoted_from Plain more)
read_byte byte more small =
    ⊎_elim
    (λ kept.
    ap (λ (l : List ℕ). unquoted_from Plain (l ++ more)) (cond-true _ _ _ kept)
    ∙ cond-false _ _ _ (not_quote byte kept)
    ∙ cond-false _ _ _ (not_backslash byte kept))
    (λ escaped.
    ap (λ (l : List ℕ). unquoted_from Plain (l ++ more)) (cond-false _ _ _ escaped) ∙ read_escape byte more small)
    (cases_Bool (needs_no_escape byte))

pub come_back : QuotedPathsComeBack
come_back [] rest bytes = refl
come_back (byte ∷ path) rest bytes =
    ap (unquoted_from Plain) (append_assoc (quoted_path_byte byte) (flat_map quoted_path_byte path) (quote ∷ rest))
    ∙ read_byte byte (flat_map quoted_path_byte path ++ quote ∷ rest) (All-head IsByte byte path bytes)
    ∙ ap (onto_path byte) (come_back path rest (All-tail IsByte byte path bytes))

-- a byte more was read
pub one_more : (path : List ℕ) (byte : ℕ) (found : Option (List ℕ × List ℕ)) → behind_path path (onto_path byte found) ≡ behind_path (path ++ byte ∷ []) found
one_more path byte None = refl
one_more path byte (Some read) =
    ap (λ (l : List ℕ). Some (l, read.1)) (sym (append_assoc path (byte ∷ []) read.0))

pub none_yet : (found : Option (List ℕ × List ℕ)) → behind_path [] found ≡ found
none_yet None = refl
none_yet (Some read) = refl
