-- Names and paths have no line feed.
use Rattle.camp_git.proofs.Words.{◌≡◌, ◌∙◌, ◌∷◌, [], ◌||◌, ◌==◌, length, not, ℕ, Bool, true, false, true≢false, List, refl, sym, ap, list_any}
use Rattle.std.specs.Prelude.{codes, nat_le, slice_index}
use Rattle.std.specs.Cmp.{second_so}
use Rattle.std.proofs.lemmas.List.Folds.{list_any-append}
use Rattle.std.specs.List.{list_all}
use Rattle.std.proofs.lemmas.Bool.{and_parts, ne_eqb}
use Rattle.camp_base.specs.Limits.{longest_name}
use Rattle.camp_base.specs.Bytes.{is_name, is_name_byte, is_path}
use Rattle.camp_base.specs.Signs.{hyphen, is_graphic, newline}
use Rattle.camp_git.specs.Exports.{reference_of}
use Rattle.camp_git.specs.FastImport.{CanBeNamed, IsOneLine}

no_newline : (p : ℕ → Bool) (bytes : List ℕ) → p newline ≡ false → list_all p bytes ≡ true → IsOneLine bytes
no_newline p [] never all = refl
no_newline p (b ∷ bytes) never all =
    let both = and_parts (p b) (list_all p bytes) all in
    ap (λ c. c || list_any (λ byte. byte == newline) bytes) (ne_eqb b newline (λ e. true≢false (sym both.0 ∙ ap p e ∙ never))) ∙ no_newline p bytes never both.1

pub name_in_line : (name : List ℕ) → is_name name ≡ true → IsOneLine (reference_of name)
name_in_line name is =
    list_any-append (λ byte. byte == newline) (codes "refs/heads/") name
    ∙ ap (λ b. list_any (λ byte. byte == newline) (codes "refs/heads/") || b) (no_newline is_name_byte name refl (second_so (nat_le (length name) longest_name) _ (second_so (not (slice_index name 0 == hyphen)) _ (second_so (not (length name == 0)) _ is))))

pub path_in_line : (path : List ℕ) → is_path path ≡ true → CanBeNamed path
path_in_line path is =
    let a = and_parts _ _ is in
    let c = and_parts _ _ a.1 in
    (c.1, no_newline is_graphic path refl c.0)
