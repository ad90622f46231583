-- The header lines of notes.
use Rattle.std.specs.Prelude.{bytes_eq, if◌then◌else◌}
use Rattle.std.proofs.Common.{◌≡◌, ℕ, Bool, true, false, not, ◌==◌, List, [], ◌∷◌, ◌++◌, length, take, drop, codes, refl, sym, ap, subst, ◌∙◌, Result, Ok, Err}
use Rattle.std.proofs.lemmas.Bool.{and_parts, false≢true}
use Rattle.std.proofs.lemmas.List.{take-append-drop}
use Rattle.std.specs.Cmp.Lexicographic.{same_text}
use Rattle.std.specs.List.{list_all}
use Rattle.camp_base.specs.Bytes.{is_name}
use Rattle.camp_base.specs.declared.faults.BaseFault.{BaseFault}
use Rattle.camp_notes.specs.Faults.{has_no_feed}
use Rattle.camp_notes.specs.Inside.{BeginsTitle, FailsTitle}
use Rattle.camp_notes.specs.Texts.{begins_title}
use Rattle.camp_notes.specs.declared.faults.NoteFaultKind.TheVariants.{BadName, Misplaced, NotEnded}
use Rattle.camp_notes.proofs.TextLemmas.{name_line, same_titles, title_shown}

-- bytes that begin with a sign
pub with_sign : (sign bytes rest : List ℕ) → bytes_eq (take (length sign) bytes) sign ≡ true → rest ≡ drop (length sign) bytes → bytes ≡ sign ++ rest
with_sign sign bytes rest is left =
    sym (take-append-drop (length sign) bytes) ∙ ap (λ (front : List ℕ). front ++ drop (length sign) bytes) (same_text (take (length sign) bytes) sign (sym is)) ∙ ap (λ (back : List ℕ). sign ++ back) (sym left)

pub after_note_sign : (bytes line : List ℕ) → bytes_eq (take 6 bytes) (codes "#note ") ≡ true → line ≡ drop 6 bytes → codes "#note " ++ line ≡ bytes
after_note_sign bytes line is left = sym (with_sign (codes "#note ") bytes line is left)

pub misplaced_title : (bytes : List ℕ) → begins_title bytes ≡ false → FailsTitle bytes Misplaced
misplaced_title bytes none = (
  none,
  λ name more named same. false≢true (sym none ∙ ap (λ (l : List ℕ). begins_title l) same),
)

feed_within : (name more : List ℕ) → has_no_feed (name ++ 10 ∷ more) → ⊥
feed_within [] more none = false≢true none
feed_within (x ∷ name) more none = feed_within name more (and_parts (not (x == 10)) (list_all (λ byte. not (byte == 10)) (name ++ 10 ∷ more)) none).1

pub unended_title : (bytes : List ℕ) → has_no_feed bytes → FailsTitle (codes "#note " ++ bytes) NotEnded
unended_title bytes none = (
  record { rest = bytes; is = refl; one_line = none },
  λ name more named same.
      let line : bytes ≡ name ++ 10 ∷ more = ap (λ (l : List ℕ). drop 6 l) (same ∙ title_shown name more) in
      feed_within name more (subst (λ (l : List ℕ). has_no_feed l) line none),
)

pub bad_title : (word rest : List ℕ) → has_no_feed word → is_name word ≡ false → FailsTitle (codes "#note " ++ word ++ 10 ∷ rest) BadName
bad_title word rest one bad = (
  record { word = word; more = rest; is = sym (title_shown word rest); one_line = one; bad = bad },
  λ name more named same.
      let both = same_titles word name rest more one (name_line name named) (title_shown word rest ∙ same) in
      false≢true (sym bad ∙ ap (λ (n : List ℕ). is_name n) both.0 ∙ named),
)

pub good_title : (word rest : List ℕ) → is_name word ≡ true → BeginsTitle (codes "#note " ++ word ++ 10 ∷ rest) word rest
good_title word rest good = record { named = good; is = sym (title_shown word rest) }

-- a name was not made
pub not_named : (named : Bool) (word : List ℕ) (fault other : BaseFault) (result : Result (List ℕ) BaseFault) → result ≡ (if named then Ok word else Err fault) → result ≡ Err other → named ≡ false
not_named true word fault other result is failed =
    let both : Ok word ≡ Err other = sym is ∙ failed in
    cc
not_named false word fault other result is failed = refl
