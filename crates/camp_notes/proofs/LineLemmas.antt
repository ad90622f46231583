-- The bytes of a text that were parsed so far, and the rest.
use Rattle.std.proofs.Common.{◌≡◌, ℕ, ◌≤◌, List, [], ◌∷◌, ◌++◌, length, sym, ap, ◌∙◌, arith, inl, inr, length-append, append_assoc, append-nil}
use Rattle.std.proofs.lemmas.Grind.{flat_map-append}
use Rattle.camp_notes.specs.Inside.{BeginsLines, BeginsTooLong, EndsText, EndsUnended}
use Rattle.camp_notes.specs.Limits.{longest_note}
use Rattle.camp_notes.specs.Texts.{begins_text_line, signed_byte, signed_bytes}

pub one_more_byte : (bytes text rest : List ℕ) (byte : ℕ) (after : List ℕ) → bytes ≡ signed_bytes text ++ rest → rest ≡ signed_byte byte ++ after → bytes ≡ signed_bytes (text ++ byte ∷ []) ++ after
one_more_byte bytes text rest byte after is next =
    is ∙ ap (λ (l : List ℕ). signed_bytes text ++ l) next ∙ sym (append_assoc (signed_bytes text) (signed_byte byte) after)
    ∙ ap (λ (l : List ℕ). l ++ after) (sym (flat_map-append signed_byte text (byte ∷ []) ∙ ap (λ (l : List ℕ). signed_bytes text ++ l) (append-nil (signed_byte byte))))

pub too_long : (bytes text rest : List ℕ) (byte : ℕ) (after : List ℕ) → bytes ≡ signed_bytes text ++ rest → rest ≡ signed_byte byte ++ after → length text ≡ longest_note → BeginsTooLong bytes
too_long bytes text rest byte after is next full = record {
  text = text ++ byte ∷ [];
  more = after;
  is = one_more_byte bytes text rest byte after is next;
  long = (let size = length-append text (byte ∷ []) in omega (arith, size, full));
}

pub not_ended : (bytes text rest : List ℕ) → bytes ≡ signed_bytes text ++ rest → length rest ≡ 0 → length text ≤ longest_note → EndsUnended bytes
not_ended bytes text [] is none short = record { text = text; short = short; is = is ∙ append-nil (signed_bytes text) }
not_ended bytes text (x ∷ rest) is none short = absurd (omega (arith, none))

pub ends_here : (bytes text rest : List ℕ) (first : ℕ) (after : List ℕ) → bytes ≡ signed_bytes text ++ rest → EndsText rest → rest ≡ first ∷ after → length text ≤ longest_note → BeginsLines bytes text after
ends_here bytes text rest first after is ends split short =
    elim ends as (λ _. BeginsLines bytes text after) [
      | inl none ↦ let all : [] ≡ first ∷ after = sym none ∙ split in absurd (omega (arith, ap length all))
      | inr found ↦
          let all : 10 ∷ found.0 ≡ first ∷ after = sym found.1 ∙ split in
          let same : found.0 ≡ after = cc in
          record {
            short = short;
            is = is ∙ ap (λ (l : List ℕ). signed_bytes text ++ l) (found.1 ∙ ap (λ (l : List ℕ). 10 ∷ l) same);
            ends = ap (λ (l : List ℕ). begins_text_line l) (sym same) ∙ found.2;
          }
    ]
