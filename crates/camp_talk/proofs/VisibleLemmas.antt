-- Whatever bytes are, they are shown by printable ones; and texts of such bytes.
use Rattle.camp_talk.proofs.Words.{◌≡◌, ◌<◌, ◌==◌, ◌+◌, ◌-◌, ℕ, Bool, true, false, cond, List, [], ◌∷◌, ◌++◌, Some, refl, ap, subst, sym, ◌∙◌, arith, nat_lt, eqb-true, All-head, All-tail}
use Rattle.std.proofs.lemmas.Bool.{ltb-false, ltb-true}
use Rattle.std.proofs.lemmas.Bool.Decides.{nat_tests}
use Rattle.std.proofs.lemmas.List.Folds.{list_all-append}
use Rattle.std.specs.List.{list_all}
use Rattle.std.specs.Prelude.{◌/◌, ◌%◌}
use Rattle.camp_base.specs.Signs.{is_printing}
use Rattle.camp_notation.specs.Words.{hex_digit}
use Rattle.camp_script.proofs.CanonicalLines.{both}
use Rattle.camp_talk.specs.Diagnostics.{FailedCommand}
use Rattle.camp_talk.specs.Reports.{IsReport, answer_in, quoted_line}
use Rattle.camp_talk.specs.Visible.{IsPlainText, ShownBytesArePrintable, is_text_byte, visible, visible_byte}

digit_is : (n : ℕ) → n < 16 → is_printing (hex_digit n) ≡ true
digit_is n few = at (nat_lt n 10) refl
  where
    at : (b : Bool) → nat_lt n 10 ≡ b → is_printing (cond b (48 + n) (97 + (n - 10))) ≡ true
    at true low = let less = ltb-true n 10 low in grind (arith, nat_tests, less)
    at false high = let most = ltb-false n 10 high in grind (arith, nat_tests, most, few)

byte_is : (byte : ℕ) → byte < 256 → list_all is_printing (visible_byte byte) ≡ true
byte_is byte small = at (byte == 92) (is_printing byte) refl refl
  where
    at : (slash prints : Bool) → (byte == 92) ≡ slash → is_printing byte ≡ prints
        → list_all is_printing (cond slash (92 ∷ byte ∷ []) (cond prints (byte ∷ []) (92 ∷ 120 ∷ hex_digit (byte / 16) ∷ hex_digit (byte % 16) ∷ []))) ≡ true
    at true prints is prints_is = subst (λ (b : ℕ). list_all is_printing (92 ∷ b ∷ []) ≡ true) (sym (eqb-true byte 92 is)) refl
    at false true is prints = both (is_printing byte) true prints refl
    at false false is other =
        both (is_printing (hex_digit (byte / 16))) (list_all is_printing (hex_digit (byte % 16) ∷ [])) (digit_is (byte / 16) (omega (arith, small)))
        (both (is_printing (hex_digit (byte % 16))) true (digit_is (byte % 16) (omega (arith, small))) refl)

pub shown_bytes_are_printable : ShownBytesArePrintable
shown_bytes_are_printable [] are = refl
shown_bytes_are_printable (byte ∷ bytes) are =
    list_all-append is_printing (visible_byte byte) (visible bytes)
    ∙ both (list_all is_printing (visible_byte byte)) (list_all is_printing (visible bytes))
    (byte_is byte (All-head (λ b. b < 256) byte bytes are))
    (shown_bytes_are_printable bytes (All-tail (λ b. b < 256) byte bytes are))

-- ---- plain texts

pub plain_more : (old more : List ℕ) → IsPlainText old → IsPlainText more → IsPlainText (old ++ more)
plain_more old more is are = list_all-append is_text_byte old more ∙ both (list_all is_text_byte old) (list_all is_text_byte more) is are

pub plain_one : (old : List ℕ) (byte : ℕ) → IsPlainText old → is_text_byte byte ≡ true → IsPlainText (old ++ byte ∷ [])
plain_one old byte is one = plain_more old (byte ∷ []) is (both (is_text_byte byte) true one refl)

-- a report, by its parts
pub reported : (failed : FailedCommand) (answer line more text : List ℕ) → answer ≡ answer_in failed.cause → line ≡ quoted_line failed.line → IsPlainText more
    → text ≡ answer ++ line ++ more → IsReport (Some failed) text
reported failed answer line more text answers quotes plain is =
    (more, plain, is ∙ ap (λ (front : List ℕ). front ++ line ++ more) answers ∙ ap (λ (middle : List ℕ). answer_in failed.cause ++ middle ++ more) quotes)
