-- The hint on a line with a fault is true; if there is none, none applies.
use Rattle.std.specs.List.{list_any}
use Rattle.std.specs.Prelude.{codes}
use Rattle.std.proofs.Common.{inl, inr}
use Rattle.camp_why.proofs.Words.{◌||◌, ◌≡◌, ◌∙◌, ℕ, Bool, true, false, false≢true, cond, List, ap, and_parts, bytes_eq, bytes_eq-Decides, refl, sym}
use Rattle.camp_base.specs.Signs.{is_capital_letter}
use Rattle.camp_script.specs.Lines.{words_of}
use Rattle.camp_script.specs.Pieces.{begins_with}
use Rattle.camp_script.specs.declared.faults.FaultKind.{FaultKind}
use Rattle.camp_script.specs.declared.faults.FaultKind.TheVariants as kind
use Rattle.camp_why.specs.Hints.{HasNoForm, HintsAreSeen, IsOfCommand, HasNoWordHint, HintIsTrue, ShowsNothing, begins, begins_blank, begins_end, begins_inner, begins_quoted, is_record_line, begins_signed, begins_zero, edit_hint, ends_in_return, faulty, first_word, form_hint, has_quote, has_return, has_zero_in_front, hint, is_capital_end, is_overlong, is_empty_line, is_end, is_quote, is_return, is_returned_end, is_strange, is_zero, line_hint, number_word, path_word, unsigned_hint, word_hint}
use Rattle.camp_why.specs.declared.hints.Hint.{Hint}
use Rattle.camp_why.specs.declared.hints.Hint.TheVariants as seen

no_sign : (line : List ℕ) → begins (codes "-") line ≡ false → begins (codes "+") line ≡ false → begins_signed line ≡ false
no_sign line minus plus = (λ j. plus j || minus j)

-- a fact about two lines holds of a line that is one of them
module _ (P : List ℕ → Bool) (one other : List ℕ) (of_one : P one ≡ true) (of_other : P other ≡ true) (line : List ℕ) where
  by_test : (first second : Bool) → (first ≡ true → line ≡ one) → (second ≡ true → line ≡ other) → (first || second) ≡ true → P line ≡ true
  by_test true second is_one is_other either = ap P (is_one refl) ∙ of_one
  by_test false true is_one is_other either = ap P (is_other refl) ∙ of_other
  by_test false false is_one is_other either = absurd (false≢true either)

  of_either : (bytes_eq line one || bytes_eq line other) ≡ true → P line ≡ true
  of_either = by_test (bytes_eq line one) (bytes_eq line other) (bytes_eq-Decides line one).0 (bytes_eq-Decides line other).0

capital_end : (line : List ℕ) → is_capital_end line ≡ true → list_any is_capital_letter line ≡ true
capital_end = of_either (list_any is_capital_letter) (codes "END") (codes "End") refl refl

returned_end : (line : List ℕ) → is_returned_end line ≡ true → ends_in_return line ≡ true
returned_end = of_either ends_in_return (codes "end\r") (codes "\r") refl refl

-- whether there is no hint
abbrev is_nothing : Hint → Bool
is_nothing seen.Nothing = true
is_nothing other = false

-- the hint is true; if there is none, this holds
record Says (k : FaultKind) (line : List ℕ) (Else : Type 0) (reported : Hint) : Type 0 where
  is_seen : HintIsTrue k line reported
  else_so : reported ≡ seen.Nothing → Else

module _ (k : FaultKind) (line : List ℕ) {Else : Type 0} where
  -- by a test
  tell : (test : Bool) (reported other : Hint) → is_nothing reported ≡ false → (test ≡ true → HintIsTrue k line reported) → (test ≡ false → Says k line Else other) → Says k line Else (cond test reported other)
  tell true reported other some holds fails = record { is_seen = holds refl; else_so = λ none. absurd (false≢true (sym some ∙ ap is_nothing none)) }
  tell false reported other some holds fails = fails refl

  nothing : Else → Says k line Else seen.Nothing
  nothing so = record { is_seen = tt; else_so = λ none. so }

  module _ (returns : has_return k line ≡ ends_in_return (faulty k line)) (quotes : has_quote k line ≡ list_any is_quote (faulty k line)) where
    -- for the word that has the fault, or else
    in_word : (other : Hint) → (HasNoWordHint (faulty k line) → Says k line Else other) → Says k line Else (word_hint (faulty k line) other)
    in_word other plain =
        tell (ends_in_return (faulty k line)) seen.CarriageReturn _ refl (λ e. returns ∙ e) (λ no_return.
        tell (list_any is_strange (faulty k line)) seen.Strange _ refl (λ e. e) (λ none_strange.
        tell (list_any is_quote (faulty k line)) seen.Quotes _ refl (λ e. quotes ∙ e) (λ no_quote.
        tell (list_any is_capital_letter (faulty k line)) seen.Capitals other refl (λ e. e) (λ no_capital.
        plain (record { returns = no_return; strange = none_strange; quotes = no_quote; capitals = no_capital })))))

    in_line : IsOfCommand k → (other : Hint)
        → (is_overlong line ≡ false → begins_signed (first_word (words_of line)) ≡ false → HasNoWordHint (faulty k line) → Says k line Else other)
        → Says k line Else (line_hint line (faulty k line) other)
    in_line is other plain =
        tell (is_overlong line) seen.TooLong _ refl (λ e. e) (λ whole.
        tell (begins_signed (first_word (words_of line))) seen.OfBody _ refl (λ e. (is, e)) (λ unsigned.
        in_word other (plain whole unsigned)))

module _ (line : List ℕ) where
  in_form : {Else : Type 0} → begins_signed (first_word (words_of line)) ≡ false → (HasNoForm line → Else)
      → Says kind.UnknownCommand line Else (form_hint line)
  in_form unsigned free =
      tell kind.UnknownCommand line (begins_with (codes "client") (words_of line)) seen.OfScript _ refl (λ e. (refl, e)) (λ script.
      tell kind.UnknownCommand line (is_record_line line) seen.NoChange _ refl (λ e. (refl, e)) (λ change.
      tell kind.UnknownCommand line (begins_with (codes "whatif") (words_of line)) seen.NoCall _ refl (λ e. (refl, e)) (λ call.
      tell kind.UnknownCommand line (begins_with (codes "help") (words_of line)) seen.NoTopic _ refl (λ e. (refl, e)) (λ topic.
      tell kind.UnknownCommand line (begins_inner line) seen.OfInner seen.Nothing refl (λ e. (refl, e)) (λ inner.
      nothing kind.UnknownCommand line (free (record {
        signed = unsigned;
        of_script = script;
        records = change;
        foresees = call;
        helps = topic;
        inner = inner;
      })))))))

  unsigned : {Else : Type 0} → begins_signed line ≡ false → is_end line ≡ false → is_empty_line line ≡ false
      → Says kind.BadEdit line Else (unsigned_hint line)
  unsigned none_signed no_end some =
      tell kind.BadEdit line (is_returned_end line) seen.CarriageReturn _ refl (returned_end line) (λ none.
      tell kind.BadEdit line (is_capital_end line) seen.Capitals seen.NoSign refl (capital_end line) (λ none.
      record { is_seen = (refl, none_signed, no_end, some); else_so = λ none. absurd (false≢true (ap is_nothing none)) }))

  in_body : Says kind.BadEdit line (ShowsNothing kind.BadEdit line) (edit_hint line)
  in_body =
      tell kind.BadEdit line (is_overlong line) seen.TooLong _ refl (λ e. e) (λ whole.
      tell kind.BadEdit line (is_empty_line line) seen.Empty _ refl (λ e. (refl, e)) (λ some.
      tell kind.BadEdit line (begins_blank line) seen.Blank _ refl (λ e. (refl, e)) (λ none.
      tell kind.BadEdit line (is_end line) seen.NoLine _ refl (λ e. (refl, e)) (λ no_end.
      tell kind.BadEdit line (begins_end line) seen.MoreThanEnd _ refl (λ e. (refl, e)) (λ none.
      tell kind.BadEdit line (begins (codes "-") line) seen.OldAfterNew _ refl (λ e. (refl, e)) (λ minus.
      elim (begins (codes "+") line) as (λ b. begins (codes "+") line ≡ b → Says kind.BadEdit line (ShowsNothing kind.BadEdit line) (cond b seen.Nothing (unsigned_hint line))) [
        | true ↦ λ plus. nothing kind.BadEdit line (whole, plus)
        | false ↦ λ plus. unsigned (no_sign line minus plus) no_end some
      ] refl))))))

says : (k : FaultKind) (line : List ℕ) → Says k line (ShowsNothing k line) (hint k line)
says kind.UnknownCommand line =
    in_line kind.UnknownCommand line refl refl (inl refl) (form_hint line) (λ whole unsigned plain. in_form line unsigned (λ free. (whole, plain, free)))
says kind.BadGroup line =
    in_line kind.BadGroup line refl refl (inr refl) seen.Nothing (λ whole unsigned plain. nothing kind.BadGroup line (whole, unsigned, plain))
says kind.BadName line = in_word kind.BadName line refl refl seen.Nothing (nothing kind.BadName line)
says kind.WrongNumberOfWords line =
    tell kind.WrongNumberOfWords line (list_any is_return (words_of line)) seen.CarriageReturn _ refl (λ e. e) (λ returns.
    tell kind.WrongNumberOfWords line (list_any begins_quoted (words_of line)) seen.Quotes seen.Nothing refl (λ e. e) (λ quotes.
    nothing kind.WrongNumberOfWords line (returns, quotes)))
says kind.BadPath line =
    tell kind.BadPath line (ends_in_return (path_word line)) seen.CarriageReturn _ refl (λ e. e) (λ returns.
    tell kind.BadPath line (list_any is_strange (path_word line)) seen.Strange seen.Nothing refl (λ e. e) (λ strange.
    nothing kind.BadPath line (returns, strange)))
says kind.BadNumber line =
    tell kind.BadNumber line (is_end line) seen.TooFar _ refl (λ e. (refl, e)) (λ end.
    tell kind.BadNumber line (ends_in_return (number_word line)) seen.CarriageReturn _ refl (λ e. e) (λ returns.
    tell kind.BadNumber line (is_zero (number_word line)) seen.Zero _ refl (λ e. e) (λ zero.
    tell kind.BadNumber line (has_zero_in_front line) seen.ZeroInFront seen.Nothing refl
    (and_parts (begins_with (codes "help") (words_of line)) (begins_zero (number_word line))) (λ front.
    nothing kind.BadNumber line (end, returns, zero, front)))))
says kind.BadEdit line = in_body line
says kind.BadLine line = tell kind.BadLine line (is_overlong line) seen.TooLong seen.Nothing refl (λ e. e) (nothing kind.BadLine line)
says other line = nothing other line tt

pub are_seen : HintsAreSeen
are_seen = record { reported = λ k line. (says k line).is_seen; none = λ k line. (says k line).else_so }
