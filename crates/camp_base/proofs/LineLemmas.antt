-- Replaces lines by others.
use Rattle.camp_base.proofs.Words.{◌≡◌, ◌↔◌, ℕ, ◌+◌, ◌-◌, ◌<◌, ◌≤◌, Bool, ◌++◌, length, take, drop, eqb, IsTrue, sym, ap, ◌∙◌, refl, arith, append_assoc, length-append, take-append-drop, drop-drop, drop_at, take_at, length-take-le, Decides-eqb, slice_eq-Decides, pointwise, splice, Lines, SplicesLines, StandsAt}

pub lines_told : (line : ℕ) (front lines : Lines) (told : Bool) → 0 < line → line - 1 ≤ length lines → told ≡ pointwise (pointwise eqb) (take (length front) (drop (line - 1) lines)) front → IsTrue told ↔ StandsAt line front lines
lines_told line front lines told positive within answers =
    let decided = slice_eq-Decides (λ l m. slice_eq-Decides Decides-eqb l m _ refl) (take (length front) (drop (line - 1) lines)) front _ refl in (
      λ true. record { positive = positive; within = within; same = decided.0 (sym answers ∙ true) },
      λ at. answers ∙ decided.1 at.same,
    )

-- if the old lines are there, they can be replaced by the new ones
pub spliced : (line : ℕ) (gone come lines : Lines) → StandsAt line gone lines → SplicesLines line gone come lines (splice lines (line - 1) (line - 1 + length gone) come)
spliced line gone come lines at =
    let start = line - 1 in
    let behind : drop start lines ≡ gone ++ drop (start + length gone) lines = sym (take-append-drop (length gone) (drop start lines)) ∙ (λ j. at.same j ++ drop-drop (length gone) start lines j) in
    record {
      before = take start lines;
      after = drop (start + length gone) lines;
      at = (let size = length-take-le start lines at.within in let positive = at.positive in omega arith);
      was = sym (take-append-drop start lines) ∙ ap (λ (ls : Lines). take start lines ++ ls) behind ∙ sym (append_assoc (take start lines) gone (drop (start + length gone) lines));
      becomes = sym (append_assoc (take start lines) come (drop (start + length gone) lines));
    }

-- if they are not there, nothing can be replaced
pub stands : (line : ℕ) (gone come lines any : Lines) → SplicesLines line gone come lines any → StandsAt line gone lines
stands line gone come lines any splices =
    let size : length splices.before ≡ line - 1 = (let at = splices.at in omega arith) in
    let is : lines ≡ splices.before ++ (gone ++ splices.after) = splices.was ∙ append_assoc splices.before gone splices.after in
    let long = ap length is ∙ length-append splices.before (gone ++ splices.after) in
    record {
      positive = (let at = splices.at in omega arith);
      within = omega arith;
      same = ap (λ ls. take (length gone) (drop (line - 1) ls)) is ∙ ap (take (length gone)) (drop_at splices.before (gone ++ splices.after) (line - 1) size) ∙ take_at gone splices.after (length gone) refl;
    }
