use Rattle.camp_prim.proofs.Words.{sym}
use Rattle.camp_prim.proofs.Moving.{comes_along, comes_below, no_place}
use Rattle.camp_prim.proofs.commuting.hunk_targets.Goals as goal

pub returns-in-Some : goal.returns-in-Some
returns-in-Some c =
    comes_below _ _ _ c.requires.path c.requires.first c.requires.second (comes_along _ _ _ _ _ _ _ _ c.line.ensures.value c.old_len.ensures c.new_len.ensures c.in-Some.ensures)

pub returns : goal.returns
returns c = no_place _ _ c.requires.path
    (λ line there. c.in_default.ensures line (comes_along _ _ _ _ _ _ _ _ (sym c.line.ensures.value) (sym c.old_len.ensures) (sym c.new_len.ensures) there))
    (λ line there. c.in_default-line_below.ensures line (comes_along _ _ _ _ _ _ _ _ (sym c.line-2.ensures.value) (sym c.new_len-2.ensures) (sym c.old_len-2.ensures) there))
