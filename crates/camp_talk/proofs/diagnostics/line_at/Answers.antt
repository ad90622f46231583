use Rattle.std.proofs.Common.{unwrap_or}
use Rattle.std.proofs.lemmas.Iterator.Consumers.{YieldsList-from_first, nth_from_yields_List}
use Rattle.std.specs.Prelude.{option_map}
use Rattle.camp_talk.proofs.Words.{◌≡◌, ◌∙◌, ◌-◌, ap, drop, first_of, lines_of, lines_without_end, map, refl, sym, without_end, []}
use Rattle.camp_talk.proofs.NotDone.{stands_at}
use Rattle.camp_talk.specs.Diagnostics.{line_at}
use Rattle.camp_talk.proofs.diagnostics.line_at.Goals.{After-nth}
use Rattle.camp_talk.proofs.diagnostics.line_at.Goals as goal

-- the line at the index
there : (c : After-nth) → without_end (unwrap_or (option_map (λ line. line.now) c.nth.result) []) ≡ line_at c.args.number (lines_of c.args.command.now)
there c =
    let lines = c.lines_with_terminator.result in
    ap (λ found. without_end (unwrap_or found [])) (nth_from_yields_List _ _ _ c.nth.ensures.ran (YieldsList-from_first (λ line. line.now) (λ rest. rest) lines refl))
    ∙ stands_at lines c.saturating_sub-before.result
    ∙ ap (λ n. first_of (drop n (map without_end lines))) c.saturating_sub-before.ensures
    ∙ ap (λ ls. first_of (drop (c.args.number - 1) ls)) (ap (map without_end) c.lines_with_terminator.ensures.value ∙ lines_without_end c.args.command.now)

pub returns-in-Some : goal.returns-in-Some
returns-in-Some c =
    c.without_end.ensures.exact ∙ ap (λ found. without_end (unwrap_or (option_map (λ line. line.now) found) [])) (sym c.in-Some.is) ∙ there (goal.at.returns-in-Some c).After-nth

pub returns-in-None : goal.returns-in-None
returns-in-None c =
    ap (λ found. without_end (unwrap_or (option_map (λ line. line.now) found) [])) (sym c.in-None.is) ∙ there (goal.at.returns-in-None c).After-nth
