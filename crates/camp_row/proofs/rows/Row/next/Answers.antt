use Rattle.camp_row.proofs.Words.{arith, ◌≡◌, ◌<◌, [], ◌++◌, sym, ap, subst, ◌∙◌, length, vec_len, MatchOption, Option, nil_from_length, append-nil, false≢true, Next, IsNextEntry, cells_back}
use Rattle.camp_row.proofs.TrailSteps.{trail_none, on_top, top_is_on_chain, is_next_entry}
use Rattle.camp_row.proofs.rows.Row.next.Goals as goal

pub returns-in_err-cell-clause-next : goal.returns-in_err-cell-clause-next
returns-in_err-cell-clause-next c =
    let l = c.requires.leads in
    let long = c.trail.inside.cells.ok.0 in
    let zero : length c.trail.inside.cells.items ≡ 0 = omega (arith, (λ (h : 0 < vec_len c.trail.inside.cells). false≢true (c.in_err-cell.ensures.variant.1 h))) in
    let none : cells_back c.args.pass.now.row.seats c.args.pass.now.seen l.left ≡ [] = sym l.cells ∙ (sym c.trail.view_is ∙ nil_from_length c.trail.inside.cells.items zero) in
    let left_is : l.left ≡ [] = trail_none c.args.pass.now.row.seats c.args.pass.now.seen l.left none in
    let same : c.args.pass.now.seen ≡ c.args.pass.now.ahead = sym (append-nil c.args.pass.now.seen) ∙ (ap (λ xs. c.args.pass.now.seen ++ xs) (sym left_is) ∙ l.is) in
    subst (λ (o : Option Next). MatchOption o (c.args.pass.now.seen ≡ c.args.pass.now.ahead) (λ next. IsNextEntry c.args.pass.now next)) (sym c.from_residual.ensures) same

pub entry_of-entry-requires-clause-on_chain : goal.entry_of-entry-requires-clause-on_chain
entry_of-entry-requires-clause-on_chain c = top_is_on_chain (on_top c.trail.view_is c.in_ok-cell.ensures.items c.requires.leads)

pub returns-clause-next : goal.returns-clause-next
returns-clause-next c =
    let top = on_top c.trail.view_is c.in_ok-cell.ensures.items c.requires.leads in
    let entry = c.entry_of-entry.ensures in
    (is_next_entry top (entry.entry (top_is_on_chain top)) entry.sound c.requires.row entry.seat_below).0

pub returns-clause-leads : goal.returns-clause-leads
returns-clause-leads c =
    let top = on_top c.trail.view_is c.in_ok-cell.ensures.items c.requires.leads in
    let entry = c.entry_of-entry.ensures in
    (is_next_entry top (entry.entry (top_is_on_chain top)) entry.sound c.requires.row entry.seat_below).1
