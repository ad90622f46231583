use Rattle.camp_row.proofs.Words.{arith, ◌≡◌, ◌==◌, ◌+◌, ◌++◌, ◌∷◌, [], subst, refl, sym, ap, ◌∙◌, eq-eqb, MatchBool-at_true, either, Entry, head_word, IsDrafted, Part, part, drafted_part, won_part, WonPart, LostPart, Tried}
use Rattle.camp_row.proofs.Cells.{head_word-push, entry_count_push, fits_push, fits_prefix}
use Rattle.camp_row.proofs.Publishing.{publishes}
use Rattle.camp_row.proofs.PassOfRow.{at_part, at_own, steps_in, prefix_refl}
use Rattle.camp_row.proofs.rows.Row.publish.Goals as goal

pub compare_exchange-found-requires : goal.compare_exchange-found-requires
compare_exchange-found-requires c =
    let at = at_own c.pass.inside c.self.inside c.self.invariant c.pass.view_is c.self.view_is c.requires.row c.requires.room c.own_cell.ensures.cell c.own_cell.ensures.in_row in
    let key = c.self.inside.table.shared.key in
    let p : Part = part c.pass.inside in
    let drafted : p.parent ≡ head_word p.seats p.seen = subst IsDrafted (sym c.pass.view_is) c.requires.drafted in
    steps_in c.self.inside c.pass.inside.seat at.of.table (λ n. either (n == c.pass.inside.last) (c.own_cell.result + 1) n) (Tried c.pass.inside.last) (omega arith) c.pass.invariant.alone
    (publishes key.seats key.per_seat c.pass.inside.seat.id p at.room c.pass.invariant.sound.prefix drafted c.pass.inside.last (c.own_cell.result + 1) c.pass.invariant.last (ap (λ n. n + 1) at.own))

pub invariant_of-pass-2 : goal.invariant_of-pass-2
invariant_of-pass-2 c =
    let at = at_own c.pass.inside c.self.inside c.self.invariant c.pass.view_is c.self.view_is c.requires.row c.requires.room c.own_cell.ensures.cell c.own_cell.ensures.in_row in
    let p : Part = part c.pass.inside in
    let e : Entry = drafted_part p in
    let was = c.pass.invariant in
    let found = c.compare_exchange-found.result in
    let new = c.compare_exchange-found.new.seat.me.0.parts in
    let won : WonPart p new =
    MatchBool-at_true (WonPart p new) (LostPart found p new) (eq-eqb found c.pass.inside.last c.if-found-pass.false) c.compare_exchange-found.ensures.2.1 in
    let named : c.own_cell.result + 1 ≡ head_word p.seats (p.seen ++ e ∷ []) = ap (λ n. n + 1) at.own ∙ sym (head_word-push p.seats p.seen e) in
    at_part _ (won_part p) (record {
      alone = won.is;
      no_slot = c.compare_exchange-found.ensures.2.0 ∙ was.no_slot;
      number = was.number;
      published = ap (λ n. n + 1) was.published ∙ sym (entry_count_push e p.seen);
      last = named;
      head = named;
      number_below = was.number_below;
      published_within = omega arith;
      sound = record {
        prefix = prefix_refl (p.seen ++ e ∷ []);
        own_seen = refl;
        fits = fits_push p.seats p.per_seat p.seen e (fits_prefix p.seats p.per_seat p.seen p.ahead was.sound.prefix was.sound.fits) was.number_below at.room;
      };
    })
