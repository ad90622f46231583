use Rattle.camp_row.proofs.Words.{arith, ◌≡◌, ◌<◌, ◌∷◌, [], ◌++◌, refl, sym, ap, subst, ◌∙◌, zero-add, RowId, new_pass, part_of, known_of, fresh}
use Rattle.std.proofs.lemmas.List.FromFn.{map-range_with_len_more}
use Rattle.camp_row.proofs.Splitting.{first_left}
use Rattle.camp_row.proofs.PassOfRow.{at_part, splits_in, prefix_nil, no_cut}
use Rattle.camp_row.proofs.rows.Row.make_passes.Goals as goal

pub split_seat-seat-requires : goal.split_seat-seat-requires
split_seat-seat-requires c = splits_in c.self.inside c.loop-number.all (c.loop-number.invariant.table ∙ ap (λ (r : RowId). r.table) (sym c.self.view_is)) c.self.invariant

pub invariant_of-push : goal.invariant_of-push
invariant_of-push c =
    let seats = c.args.self.now.seats in
    let per_seat = c.args.self.now.per_seat in
    let n = c.loop-number.number in
    let row_seats : c.self.inside.seats ≡ seats = ap (λ (r : RowId). r.seats) c.self.view_is in
    let below : n < seats = subst (λ s. n < s) row_seats c.loop-number-test.true in
    let first = (first_left seats per_seat n c.loop-number.all.me.0.parts below c.loop-number.invariant.parts).0 in
    let me = c.split_seat-seat.ensures.4 in
    at_part _ (fresh seats per_seat n) (record {
      alone = ap (λ m. m.0.parts) me ∙ first;
      no_slot = ap (λ m. m.1) me;
      number = refl;
      published = refl;
      last = refl;
      head = refl;
      number_below = below;
      published_within = omega arith;
      sound = record { prefix = prefix_nil []; own_seen = refl; fits = λ before e after cut. absurd (no_cut before e after cut) };
    })

pub loop-number-preserved : goal.loop-number-preserved
loop-number-preserved c =
    let row = c.args.self.now in
    let n = c.loop-number.number in
    let row_seats : c.self.inside.seats ≡ row.seats = ap (λ (r : RowId). r.seats) c.self.view_is in
    let below : n < row.seats = subst (λ s. n < s) row_seats c.loop-number-test.true in
    let left = first_left row.seats row.per_seat n c.loop-number.all.me.0.parts below c.loop-number.invariant.parts in
    let split = c.split_seat-seat.ensures in
    let pass_is : known_of c.split_seat-seat.result.table_id (part_of c.split_seat-seat.result.me.0.parts) ≡ new_pass row n =
    (λ k. known_of ((split.3 ∙ c.loop-number.invariant.table) k) (part_of ((ap (λ m. m.0.parts) split.4 ∙ left.0) k))) in record {
      table = split.0 ∙ c.loop-number.invariant.table;
      parts = ap (λ m. m.0.parts) split.2 ∙ left.1;
      made_so_far = c.in_ok-push.ensures.items ∙ ((λ k. c.loop-number.invariant.made_so_far k ++ pass_is k ∷ []) ∙ sym (map-range_with_len_more (new_pass row) 0 n n (zero-add n)));
    }
