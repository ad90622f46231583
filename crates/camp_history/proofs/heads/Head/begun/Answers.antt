use Rattle.camp_history.proofs.Words.{◌≡◌, [], map, refl, sym, ◌∙◌, ap, arith, All-map, All-same, unseen, IsSeatOf, new_pass, range_with_len}
use Rattle.std.proofs.lemmas.Simd.{map-map}
use Rattle.camp_history.specs.Opening.{seat_at}
use Rattle.camp_history.proofs.heads.Head.begun.Goals as goal

pub seats_of-requires-clause-seen : goal.seats_of-requires-clause-seen
seats_of-requires-clause-seen g c =
    All-same (λ known. known.seen ≡ []) c.in_ok-row.passes.items (map (new_pass c.in_ok-row.row) (range_with_len 0 c.args.seats)) c.in_ok-row.ensures.passes
    (All-map (λ known. known.seen ≡ []) (new_pass c.in_ok-row.row) (range_with_len 0 c.args.seats) (λ k d lt. refl))

pub returns : goal.returns
returns g c = record {
  opens =
      let head = c.in_ok-head.head in
      let row : c.in_ok-row.row ≡ head.row = sym c.in_ok-head.ensures.0 in
      let first : c.in_ok-first.first ≡ head.first = sym c.in_ok-head.ensures.2 in
      let numbered : c.in_ok-all.all.items ≡ map (seat_at head) (range_with_len 0 c.args.seats) =
      c.in_ok-all.ensures ∙ ap (map (unseen c.in_ok-first.first)) c.in_ok-row.ensures.passes ∙ map-map (unseen c.in_ok-first.first) (new_pass c.in_ok-row.row) (range_with_len 0 c.args.seats)
      ∙ (λ k. map (λ number. unseen (first k) (new_pass (row k) number)) (range_with_len 0 c.args.seats)) in (
        c.are_head_sizes.ensures.0 c.if-not-are_head_sizes.false,
        record {
          begins_with = sym first ∙ c.in_ok-first.ensures.exact;
          has_seats = ap (λ row. row.seats) (sym row) ∙ c.in_ok-row.ensures.row.0;
          has_calls = ap (λ row. row.per_seat) (sym row) ∙ c.in_ok-row.ensures.row.1;
          has_tries = c.in_ok-head.ensures.1;
          all = numbered;
          are_seats =
              All-same (IsSeatOf head) c.in_ok-all.all.items (map (seat_at head) (range_with_len 0 c.args.seats)) numbered (
              All-map (IsSeatOf head) (seat_at head) (range_with_len 0 c.args.seats) (λ k d below. record { first = refl; row = refl; stored = λ i mark none. absurd (omega arith); bases = λ i base none. absurd (omega arith) })
              );
        },
      );
}
