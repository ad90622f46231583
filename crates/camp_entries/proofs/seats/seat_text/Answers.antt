use Rattle.std.proofs.Common.{◌≡◌, ◌++◌, ◌∷◌, ◌/◌, suc, sym, ap, ◌∙◌, arith}
use Rattle.camp_entries.specs.Texts.{hex_digits}
use Rattle.camp_entries.proofs.SeatLemmas.{all_digits, one_more}
use Rattle.camp_entries.proofs.seats.seat_text.Goals as goal

pub loop-preserved : goal.loop-preserved
loop-preserved c =
    let within = c.loop-test.true in (
      omega (arith, within),
      λ count is.
          one_more count c.loop.rest c.hex_digit.result c.args.seat c.loop.text.items c.hex_digit.ensures (c.loop.invariant.1 (suc count) (omega (arith, is)))
          ∙ ap (λ t. hex_digits count (c.loop.rest / 16) ++ t) (sym c.in_ok-insert.ensures.items),
    )

pub returns : goal.returns
returns c = let all = c.loop-test.false in let few = c.loop.invariant.0 in all_digits c.loop.rest c.args.seat c.loop.text.items (c.loop.invariant.1 0 (omega (arith, all, few)))
