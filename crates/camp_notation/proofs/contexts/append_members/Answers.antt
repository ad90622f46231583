use Rattle.camp_notation.proofs.Common.{arith, string_bytes, values, contexted_text}
use Rattle.camp_ctx.proofs.SetSteps.{count_of_members}
use Rattle.camp_notation.proofs.RowLemmas.{one_more, no_item, all_items}
use Rattle.camp_notation.proofs.contexts.append_members.Goals as goal

pub unreachable-requires : goal.unreachable-requires
unreachable-requires c =
    no_item (values c.args.xs.now) c.loop-at.at (omega (arith, c.len-at-end.ensures.value, c.loop-at-test.true, count_of_members c.args.xs.now)) c.in_default.ensures.exact

pub loop-at-preserved : goal.loop-at-preserved
loop-at-preserved c =
    one_more (contexted_text c.args.known.now) (values c.args.xs.now) c.loop-at.at _ (string_bytes c.args.text.now) (string_bytes c.loop-at.text) (string_bytes c.append_separator.new.text) (string_bytes c.append_contexted.new.text)
    c.loop-at.invariant c.in-Some.ensures.exact c.in_ok-append_separator.ensures c.in_ok-append_contexted.ensures

pub returns : goal.returns
returns c =
    all_items (contexted_text c.args.known.now) (values c.args.xs.now) c.loop-at.at (string_bytes c.args.text.now) (string_bytes c.loop-at.text)
    (omega (arith, c.len-at-end.ensures.value, c.loop-at-test.false, count_of_members c.args.xs.now)) c.loop-at.invariant
