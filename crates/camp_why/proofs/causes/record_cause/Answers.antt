use Rattle.camp_why.proofs.Words.{ap, rules, sym, ◌≡◌, ◌∙◌}
use Rattle.camp_why.proofs.Causing.{stops_in}
use Rattle.camp_why.specs.Causes.{record_cause, stop_cause}
use Rattle.camp_why.proofs.causes.record_cause.Goals as goal

pub returns : goal.returns
returns c =
    let reported : c.map.result ≡ stop_cause c.in_ok-stop.stop = search rules in
    reported
    ∙ stops_in c.args.state.now.limits.catches c.in_Some-branch.branch.now c.args.changes.now c.tree.result.now (search rules) (sym c.in_ok-long.ensures ∙ c.in_default.is) c.tree.ensures.exact
    c.in_ok-stop.stop c.in_ok-stop.ensures
    ∙ ap (record_cause c.args.state.now.limits.catches c.args.changes.now) (sym c.in_Some-branch.ensures.value)
