use Rattle.camp_clients.proofs.Words.{sym, ◌∙◌, IfOk-weaker, Ran, lists_of, begun}
use Rattle.camp_clients.proofs.SynchronisedRuns.{zip_granted}
use Rattle.camp_clients.proofs.heads.Run.clients.Goals as goal

pub returns : goal.returns
returns g c = IfOk-weaker c.separate_seats.result _ _ (λ all apart. record {
  brought = apart.pairs;
  ran = zip_granted (λ seat one. Ran (begun g.State.Object.object c.args.self.now.head.now.first) c.args.self.now.head.now (lists_of c.args.self.now.sections.now) seat one.0 one.1.items)
      c.args.seats.items c.in_ok-made.made.items apart.pairs (sym c.in_ok-made.made.ok.0 ∙ c.in_ok-made.ensures.len ∙ c.args.seats.ok.0)
      (λ i d below. let each = (c.in_ok-made.ensures.each i d below).1 in (each.job, (each.job_is, each.call.met))) apart.brought;
  seats = apart.firsts;
  all_answers = apart.seconds;
}) c.separate_seats.ensures
