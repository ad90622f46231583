use Rattle.camp_clients.proofs.Words.{[], IfOk-weaker, OneByOne, begun, lists_of, subst}
use Rattle.camp_clients.proofs.one_by_one.serial.Goals as goal

pub returns : goal.returns
returns g c = record {
  serial = IfOk-weaker c.serial_from.result _ _ (λ run serial.
      subst (λ (first : g.row.State.Denot). OneByOne (begun g.State.Object.object first) 0 [] (lists_of c.args.sections.now) (lists_of run.answers.items) run.book.calls)
      c.in_ok-initial.ensures.exact serial) c.serial_from.ensures.serial;
}
