use Rattle.camp_clients.proofs.Words.{length, sym, ◌∙◌, ap, arith, AllZip, SaysSomewhere, lists_of, section_of, begun}
use Rattle.camp_clients.proofs.Gathering.{gathered, gathered_first, gathered_length, gathers_here}
use Rattle.camp_clients.proofs.OneSection.{has_opening}
use Rattle.camp_clients.proofs.Vectors.{length-lists_of, section_at}
use Rattle.camp_clients.proofs.locks.locked_from.Goals as goal

pub has_exactly-requires-clause-as_many : goal.has_exactly-requires-clause-as_many
has_exactly-requires-clause-as_many g c = ap length c.deref-2.ensures.value
    ∙ gathered_length c.in_ok-opening.opening c.in_ok-clients.clients.items c.in_ok-answers.answers.items (gathers_here c.in_ok-opened.ensures.items c.in_ok-answers.ensures)
    ∙ c.in_ok-clients.ensures.as_many

pub returns : goal.returns
returns g c =
    let begins = c.has_first.ensures.exact.0 c.if-not-has_first.false ∙ c.requires.is_same in
    record {
      begins = begins;
      locked =
          let object = begun g.State.Object.object c.args.first in
          let sections = lists_of c.args.sections.now in
          let gathers = gathers_here c.in_ok-opened.ensures.items c.in_ok-answers.ensures in
          let as_many = gathered_length c.in_ok-opening.opening c.in_ok-clients.clients.items c.in_ok-answers.answers.items gathers ∙ c.in_ok-clients.ensures.as_many in
          let exactly = rw (c.deref-2.ensures.value, c.history.ensures.value) at (c.has_exactly.ensures.exact.0 c.if-not-has_exactly.false) in
          let calls = c.deref.ensures.value ∙ sym (section_at c.args.sections.now 0 c.index-sections-0.result (omega arith) c.index-sections-0.is) in
          let first = gathered_first c.in_ok-opening.opening c.in_ok-clients.clients.items c.in_ok-answers.answers.items gathers in
          let section = rw (c.begun-book.ensures.exact, calls, ← first) at c.in_ok-opening.ensures.section in
          record {
            legal = rw begins at c.history.ensures.legal;
            as_many = length-lists_of c.in_ok-answers.answers.items ∙ as_many ∙ sym (length-lists_of c.args.sections.now);
            exactly = exactly;
            opening = has_opening object _ _ _ _ section (exactly.own_done 0 (omega (arith, length-lists_of c.args.sections.now)));
            clients = λ seat some below. rw c.requires.is_same at (gathered c.in_ok-opening.opening c.in_ok-clients.clients.items c.in_ok-answers.answers.items gathers
                (λ seat own. AllZip (SaysSomewhere (begun g.State.Object.object c.args.same.now)) (section_of sections seat) own)
                c.in_ok-clients.ensures.each seat some (omega (arith, c.in_ok-clients.ensures.as_many, length-lists_of c.args.sections.now)));
          };
    }
