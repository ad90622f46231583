use Rattle.camp_script.proofs.Common.{ap, sym, ◌∙◌, append-nil, arith, subst, take_all, AllByRecursion, CanBeInScript, calls_of, section_text}
use Rattle.camp_script.proofs.WrittenLemmas.{one_more_call}
use Rattle.camp_script.proofs.writing.kept_text.Goals as goal

pub loop-entry-preserved : goal.loop-entry-preserved
loop-entry-preserved c =
    one_more_call c.loop-entry.text.items c.append_call.new.text.items c.args.history.now c.loop-entry.entry-index c.entry-item.result (omega arith) c.entry-item.is c.loop-entry.invariant
    c.in_ok-append_call.ensures.text c.in_ok-append_call.ensures.stands

pub returns-clause-text : goal.returns-clause-text
returns-clause-text c =
    c.loop-entry.invariant.0 ∙ ap (λ h. section_text (calls_of h)) (take_all c.loop-entry.entry-index c.args.history.now (omega arith)) ∙ sym (append-nil (section_text (calls_of c.args.history.now)))

pub returns-clause-stand : goal.returns-clause-stand
returns-clause-stand c =
    subst (λ h. AllByRecursion CanBeInScript (calls_of h)) (take_all c.loop-entry.entry-index c.args.history.now (omega arith)) c.loop-entry.invariant.1
