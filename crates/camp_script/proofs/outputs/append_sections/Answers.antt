use Rattle.camp_script.proofs.Common.{◌<◌, length, subst, sym, arith, All, HasText}
use Rattle.camp_script.proofs.HistoryLemmas.{rest_have_texts, section_has_texts}
use Rattle.camp_script.proofs.outputs.append_sections.Goals as goal

pub append_answers-requires : goal.append_answers-requires
append_answers-requires c =
    let within : 0 < length c.args.sections.now = omega (arith, c.in-len1-up.len_at_least) in
    subst (All HasText) (sym c.deref.ensures.value)
    (section_has_texts (λ section. section.items) c.args.sections.now 0 c.opening-item.result c.opening-item.result c.requires within c.opening-item.is)

pub append_clients-requires : goal.append_clients-requires
append_clients-requires c = rest_have_texts (λ section. section.items) c.args.sections.now c.requires
