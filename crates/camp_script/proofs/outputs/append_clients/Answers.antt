use Rattle.camp_script.proofs.Common.{◌<◌, ◌+◌, refl, ap, subst, ◌∙◌, ◌++◌, ◌∷◌, [], sym, take, map, length, arith, take_more, take_all, All, append_assoc, codes, decimal, line_text, answers_text, client_answers, clients_answers, HasText}
use Rattle.camp_script.proofs.HistoryLemmas.{one_more, section_has_texts}
use Rattle.camp_script.proofs.outputs.append_clients.Goals as goal

pub loop-answers-preserved : goal.loop-answers-preserved
loop-answers-preserved c =
    let within : c.loop-answers.answers-index < length c.args.clients.now = omega arith in
    let last = take_more c.args.clients.now c.loop-answers.answers-index c.answers-item.result within ∙ ap (λ x. take c.loop-answers.answers-index c.args.clients.now ++ x ∷ []) (sym c.answers-item.is) in (
      ap (λ n. n + 1) c.loop-answers.invariant.0,
      one_more c.args.clients.now (λ n section. client_answers n section.items) (λ n sections. clients_answers n (map (λ section. section.items) sections)) (λ n. refl) (λ n section sections. refl) c.args.text.now.items c.loop-answers.text.items c.append_answers.new.text.items c.loop-answers.answers-index c.answers-item.result c.loop-answers.invariant.1 within last
          (c.in_ok-append_answers.ensures ∙ ap (λ t. t ++ answers_text c.deref.result.now) c.in_ok-append_count.ensures
          ∙ append_assoc c.loop-answers.text.items (line_text (codes "client" ∷ decimal (c.loop-answers.number + 1) ∷ [])) (answers_text c.deref.result.now)
          ∙ ap (λ n. c.loop-answers.text.items ++ client_answers (n + 1) c.deref.result.now) c.loop-answers.invariant.0
          ∙ ap (λ xs. c.loop-answers.text.items ++ client_answers (c.loop-answers.answers-index + 1) xs) c.deref.ensures.value),
    )

pub append_answers-requires : goal.append_answers-requires
append_answers-requires c =
    let within : c.loop-answers.answers-index < length c.args.clients.now = omega arith in
    subst (All HasText) (sym c.deref.ensures.value)
    (section_has_texts (λ section. section.items) c.args.clients.now c.loop-answers.answers-index c.answers-item.result c.answers-item.result c.requires within c.answers-item.is)

pub returns : goal.returns
returns c =
    c.loop-answers.invariant.1 ∙ ap (λ xs. c.args.text.now.items ++ clients_answers 1 (map (λ section. section.items) xs)) (take_all c.loop-answers.answers-index c.args.clients.now (omega arith))
