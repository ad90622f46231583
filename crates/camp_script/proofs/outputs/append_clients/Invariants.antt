use Rattle.camp_script.proofs.Common.{◌≡◌, ◌++◌, take, map, clients_answers}
use Rattle.camp_script.proofs.outputs.append_clients.Given as goal

abbrev pub invariant-loop-answers : goal.invariant-loop-answers
invariant-loop-answers l =
    (l.number ≡ l.answers-index) × (l.text.items ≡ l.fn.text.items ++ clients_answers 1 (map (λ section. section.items) (take l.answers-index l.clients)))
