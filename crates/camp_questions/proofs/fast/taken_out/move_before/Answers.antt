use Rattle.camp_questions.proofs.Words.{List, ◌≡◌, ◌∙◌, ap, list_any, map, not, refl, sym, true, Catch, is_marked, catch_hash, TakenOut}
use Rattle.camp_questions.proofs.FileMarks.{all_pass, still_marked_after}
use Rattle.camp_questions.proofs.PartsArranged.{all_came}
use Rattle.camp_questions.proofs.fast.taken_out.move_before.Goals as goal

pub returns-then-not-is_any_marked-clause-aside : goal.returns-then-not-is_any_marked-clause-aside
returns-then-not-is_any_marked-clause-aside c =
    let list : List Catch = c.args.patch.now.catches.items in
    let free : not (list_any (is_marked c.args.going.now.files.items) (map catch_hash list)) ≡ true =
    ap not (sym (λ i. list_any (is_marked (c.deref.ensures.value i)) ((c.deref-2.ensures.value ∙ c.requires.files.numbers) i)) ∙ sym c.is_any_marked.ensures ∙ c.if-not-is_any_marked.true) in
    (list, all_came c.args.patch.now.name c.args.going.now.catches.items list c.requires.own (all_pass c.args.going.now.files.items c.args.patch.now.name c.args.going.now.catches.items list c.requires.marked.marked c.requires.apart c.requires.files.plain c.requires.own free))

pub returns-clause-marked : goal.returns-clause-marked
returns-clause-marked c =
    let new : TakenOut = record { catches = c.move_before_taken_out.new.going; files = c.args.going.now.files } in
    still_marked_after c.move_before_taken_out.result c.args.patch.now.name c.args.patch.now.catches.items c.args.going.now new c.requires.marked c.requires.files.plain c.requires.own refl c.move_before_taken_out.ensures
