use Rattle.camp_questions.proofs.Words.{◌≡◌, ◌<◌, ◌==◌, ◌++◌, ◌∙◌, ◌||◌, ap, length, list_any, map, subst, sym, AllByRecursion, with_items_is, BecomeMarked, hash_count, is_marked, catch_hash, TakenOut}
use Rattle.std.specs.Vec.{with_items}
use Rattle.camp_questions.proofs.FileMarks.{joined_going, numbers_within}
use Rattle.camp_questions.proofs.fast.taken_out.take_out.Goals as goal

pub mark_numbers-requires : goal.mark_numbers-requires
mark_numbers-requires c =
    let long : length c.deref_mut.result.now ≡ hash_count = ap length c.deref_mut.ensures.value ∙ c.requires.marked.long in
    let numbers : c.deref-2.result.now ≡ map catch_hash c.args.patch.now.catches.items = c.deref-2.ensures.value ∙ c.requires.files.numbers in
    subst (AllByRecursion (λ number. number < length c.deref_mut.result.now)) (sym numbers) (subst (λ many. AllByRecursion (λ number. number < many) (map catch_hash c.args.patch.now.catches.items)) (sym long) (numbers_within c.args.patch.now.catches.items))

pub returns-clause-marked : goal.returns-clause-marked
returns-clause-marked c =
    let old : TakenOut = c.args.going.now in
    let new : TakenOut = record { catches = c.append.new.list; files = with_items old.files c.mark_numbers.new.marks } in
    let same = c.mark_numbers.auto.marks ∙ ap length c.deref_mut.ensures.value in
    let written = with_items_is old.files c.mark_numbers.new.marks (same ∙ sym old.files.ok.0) in
    let too : BecomeMarked old.files.items (map catch_hash c.args.patch.now.catches.items) new.files.items =
    λ number. ap (λ l. is_marked l number) written ∙ c.mark_numbers.ensures number ∙ (λ i. is_marked (c.deref_mut.ensures.value i) number || list_any (λ other. number == other) ((c.deref-2.ensures.value ∙ c.requires.files.numbers) i)) in
    let goes : new.catches.items ≡ old.catches.items ++ c.args.patch.now.catches.items = c.in_ok-append.ensures ∙ ap (λ l. old.catches.items ++ l) c.deref.ensures.value in
    joined_going old new c.args.patch.now.catches.items c.requires.marked c.requires.files.plain (ap length written ∙ same) too goes
