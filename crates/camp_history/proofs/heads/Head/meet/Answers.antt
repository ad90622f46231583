use Rattle.camp_history.proofs.Words.{Ok, Err, refl, Memory}
use Rattle.camp_history.proofs.SynchronisedSeats.{synchronised_seats, all_of_b, just_those_of_b}
use Rattle.camp_history.proofs.heads.Head.meet.Goals as goal

pub returns-in-Ok-clause-synchronises : goal.returns-in-Ok-clause-synchronises
returns-in-Ok-clause-synchronises g c =
    let a = c.args.a in
    let b = c.args.b in
    let synchronised = c.synchronise-b.new.self in
    let a' = c.see_chain_of-answer.new.seat in
    let b' = c.synchronise-b.result in
    let finds = c.synchronise-b.ensures in
    let follows = c.in-Ok.ensures in
    let compared = c.compare.ensures in
    let entries_are = c.show_invariant-2.ensures.entries_are in
    synchronised_seats a b synchronised a' b' finds.self_finds finds.self_marks finds.other_finds finds.other_marks follows.sees_further.more compared.a_shorter compared.b_shorter (Ok tt)
    (all_of_b a b synchronised a' b' finds.self_finds finds.self_marks finds.other_finds finds.other_marks follows.sees_further.more compared.a_shorter compared.b_shorter entries_are finds.one_chain follows.sees_further.ahead follows.whole)
    (just_those_of_b a b synchronised a' b' finds.self_finds finds.self_marks finds.other_finds finds.other_marks follows.sees_further.more compared.a_shorter compared.b_shorter entries_are finds.one_chain follows.sees_further.ahead follows.whole)
    tt

pub returns-in-Err-clause-synchronises : goal.returns-in-Err-clause-synchronises
returns-in-Err-clause-synchronises g c =
    let finds = c.synchronise-b.ensures in
    let compared = c.compare.ensures in
    synchronised_seats c.args.a c.args.b c.synchronise-b.new.self c.see_chain_of-answer.new.seat c.synchronise-b.result finds.self_finds finds.self_marks finds.other_finds finds.other_marks c.in-Err.ensures.sees_further.more compared.a_shorter compared.b_shorter (Err Memory) tt tt refl
