use Rattle.camp_share.proofs.Words.{T, ap, sym, subst, refl, ◌∙◌, insert, is_sorted}
use Rattle.camp_share.proofs.Entries.{present}
use Rattle.camp_share.proofs.MapLemmas.{get_is, insertion, missing}
use Rattle.camp_share.proofs.maps.MapBuilder.insert_if_absent.Goals as goal

pub returns-in-Ok-clause-exact : goal.returns-in-Ok-clause-exact
returns-in-Ok-clause-exact g c =
    let R = g.K.Ord.cmp in
    let es = c.deref.result.now in
    let sorted = subst (λ xs. T (is_sorted R xs)) (sym c.deref.ensures.value) c.self.invariant in
    let there = get_is R g.met.K.Ord.total es c.args.self.now (c.deref.ensures.value ∙ c.self.view_is) sorted c.args.key ∙ present R g.met.K.Ord.total es c.args.key _ (c.args.key, c.args.value) c.in-Ok.ensures.found sorted in
    rw there refl

pub invariant_of-self-in-Err : goal.invariant_of-self-in-Err
invariant_of-self-in-Err g c =
    let R = g.K.Ord.cmp in
    let es = c.deref.result.now in
    let sorted = subst (λ xs. T (is_sorted R xs)) (sym c.deref.ensures.value) c.self.invariant in
    (insertion R g.met.K.Ord.total es c.args.self.now (c.deref.ensures.value ∙ c.self.view_is) sorted (c.args.key, c.args.value) c.in-Err.place c.insert.new.self.items c.in-Err.ensures.absent (c.in_ok-insert-in-Err.ensures.items ∙ ap (λ xs. insert xs c.in-Err.place (c.args.key, c.args.value)) (sym c.deref.ensures.value))).0

pub returns-in_ok-insert-in-Err-clause-exact : goal.returns-in_ok-insert-in-Err-clause-exact
returns-in_ok-insert-in-Err-clause-exact g c =
    let R = g.K.Ord.cmp in
    let es = c.deref.result.now in
    let is = c.deref.ensures.value ∙ c.self.view_is in
    let sorted = subst (λ xs. T (is_sorted R xs)) (sym c.deref.ensures.value) c.self.invariant in
    let none = missing R g.met.K.Ord.total es c.args.self.now is sorted c.args.key c.in-Err.place c.in-Err.ensures.absent in
    let made = insertion R g.met.K.Ord.total es c.args.self.now is sorted (c.args.key, c.args.value) c.in-Err.place c.insert.new.self.items c.in-Err.ensures.absent (c.in_ok-insert-in-Err.ensures.items ∙ ap (λ xs. insert xs c.in-Err.place (c.args.key, c.args.value)) (sym c.deref.ensures.value)) in
    rw none made.1
