use Rattle.camp_questions.proofs.Words.{List, ◌≡◌, ◌-◌, ◌<◌, ◌≤◌, ◌∙◌, AllByRecursion, ap, arith, drop, filter, get_or, inl, length, map, not, refl, subst, sym, true, false, ℕ, get_or_default, NoneBeforeDepends, name_at_index, needs_index, indexes_below, Needed}
use Rattle.camp_questions.proofs.PlacedNeeds.{all_past, ends_settled, first_is_least, goes_past, left_over, places_inside, starts_at, stays_past}
use Rattle.camp_questions.proofs.nodes.direct_needs.Goals as goal

pub loop-settled-init : goal.loop-settled-init
loop-settled-init c =
    record {
      within = c.end_of_needed-left.ensures.within;
      places = starts_at c.args.names.now c.args.all.now c.requires.named c.requires.distinct c.args.at c.args.patch.now c.args.patch.now c.requires.within c.requires.is c.in_ok-places.places.items c.end_of_needed-left.result c.end_of_needed-left.ensures.within (λ k past less. ap (λ m. needs_index m c.args.at k) (sym c.deref.ensures.value) ∙ c.end_of_needed-left.ensures.none k past less) (c.in_ok-places.ensures ∙ ap (λ m. filter (needs_index m c.args.at) (indexes_below c.end_of_needed-left.result)) c.deref-2.ensures.value);
      settled = inl refl;
    }

pub leave_out-requires : goal.leave_out-requires
leave_out-requires c =
    subst (λ l. AllByRecursion (λ k. get_or l 0 0 ≤ k) l) (sym c.loop-settled.invariant.places) (first_is_least (left_over c.args.names.now c.args.patch.now (drop c.loop-settled.left c.args.all.now)) (length c.args.names.now))

pub first_that_may_depend-settled-requires : goal.first_that_may_depend-settled-requires
first_that_may_depend-settled-requires c =
    let names : List (List ℕ) = c.args.names.now in
    let p : Needed = c.args.patch.now in
    let i = c.loop-settled.left - 1 in
    let before = c.loop-settled.invariant.within in
    let needed : needs_index p.needs.items c.args.at i ≡ true = ap (λ m. needs_index m c.args.at i) (sym c.deref-in-loop-settled.ensures.value) ∙ sym c.needs.ensures ∙ c.if-needs.true in
    let are = c.leave_out.ensures ∙ ap (λ m. filter (λ k. not (needs_index m i k)) c.loop-settled.places.items) (c.deref-then-needs.ensures.value ∙ ap (λ (x : Needed). x.needs.items) (sym c.index-all-left.is)) in
    let gone = goes_past names c.args.all.now c.requires.named c.requires.distinct c.args.at p p c.requires.within c.requires.is c.loop-settled.places.items c.loop-settled.left i c.index-all-left.result c.index-all-left.result (omega arith) (omega (arith, before)) c.index-all-left.is c.loop-settled.invariant.places c.leave_out.new.places.items needed are in
    subst (λ l. AllByRecursion (λ k. get_or l 0 0 ≤ k) l) (sym (c.deref-then-needs-2.ensures.value ∙ gone)) (first_is_least (left_over names p (drop i c.args.all.now)) (length names))

pub loop-settled-preserved-then-needs : goal.loop-settled-preserved-then-needs
loop-settled-preserved-then-needs c =
    let p : Needed = c.args.patch.now in
    let i = c.loop-settled.left - 1 in
    let before = c.loop-settled.invariant.within in
    let needed : needs_index p.needs.items c.args.at i ≡ true = ap (λ m. needs_index m c.args.at i) (sym c.deref-in-loop-settled.ensures.value) ∙ sym c.needs.ensures ∙ c.if-needs.true in
    let are = c.leave_out.ensures ∙ ap (λ m. filter (λ k. not (needs_index m i k)) c.loop-settled.places.items) (c.deref-then-needs.ensures.value ∙ ap (λ (x : Needed). x.needs.items) (sym c.index-all-left.is)) in
    record {
      within = omega (arith, before);
      places = goes_past c.args.names.now c.args.all.now c.requires.named c.requires.distinct c.args.at p p c.requires.within c.requires.is c.loop-settled.places.items c.loop-settled.left i c.index-all-left.result c.index-all-left.result (omega arith) (omega (arith, before)) c.index-all-left.is c.loop-settled.invariant.places c.leave_out.new.places.items needed are;
      settled = subst (λ l. NoneBeforeDepends c.args.in_place l c.first_that_may_depend-settled.result) c.deref-then-needs-2.ensures.value c.first_that_may_depend-settled.ensures;
    }

pub loop-settled-preserved : goal.loop-settled-preserved
loop-settled-preserved c =
    let all : List Needed = c.args.all.now in
    let p : Needed = c.args.patch.now in
    let i = c.loop-settled.left - 1 in
    let before = c.loop-settled.invariant.within in
    let needless : needs_index p.needs.items c.args.at i ≡ false = ap (λ m. needs_index m c.args.at i) (sym c.deref-in-loop-settled.ensures.value) ∙ sym c.needs.ensures ∙ c.if-needs.false in
    let q : Needed = get_or all i p in
    let inside : i < length all = omega (arith, before) in
    let there : q ≡ get_or all i q = get_or_default all i p q inside in
    record {
      within = omega (arith, before);
      places = stays_past c.args.names.now all c.requires.named c.requires.distinct c.args.at p p c.requires.within c.requires.is c.loop-settled.places.items c.loop-settled.left i q q (omega arith) inside there c.loop-settled.invariant.places needless;
      settled = c.loop-settled.invariant.settled;
    }

pub names_at-requires : goal.names_at-requires
names_at-requires c =
    rw c.deref-3.ensures.value (places_inside c.args.names.now c.args.all.now c.requires.named c.requires.distinct c.args.at c.args.patch.now c.args.patch.now c.requires.within c.requires.is c.loop-settled.places.items c.loop-settled.left c.loop-settled.invariant.places)

pub returns : goal.returns
returns c =
    let names : List (List ℕ) = c.args.names.now in
    let p : Needed = c.args.patch.now in
    let whole = ends_settled names c.args.all.now c.requires.named c.requires.distinct c.args.at p p c.requires.within c.requires.is c.args.in_place c.loop-settled.places.items c.loop-settled.left c.loop-settled.settled c.requires.ends (omega (arith, c.loop-settled-test.false)) c.loop-settled.invariant.within c.loop-settled.invariant.settled c.loop-settled.invariant.places in
    c.new.ensures.exact ∙ c.in_ok-names.ensures ∙ ap (map (name_at_index names)) c.deref-3.ensures.value ∙ all_past names c.args.all.now c.requires.named c.requires.distinct c.args.at p p c.requires.within c.requires.is c.loop-settled.places.items 0 refl whole
