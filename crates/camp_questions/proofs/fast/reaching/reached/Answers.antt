use Rattle.camp_questions.proofs.Words.{List, Bool, ℕ, ◌≡◌, ◌<◌, ◌+◌, ◌-◌, ◌++◌, ◌∙◌, ap, arith, false, get_or, length, length-replicate, replicate, subst, sym, true, Catch, set, get_or_default, length-set, with_items_is, HasMarkedFiles, is_marked, marked_in_both, AreBlockedAfter, PatchCatches, Needed}
use Rattle.camp_questions.proofs.FileMarks.{has_files}
use Rattle.camp_questions.proofs.MarkedNames.{both_long, marked_still}
use Rattle.camp_questions.proofs.ReachedPatches.{goes_apart_from, step_aside, step_first, step_last, step_on, step_stuck}
use Rattle.camp_questions.proofs.fast.reaching.reached.Goals.{else-not-index, then-not-index+in_ok-move_before+else-branch}
use Rattle.camp_questions.proofs.fast.reaching.reached.Goals as goal

-- an index that was read as marked is marked
told : (marks : List Bool) (place : ℕ) (r b : Bool) → place < length marks → r ≡ get_or marks place r → r ≡ b → is_marked marks place ≡ b
told marks place r b within is e = get_or_default marks place false r within ∙ sym is ∙ e

pub loop-all_below-init : goal.loop-all_below-init
loop-all_below-init c =
    let own = length c.args.known.now in
    let filled = c.in_ok-marks.ensures.items_if_clones_equal (λ y e. e) in
    let first = ap (λ l. set l own true) filled in
    let marks : List Bool = set c.in_ok-marks.marks.items own true in
    record {
      within = omega arith;
      long = ap length first ∙ length-set (replicate (own + 1) false) own true ∙ length-replicate (own + 1) false;
      going = c.in_ok-going.ensures.marked;
      below = λ r less. ap (λ l. get_or l r false) (sym c.deref.ensures.value) ∙ c.first_unmarked-all_below.ensures r less;
      reaches = λ branch inverted known. step_first branch c.args.patches.now inverted c.args.known.now known c.requires.next marks c.index-patches-own.result c.in_ok-going.going.catches.items c.index-patches-own.is first c.in_ok-going.ensures.catches;
    }

-- the patch itself, and one before it
pub take_out_first-requires : goal.take_out_first-requires
take_out_first-requires c =
    has_files c.requires.known.0 c.args.patches.now c.requires.known.1 c.args.files.now c.requires.files c.requires.each (length c.args.known.now) c.index-patches-own.result c.index-patches-own.result c.index-files-own.result c.index-files-own.result c.requires.next c.index-patches-own.is c.index-files-own.is

pub move_before-requires-clause-files : goal.move_before-requires-clause-files
move_before-requires-clause-files c =
    has_files c.requires.known.0 c.args.patches.now c.requires.known.1 c.args.files.now c.requires.files c.requires.each (c.loop-all_below.place - 1) c.index-patches-place.result c.index-patches-place.result c.index-files-place.result c.index-files-place.result (omega (arith, c.loop-all_below.invariant.within, c.requires.next)) c.index-patches-place.is c.index-files-place.is

pub take_out-requires-clause-marked : goal.take_out-requires-clause-marked
take_out-requires-clause-marked c = elim c.if-not-index.branch [
  | then-not-index+in_ok-move_before+else-branch w ↦ subst HasMarkedFiles (sym w.going-is) w.in_ok-move_before.ensures.marked
  | else-not-index w ↦ subst HasMarkedFiles (sym w.going-is) c.loop-all_below.invariant.going
]

pub take_out-requires-clause-files : goal.take_out-requires-clause-files
take_out-requires-clause-files c =
    has_files c.requires.known.0 c.args.patches.now c.requires.known.1 c.args.files.now c.requires.files c.requires.each (c.loop-all_below.place - 1) c.index-patches-place.result c.index-patches-place.result c.index-files-place.result c.index-files-place.result (omega (arith, c.loop-all_below.invariant.within, c.requires.next)) c.index-patches-place.is c.index-files-place.is

pub move_before-requires-clause-apart : goal.move_before-requires-clause-apart
move_before-requires-clause-apart c =
    let given = c.requires.known in
    let place = c.loop-all_below.place - 1 in
    let next : c.loop-all_below.place ≡ place + 1 = omega arith in
    goes_apart_from given.0 c.args.patches.now given.1 c.args.known.now given.2 c.requires.next c.loop-all_below.marks.items place c.loop-all_below.place next c.index-patches-place.result c.loop-all_below.going.catches.items (omega (arith, c.loop-all_below.invariant.within)) c.index-patches-place.is (c.loop-all_below.invariant.reaches given.0 given.1 given.2)

pub loop-all_below-preserved-then-branch : goal.loop-all_below-preserved-then-branch
loop-all_below-preserved-then-branch c =
    let place = c.loop-all_below.place - 1 in
    let next : c.loop-all_below.place ≡ place + 1 = omega arith in
    let before = c.loop-all_below.invariant.within in
    let free = told c.loop-all_below.marks.items place c.index.result.now false (omega (arith, before, c.loop-all_below.invariant.long)) c.index.ensures c.if-not-index.true in
    let come = rw c.if-branch.true at c.in_ok-move_before.ensures.aside in
    record {
      within = omega (arith, before);
      long = c.loop-all_below.invariant.long;
      below = c.loop-all_below.invariant.below;
      going = c.in_ok-move_before.ensures.marked;
      reaches = λ branch inverted known. step_aside branch c.args.patches.now inverted c.args.known.now known c.requires.next c.loop-all_below.marks.items place c.loop-all_below.place next c.index-patches-place.result c.loop-all_below.going.catches.items (omega (arith, before)) c.index-patches-place.is (c.loop-all_below.invariant.reaches branch inverted known) c.move_before.new.going.catches.items free come;
    }

pub first_unmarked-all_below-requires-then-not-index : goal.first_unmarked-all_below-requires-then-not-index
first_unmarked-all_below-requires-then-not-index c =
    let written = with_items_is c.loop-all_below.marks c.mark_all.new.marks (c.mark_all.auto.marks ∙ ap length c.deref_mut.ensures.value ∙ sym c.loop-all_below.marks.ok.0) in
    let becomes : c.mark_all.new.marks ≡ marked_in_both c.loop-all_below.marks.items c.index-known-place.result.needs.items = c.mark_all.ensures ∙ (λ i. marked_in_both (c.deref_mut.ensures.value i) ((c.deref-then-not-index.ensures.value ∙ ap (λ (x : Needed). x.needs.items) (sym c.index-known-place.is)) i)) in
    let place = c.loop-all_below.place - 1 in
    let row_long : length c.index-known-place.result.needs.items ≡ place + 1 = ap (λ (x : Needed). length x.needs.items) c.index-known-place.is ∙ c.requires.known.2.long place c.index-known-place.result (omega (arith, c.loop-all_below.invariant.within)) in
    let still = marked_still c.loop-all_below.marks.items c.index-known-place.result.needs.items c.loop-all_below.all_below (omega (arith, c.loop-all_below.invariant.within, row_long, c.loop-all_below.invariant.long)) c.loop-all_below.invariant.below in
    λ r less. ap (λ l. get_or l r false) (c.deref-then-not-index-2.ensures.value ∙ written ∙ becomes) ∙ still r less

pub loop-all_below-preserved : goal.loop-all_below-preserved
loop-all_below-preserved c =
    let marks : List Bool = c.loop-all_below.marks.items in
    let place = c.loop-all_below.place - 1 in
    let next : c.loop-all_below.place ≡ place + 1 = omega arith in
    let before = c.loop-all_below.invariant.within in
    let long = c.loop-all_below.invariant.long in
    let p : PatchCatches = c.index-patches-place.result in
    let going : List Catch = c.loop-all_below.going.catches.items in
    elim c.if-not-index.branch [
      | then-not-index+in_ok-move_before+else-branch w ↦
          let q : Needed = w.index-known-place.result in
          let aside : (w.move_before.new.going.catches.items ≡ going) × AreBlockedAfter p.name going p.catches.items = rw w.if-branch.false at w.in_ok-move_before.ensures.aside in
          let written = with_items_is c.loop-all_below.marks w.mark_all.new.marks (w.mark_all.auto.marks ∙ ap length w.deref_mut.ensures.value ∙ sym c.loop-all_below.marks.ok.0) in
          let becomes : w.mark_all.new.marks ≡ marked_in_both marks q.needs.items = w.mark_all.ensures ∙ (λ i. marked_in_both (w.deref_mut.ensures.value i) ((w.deref-then-not-index.ensures.value ∙ ap (λ (x : Needed). x.needs.items) (sym w.index-known-place.is)) i)) in
          let both_marked : c.if-not-index.marks.items ≡ marked_in_both marks q.needs.items = (λ i. (w.marks-is i).items) ∙ written ∙ becomes in
          let looked : c.if-not-index.marks.items ≡ w.deref-then-not-index-2.result.now = (λ i. (w.marks-is i).items) ∙ sym w.deref-then-not-index-2.ensures.value in
          let goes : c.take_out.new.going.catches.items ≡ going ++ p.catches.items = c.in_ok-take_out.ensures.catches ∙ ap (λ l. l ++ p.catches.items) ((λ i. (w.going-is i).catches.items) ∙ aside.0) in
          let free = told marks place c.index.result.now false (omega (arith, before, long)) c.index.ensures w.if-not-index.true in
          record {
            within = omega (arith, before);
            long = ap length both_marked ∙ both_long marks q.needs.items ∙ long;
            below = λ r less. ap (λ l. get_or l r false) looked ∙ w.first_unmarked-all_below-then-not-index.ensures r (subst (λ b. r < b) w.all_below-is less);
            going = c.in_ok-take_out.ensures.marked;
            reaches = λ branch inverted known.
                let stuck = step_stuck branch c.args.patches.now inverted c.args.known.now known c.requires.next marks place c.loop-all_below.place next p going (omega (arith, before)) c.index-patches-place.is (c.loop-all_below.invariant.reaches branch inverted known) q w.index-known-place.is free aside.1 in
                rw (both_marked, goes) stuck;
          }
      | else-not-index w ↦
          let same : c.if-not-index.marks.items ≡ marks = λ i. (w.marks-is i).items in
          let goes : c.take_out.new.going.catches.items ≡ going ++ p.catches.items = c.in_ok-take_out.ensures.catches ∙ (λ i. (w.going-is i).catches.items ++ p.catches.items) in
          let mine = told marks place c.index.result.now true (omega (arith, before, long)) c.index.ensures w.if-not-index.false in
          record {
            within = omega (arith, before);
            long = ap length same ∙ long;
            below = λ r less. ap (λ l. get_or l r false) same ∙ c.loop-all_below.invariant.below r (subst (λ b. r < b) w.all_below-is less);
            going = c.in_ok-take_out.ensures.marked;
            reaches = λ branch inverted known.
                let on = step_on branch c.args.patches.now inverted c.args.known.now known c.requires.next marks place c.loop-all_below.place next p going (omega (arith, before)) c.index-patches-place.is (c.loop-all_below.invariant.reaches branch inverted known) mine in
                rw (same, goes) on;
          }
    ]

pub returns : goal.returns
returns c branch inverted known =
    step_last branch c.args.patches.now inverted c.args.known.now known c.requires.next c.loop-all_below.marks.items c.loop-all_below.place c.loop-all_below.all_below c.index-patches-own.result c.loop-all_below.going.catches.items c.loop-all_below.invariant.within (omega arith) c.loop-all_below.invariant.below (c.loop-all_below.invariant.reaches branch inverted known)
