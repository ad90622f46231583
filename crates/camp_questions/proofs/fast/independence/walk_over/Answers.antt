use Rattle.camp_questions.proofs.Words.{ap, arith, slice_cmp, nat_cmp, map_of, sym, ◌++◌, ◌≡◌, ◌∙◌, names_in, has_listed, catches_in_order, AreBlockedAfter}
use Rattle.camp_questions.proofs.WalkedPatches.{goes_apart, none_held, own_of, past_all, past_aside, past_held, past_stuck}
use Rattle.camp_questions.proofs.fast.independence.walk_over.Goals.{else-not-contains_key, then-not-contains_key+in_ok-move_before_taken_out+else-branch+in_ok-held}
use Rattle.camp_questions.proofs.fast.independence.walk_over.Goals as goal

pub loop-patch-init : goal.loop-patch-init
loop-patch-init c =
    rw c.requires.none (none_held (catches_in_order c.args.patches.now) (names_in c.args.names))

pub move_before_taken_out-requires-clause-own : goal.move_before_taken_out-requires-clause-own
move_before_taken_out-requires-clause-own c =
    own_of c.args.patches.now c.requires.are c.loop-patch.patch-index c.patch-item.result c.patch-item.result (omega arith) c.patch-item.is

pub move_before_taken_out-requires-clause-apart : goal.move_before_taken_out-requires-clause-apart
move_before_taken_out-requires-clause-apart c =
    goes_apart c.args.patches.now c.requires.are c.loop-patch.patch-index c.patch-item.result c.patch-item.result (omega arith) c.patch-item.is (names_in c.args.names) (map_of (slice_cmp nat_cmp) c.loop-patch.held) c.loop-patch.going.items c.loop-patch.invariant

pub loop-patch-preserved-then-branch : goal.loop-patch-preserved-then-branch
loop-patch-preserved-then-branch c =
    let set = map_of (slice_cmp nat_cmp) c.loop-patch.held in
    let free = sym (c.contains_key.ensures.exact ∙ has_listed set c.patch-item.result.name) ∙ c.if-not-contains_key.true in
    past_aside c.args.patches.now c.requires.are c.loop-patch.patch-index c.patch-item.result c.patch-item.result (omega arith) c.patch-item.is (names_in c.args.names) set c.loop-patch.going.items c.loop-patch.invariant c.move_before_taken_out.new.going.items free (rw c.if-branch.true at c.in_ok-move_before_taken_out.ensures)

pub loop-patch-preserved : goal.loop-patch-preserved
loop-patch-preserved c =
    let set = map_of (slice_cmp nat_cmp) c.loop-patch.held in
    let p = c.patch-item.result in
    let listed = c.contains_key.ensures.exact ∙ has_listed set p.name in
    elim c.if-not-contains_key.branch [
      | then-not-contains_key+in_ok-move_before_taken_out+else-branch+in_ok-held w ↦
          let aside : (w.move_before_taken_out.new.going.items ≡ c.loop-patch.going.items) × AreBlockedAfter p.name c.loop-patch.going.items p.catches.items = rw w.if-branch.false at w.in_ok-move_before_taken_out.ensures in
          let grown = past_stuck c.args.patches.now c.requires.are c.loop-patch.patch-index p p (omega arith) c.patch-item.is (names_in c.args.names) set c.loop-patch.going.items c.loop-patch.invariant (map_of (slice_cmp nat_cmp) w.in_ok-held.held) (sym listed ∙ w.if-not-contains_key.true) aside.1 w.in_ok-held.ensures.exact in
          let goes = c.in_ok-append.ensures ∙ (λ i. (ap (λ (v : _). v.items) w.going-is ∙ aside.0) i ++ c.deref.ensures.value i) in
          rw (w.held-is, goes) grown
      | else-not-contains_key w ↦
          let grown = past_held c.args.patches.now c.requires.are c.loop-patch.patch-index p p (omega arith) c.patch-item.is (names_in c.args.names) set c.loop-patch.going.items c.loop-patch.invariant (sym listed ∙ w.if-not-contains_key.false) in
          let goes = c.in_ok-append.ensures ∙ (λ i. ap (λ (v : _). v.items) w.going-is i ++ c.deref.ensures.value i) in
          rw (w.held-is, goes) grown
    ]

pub returns : goal.returns
returns c =
    past_all c.args.patches.now c.loop-patch.patch-index (names_in c.args.names) (names_in c.loop-patch.held) c.loop-patch.going.items (omega arith) c.loop-patch.invariant
