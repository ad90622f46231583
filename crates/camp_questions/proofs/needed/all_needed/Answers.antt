use Rattle.camp_questions.proofs.Words.{IfOk-weaker, List, ◌≡◌, ◌∙◌, ap, subst, sym, Catch, names_of, names_in_order, IsInverted, NeedEach, PatchCatches}
use Rattle.camp_questions.proofs.PatchesOfLists.{patches_there}
use Rattle.camp_questions.proofs.needed.all_needed.Goals as goal

pub inverted_patches-requires : goal.inverted_patches-requires
inverted_patches-requires c =
    patches_there c.args.branch.now c.deref.result.now (c.deref.ensures.value ∙ c.in_ok-catches.ensures.exact ∙ c.catches-2.ensures.value) c.catches-2.ensures.lawful

pub all_reached-requires : goal.all_reached-requires
all_reached-requires c =
    let back : IsInverted c.deref.result.now c.in-Some.back.items = rw c.in-Some.is at c.in_ok-back.ensures in
    (c.deref.result.now, rw c.deref-in-Some.ensures.value back)

pub returns-in-Some : goal.returns-in-Some
returns-in-Some c =
    let branch : List Catch = c.args.branch.now in
    let given : List PatchCatches = c.deref-in-Some.result.now in
    let list : c.deref.result.now ≡ branch = c.deref.ensures.value ∙ c.in_ok-catches.ensures.exact ∙ c.catches-2.ensures.value in
    let taken : IsInverted c.deref.result.now c.in-Some.back.items = rw c.in-Some.is at c.in_ok-back.ensures in
    let back : IsInverted branch given = subst (λ l. IsInverted l given) list (subst (IsInverted c.deref.result.now) (sym c.deref-in-Some.ensures.value) taken) in
    let called : names_in_order given ≡ c.args.names.now = back.names ∙ sym c.requires in
    IfOk-weaker c.all_reached.result (λ all. (b : List Catch) → IsInverted b given → NeedEach b (names_in_order given) all.items) (λ all. NeedEach branch c.args.names.now all.items) (λ all each. subst (λ n. NeedEach branch n all.items) called (each branch back)) c.all_reached.ensures

pub needed_by_blockers-requires : goal.needed_by_blockers-requires
needed_by_blockers-requires c =
    c.requires ∙ ap names_of (sym (c.deref-in-None.ensures.value ∙ c.in_ok-catches.ensures.exact ∙ c.catches-2.ensures.value))
