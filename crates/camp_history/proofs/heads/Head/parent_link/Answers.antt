use Rattle.camp_history.proofs.Words.{ap, ◌∙◌, sym, subst, IsMarkPrefix, IfSome, IsBaseAt, based, slice_index_or}
use Rattle.camp_history.proofs.heads.Head.parent_link.Goals as goal

pub agrees-requires : goal.agrees-requires
agrees-requires g c =
    let slots = c.args.self.now.slots in
    let parent : IsBaseAt slots (based c.in_ok-parent.parent.now) = subst (λ found. IfSome found (λ base. IsBaseAt slots (based base))) (sym c.in_ok-parent.ensures.value) c.requires.parent in
    c.in_ok-parent_link.ensures.snapshot ∙ ap (λ number. slice_index_or slots number 0) c.if-parent_link-parent.false ∙ sym parent

pub returns-clause-begins : goal.returns-clause-begins
returns-clause-begins g c =
    let value = c.args.link.now.snapshot.snapshot.value in
    let parent : IsMarkPrefix c.in_ok-parent.parent.now.snapshot.value value = subst (λ found. IfSome found (λ base. IsMarkPrefix base.snapshot.value value)) (sym c.in_ok-parent.ensures.value) c.requires.begins in
    subst (λ list. IsMarkPrefix list value) (sym c.agrees.ensures) parent
