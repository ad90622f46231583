use Rattle.camp_share.proofs.Words.{sym, subst, All, All-append, All-drop, IsPart}
use Rattle.camp_share.proofs.changes.Change.with_rest.Goals as goal

pub returns-clause-parts : goal.returns-clause-parts
returns-clause-parts g c =
    subst (All IsPart) (sym c.in_ok-push_rest.ensures) (All-append IsPart _ _ c.in_ok-new.ensures.parts (All-drop IsPart c.in_ok-next.next _ c.requires.parts))
