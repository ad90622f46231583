use Rattle.camp_repo.proofs.Words.{sym, subst, AgreesIn, AllByRecursion}
use Rattle.camp_repo.proofs.beginnings.KnownBeginnings.copied.Goals as goal

pub returns : goal.returns
returns c branches w same one other =
    let own = subst (AllByRecursion (AgreesIn branches)) (sym c.self.view_is) w in
    c.in_ok-beginnings.ensures branches (c.in_ok-forth.ensures branches (c.in_ok-all.ensures branches own same) one) other
