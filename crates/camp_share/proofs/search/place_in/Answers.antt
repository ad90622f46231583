use Rattle.camp_share.proofs.Words.{rules}
use Rattle.std.proofs.lemmas.Fn.{always_returns_same}
use Rattle.camp_share.proofs.Found.{searched}
use Rattle.camp_share.proofs.search.place_in.Goals as goal

pub returns : goal.returns
returns g c =
    let by_key = c.binary_search_by.ensures.position (λ entry. g.K.Ord.cmp entry.0 c.args.key.now) (always_returns_same _ _ _ (λ a r h called. search rules)) in
    let both = searched _ g.met.K.Ord.total g.met.K.Key.same _ c.requires c.args.key.now _ c.binary_search_by.ensures.bound by_key in
    record { range = c.binary_search_by.ensures.bound; found = both.0; absent = both.1 }
