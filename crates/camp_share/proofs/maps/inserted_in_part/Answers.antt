use Rattle.camp_share.proofs.Words.{◌≡◌, List, T, refl, sym, subst, ◌∙◌, IfOk-weaker, IsAt, WouldBeAt, is_sorted, map_of}
use Rattle.std.specs.FinMap as map
use Rattle.camp_share.proofs.Entries.{at_within}
use Rattle.camp_share.proofs.PartLemmas.{one_replaced}
use Rattle.camp_share.proofs.MapLemmas.{insertion, replacement}
use Rattle.camp_share.proofs.maps.inserted_in_part.Goals.{in-Ok+in_ok-new-in-Ok, in-Err+in_ok-new-in-Err}
use Rattle.camp_share.proofs.maps.inserted_in_part.Goals as goal

pub returns-clause-map : goal.returns-clause-map
returns-clause-map g c =
    let R = g.K.Ord.cmp in
    let IsNew : List (g.row.K.Denot × g.row.V.Denot) → Type 0 = λ es. T (is_sorted R es) × (map_of R es ≡ map.insert (map_of R c.args.part.now) c.args.key c.args.value) in
    let made : IsNew c.match-place_in.new = elim c.match-place_in.branch [
      | in-Ok+in_ok-new-in-Ok w ↦
          let here = subst (λ es. IsAt es c.args.key w.in-Ok.place) c.items.ensures w.in-Ok.ensures.found in
          replacement R g.met.K.Ord.total c.args.part.now _ refl c.requires (c.args.key, c.args.value) w.in-Ok.place _ here
          (w.new-is ∙ one_replaced c.args.part.now _ _ _ (at_within _ c.args.key _ here) w.in_ok-new-in-Ok.ensures)
      | in-Err+in_ok-new-in-Err w ↦
          insertion R g.met.K.Ord.total c.args.part.now _ refl c.requires (c.args.key, c.args.value) w.in-Err.place _
          (subst (λ es. WouldBeAt R es c.args.key w.in-Err.place) c.items.ensures w.in-Err.ensures.absent) (w.new-is ∙ w.in_ok-new-in-Err.ensures)
    ] in
    IfOk-weaker c.of_part.result _ _ (λ new is. subst IsNew (sym is) made) c.of_part.ensures.items
