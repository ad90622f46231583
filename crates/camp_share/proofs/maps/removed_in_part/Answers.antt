use Rattle.camp_share.proofs.Words.{◌≡◌, List, T, refl, sym, subst, ◌∙◌, IfOk-weaker, IsAt, WouldBeAt, is_sorted, map_of}
use Rattle.std.specs.FinMap as map
use Rattle.camp_share.proofs.MapLemmas.{removal, nothing_removed}
use Rattle.camp_share.proofs.maps.removed_in_part.Goals.{in-Ok+in_ok-new-in-Ok, in-Err+in_ok-new-in-Err}
use Rattle.camp_share.proofs.maps.removed_in_part.Goals as goal

pub returns-clause-map : goal.returns-clause-map
returns-clause-map g c =
    let R = g.K.Ord.cmp in
    let IsNew : List (g.row.K.Denot × g.row.V.Denot) → Type 0 = λ es. T (is_sorted R es) × (map_of R es ≡ map.remove (map_of R c.args.part.now) c.args.key.now) in
    let made : IsNew c.match-place_in.new = elim c.match-place_in.branch [
      | in-Ok+in_ok-new-in-Ok w ↦
          removal R g.met.K.Ord.total c.args.part.now _ refl c.requires g.met.K.Key.same c.args.key.now w.in-Ok.place _
          (subst (λ es. IsAt es c.args.key.now w.in-Ok.place) c.items.ensures w.in-Ok.ensures.found) (w.new-is ∙ w.in_ok-new-in-Ok.ensures)
      | in-Err+in_ok-new-in-Err w ↦
          let same = w.new-is ∙ w.in_ok-new-in-Err.ensures in (
            subst (λ es. T (is_sorted R es)) (sym same) c.requires,
            nothing_removed R g.met.K.Ord.total c.args.part.now _ refl c.requires g.met.K.Key.same c.args.key.now w.in-Err.field-0 _
                (subst (λ es. WouldBeAt R es c.args.key.now w.in-Err.field-0) c.items.ensures w.in-Err.ensures.absent) same,
          )
    ] in
    IfOk-weaker c.of_part.result _ _ (λ new is. subst IsNew (sym is) made) c.of_part.ensures.items
