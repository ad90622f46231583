use Rattle.camp_share.proofs.Words.{Bor, List, Vec, ap, arith, joined, length, rules, take, subst, sym, ◌∙◌}
use Rattle.camp_share.specs.Inside.Places.{ends_below}
use Rattle.std.specs.Option.{option_copied}
use Rattle.camp_share.proofs.PartLemmas.{lent_at}
use Rattle.camp_share.proofs.Parted.{Stands, border_of, last_ends_below, part_found, stands_group, stands_last}
use Rattle.camp_share.proofs.search.part_for.Given.{Over}
use Rattle.camp_share.proofs.search.part_for.Goals as goal
use Rattle.camp_share.proofs.search.part_for.Goals.{Joined-at-closed, then-at-closed, else-at-closed}

-- the chunks in which the key is searched come after those that were skipped
among : (g : Over) (c : Joined-at-closed g) → Stands g.K.Ord.cmp g.met.K.Ord.total c.args.parts.now c.args.key.now (length (joined (take c.by_halves-at.result c.divided.result.0.now))) c.if-at-closed.among.now
among g c =
    let found = c.by_halves-at.ensures in
    let border = border_of _ _ (λ group. last_ends_below g.K.Ord.cmp group.items c.args.key.now) _ _ (λ a r said. search rules) found.border in
    let at = Stands g.K.Ord.cmp g.met.K.Ord.total c.args.parts.now c.args.key.now (length (joined (take c.by_halves-at.result c.divided.result.0.now))) in
    elim c.if-at-closed.branch [
      | then-at-closed w ↦
          subst at (sym (ap (λ (b : Bor (List (Vec _ _))). b.now) w.among-is ∙ w.deref-among.ensures.value ∙ ap (λ (p : Vec _ _). p.items) w.deref.ensures))
          (stands_group _ _ c.args.parts.now c.requires.sorted c.requires.parts c.args.key.now _ _ c.divided.ensures.whole c.divided.ensures.parts _ found.within border w.index-closed-at.result w.if-at-closed.true w.index-closed-at.is)
      | else-at-closed w ↦
          subst at (sym (ap (λ (b : Bor (List (Vec _ _))). b.now) w.among-is))
          (stands_last _ _ c.args.parts.now c.requires.sorted c.requires.parts c.args.key.now _ _ c.divided.ensures.whole c.divided.ensures.parts _ found.within border (omega arith))
    ]

pub returns : goal.returns
returns g c =
    let s = among g (goal.at.returns g c).Joined-at-closed in
    part_found _ _ c.args.parts.now c.requires.sorted c.requires.parts c.args.key.now _ _ s _ c.by_halves-found.ensures.within
    (border_of _ _ (λ part. ends_below g.K.Ord.cmp part.items c.args.key.now) _ _ (λ a r said. search rules) c.by_halves-found.ensures.border) (option_copied c.get.result)
    (lent_at c.if-at-closed.among.now c.by_halves-found.result _ c.get.result c.get.ensures.lookup.1 c.get.ensures.lookup.3)
