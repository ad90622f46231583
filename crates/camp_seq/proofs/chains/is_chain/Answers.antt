use Rattle.camp_seq.proofs.Words.{◌≡◌, ◌+◌, ◌-◌, ◌∷◌, List, true, false, drop, ap, sym, subst, ◌∙◌, arith, IsBlockedByFirst, drop_more, take_rest, Named}
use Rattle.camp_seq.proofs.OwnOrders.{no_chain}
use Rattle.camp_seq.proofs.chains.is_chain.Goals as goal

pub returns-then-not-is_blocked_by_first : goal.returns-then-not-is_blocked_by_first
returns-then-not-is_blocked_by_first c = record {
  exact =
      let s : List Named = c.args.items.now in
      let i = c.loop-at.at - 1 in
      let p = c.index-items-at.result in
      let next : drop i s ≡ p ∷ drop (i + 1) s = drop_more s i p (omega arith) ∙ ap (λ x. x ∷ drop (i + 1) s) (sym c.index-items-at.is) in
      let moves : ¬ (IsBlockedByFirst p (drop (i + 1) s)) = λ stays. let no : false ≡ true = c.if-not-is_blocked_by_first.ensures.1 (subst (IsBlockedByFirst p) (sym (take_rest s (i + 1))) stays) in cc in
      (λ no. let e : false ≡ true = no in cc, λ chain. absurd (no_chain s i p (drop (i + 1) s) next moves chain));
}
