use Rattle.camp_history.proofs.Words.{◌≡◌, [], ◌∷◌, ◌++◌, map, length, sym, ap, arith, ◌∙◌, append_assoc, All-rest, map_push, unseen}
use Rattle.camp_history.proofs.heads.seats_of.Goals as goal

pub loop-pass-preserved : goal.loop-pass-preserved
loop-pass-preserved g c =
    let past = c.loop-pass.invariant in
    let yielded = c.loop-pass.yielded in
    record {
      made =
          c.push_reserved.ensures.items
          ∙ ap (λ list. list ++ c.in_ok-seat_of.field-0 ∷ []) past.made
          ∙ ap (λ seat. map (unseen c.args.first.now) yielded ++ seat ∷ []) c.in_ok-seat_of.ensures
          ∙ sym (map_push (unseen c.args.first.now) yielded c.in-Some.pass);
      whole = append_assoc yielded (c.in-Some.pass ∷ []) c.next.new.self.rest.items ∙ ap (λ list. yielded ++ list) (sym c.in-Some.ensures.steps.0) ∙ past.whole;
      fresh = All-rest (λ known. known.seen ≡ []) c.in-Some.pass c.next.new.self.rest.items c.loop-pass.pass-iterator.rest.items c.in-Some.ensures.steps.0 past.fresh;
      room = omega (arith, ap length c.in-Some.ensures.steps.0, past.room, c.push_reserved.ensures.len, c.push_reserved.ensures.capacity);
    }
