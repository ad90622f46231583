use Rattle.camp_row.proofs.Words.{subst, arith, ◌≡◌, sym, ap, ◌∙◌, take, drop, IsPrefix, PassState, FindsChain, part_of, known_of}
use Rattle.camp_row.proofs.Splitting.{joins}
use Rattle.camp_row.proofs.Synchronising.{synchronised, finds_known, one_is_prefix}
use Rattle.camp_row.proofs.PassOfRow.{is_of, found_pass, splits_in, loads_head_in}
use Rattle.camp_row.proofs.rows.Row.synchronise.Goals as goal

pub join_seat-requires : goal.join_seat-requires
join_seat-requires c =
    let of_a = is_of c.a.inside c.self.inside c.self.invariant c.a.view_is c.self.view_is c.requires.0 in
    let of_b = is_of c.b.inside c.self.inside c.self.invariant c.b.view_is c.self.view_is c.requires.1 in
    let key = c.self.inside.table.shared.key in
    (of_a.table, of_b.table, c.b.invariant.no_slot, omega arith, joins key.seats key.per_seat c.a.inside.seat.id c.a.inside.seat.me.0 c.b.inside.seat.id c.b.inside.seat.me.0)

pub load-head-requires : goal.load-head-requires
load-head-requires c =
    let of_a = is_of c.a.inside c.self.inside c.self.invariant c.a.view_is c.self.view_is c.requires.0 in
    loads_head_in c.self.inside c.join_seat.new.seat (c.join_seat.ensures.0 ∙ of_a.table) c.self.invariant

pub split_seat-seat-requires : goal.split_seat-seat-requires
split_seat-seat-requires c =
    let of_a = is_of c.a.inside c.self.inside c.self.invariant c.a.view_is c.self.view_is c.requires.0 in
    splits_in c.self.inside c.load-head.new.seat (c.load-head.ensures.0 ∙ (c.join_seat.ensures.0 ∙ of_a.table)) c.self.invariant

pub invariant_of-a : goal.invariant_of-a
invariant_of-a c =
    let m = synchronised (ap (λ m. m.0.parts) c.join_seat.ensures.2) c.b.invariant c.a.invariant c.load-head.ensures.2.1 in
    let split = c.split_seat-seat.ensures in
    found_pass c.a.inside c.split_seat-seat.new.seat c.load-head.result m.chain
    (ap (λ s. s.0.parts) split.2 ∙ ap (drop 1) m.is)
    (ap (λ s. s.1) split.2 ∙ (c.load-head.ensures.2.0 ∙ (ap (λ s. s.1) c.join_seat.ensures.2 ∙ c.a.invariant.no_slot)))
    m.a_finds c.a.invariant

pub invariant_of-result : goal.invariant_of-result
invariant_of-result c =
    let m = synchronised (ap (λ m. m.0.parts) c.join_seat.ensures.2) c.b.invariant c.a.invariant c.load-head.ensures.2.1 in
    let split = c.split_seat-seat.ensures in
    found_pass c.b.inside c.split_seat-seat.result c.load-head.result m.chain (ap (λ s. s.0.parts) split.4 ∙ ap (take 1) m.is) (ap (λ s. s.1) split.4) m.b_finds c.b.invariant

pub returns-clause-b : goal.returns-clause-b
returns-clause-b c =
    let of_a = is_of c.a.inside c.self.inside c.self.invariant c.a.view_is c.self.view_is c.requires.0 in
    let of_b = is_of c.b.inside c.self.inside c.self.invariant c.b.view_is c.self.view_is c.requires.1 in
    let m = synchronised (ap (λ m. m.0.parts) c.join_seat.ensures.2) c.b.invariant c.a.invariant c.load-head.ensures.2.1 in
    let split = c.split_seat-seat.ensures in
    let table : c.split_seat-seat.result.table_id ≡ c.b.inside.seat.table_id = split.3 ∙ (c.load-head.ensures.0 ∙ (c.join_seat.ensures.0 ∙ (of_a.table ∙ sym of_b.table))) in
    subst (λ k. FindsChain k (known_of c.split_seat-seat.result.table_id (part_of c.split_seat-seat.result.me.0.parts))) c.b.view_is
    (finds_known c.b.inside c.split_seat-seat.result c.load-head.result m.chain table (ap (λ s. s.0.parts) split.4 ∙ ap (take 1) m.is) m.b_finds)

pub returns-clause-one_is_prefix : goal.returns-clause-one_is_prefix
returns-clause-one_is_prefix c =
    let m = synchronised (ap (λ m. m.0.parts) c.join_seat.ensures.2) c.b.invariant c.a.invariant c.load-head.ensures.2.1 in
    one_is_prefix c.args.a.now c.args.b m.chain
    (subst (λ (k : PassState). IsPrefix k.seen m.chain) c.a.view_is m.a_finds.sound.prefix)
    (subst (λ (k : PassState). IsPrefix k.seen m.chain) c.b.view_is m.b_finds.sound.prefix)

pub returns-clause-apart : goal.returns-clause-apart
returns-clause-apart c =
    let m = synchronised (ap (λ m. m.0.parts) c.join_seat.ensures.2) c.b.invariant c.a.invariant c.load-head.ensures.2.1 in
    λ same. m.apart (ap (λ (x : PassState). x.number) c.a.view_is ∙ (same ∙ sym (ap (λ (x : PassState). x.number) c.b.view_is)))
