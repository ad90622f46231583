use Rattle.camp_row.proofs.Words.{arith, ◌≡◌, ◌+◌, ◌-◌, ◌∷◌, [], ◌++◌, sym, ap, subst, ◌∙◌, length, length_push, IsTrail, Part, part_of, known_of, part, parent_word}
use Rattle.camp_row.proofs.TrailSteps.{WalksBack, walks_back_first, above, walks_back_on, walks_back_last, is_of, found_pass, finds_same_chain, walks_in}
use Rattle.camp_row.proofs.rows.Row.walk.Goals as goal

pub loop-word-init : goal.loop-word-init
loop-word-init c = record {
  pass = c.pass.invariant;
  same = c.pass.view_is;
  walks_back = walks_back_first (part c.pass.inside) c.pass.inside.head c.new-cells.result.items c.pass.invariant.head c.new-cells.ensures.items c.pass.invariant.sound.prefix;
}

pub overflow_sub-cell : goal.overflow_sub-cell
overflow_sub-cell c =
    let was = c.loop-word.invariant in
    let a = above (is_of c.loop-word.pass-inside c.self.inside c.self.invariant was.same c.self.view_is c.requires) was.pass was.walks_back c.loop-word-test.true in
    omega arith

pub parent_word-requires : goal.parent_word-requires
parent_word-requires c =
    let was = c.loop-word.invariant in
    let a = above (is_of c.loop-word.pass-inside c.self.inside c.self.invariant was.same c.self.view_is c.requires) was.pass was.walks_back c.loop-word-test.true in
    omega arith

pub load-word-requires : goal.load-word-requires
load-word-requires c =
    let was = c.loop-word.invariant in
    let a = above (is_of c.loop-word.pass-inside c.self.inside c.self.invariant was.same c.self.view_is c.requires) was.pass was.walks_back c.loop-word-test.true in
    let word_is : c.parent_word.result ≡ parent_word (c.loop-word.word - 1) = c.parent_word.ensures in
    walks_in c.self.inside c.loop-word.pass-inside.seat a.held.of.table c.parent_word.result (omega arith) was.pass.alone

pub loop-word-smaller : goal.loop-word-smaller
loop-word-smaller c =
    let was = c.loop-word.invariant in
    let a = above (is_of c.loop-word.pass-inside c.self.inside c.self.invariant was.same c.self.view_is c.requires) was.pass was.walks_back c.loop-word-test.true in
    let long : length (part_of c.load-word.new.seat.me.0.parts).ahead ≡ length (part c.loop-word.pass-inside).ahead = ap (λ x. length (part_of x).ahead) c.load-word.ensures.2.1.0 in
    let more : length c.push.new.self.items ≡ length c.loop-word.cells.items + 1 = ap length c.in_ok-push.ensures.items ∙ length_push c.loop-word.cells.items (c.loop-word.word - 1) in
    omega arith

pub loop-word-preserved : goal.loop-word-preserved
loop-word-preserved c =
    let was = c.loop-word.invariant in
    let a = above (is_of c.loop-word.pass-inside c.self.inside c.self.invariant was.same c.self.view_is c.requires) was.pass was.walks_back c.loop-word-test.true in
    let p : Part = part c.loop-word.pass-inside in
    let load = c.load-word.ensures in
    let parts : part_of c.load-word.new.seat.me.0.parts ≡ p = ap part_of load.2.1.0 in
    let found = (load.2.1.1 (p.seen ++ a.mid) a.entry a.rest a.cut).0 (c.parent_word.ensures ∙ ap parent_word a.held.is) in
    let on : WalksBack p c.load-word.result (c.loop-word.cells.items ++ (c.loop-word.word - 1) ∷ []) = walks_back_on a found in record {
      pass = found_pass c.loop-word.pass-inside c.load-word.new.seat c.loop-word.pass-inside.head p.ahead (load.2.1.0 ∙ was.pass.alone) (load.2.0 ∙ was.pass.no_slot) (finds_same_chain p was.pass.head was.pass.sound) was.pass;
      same = (λ k. known_of (load.0 k) (parts k)) ∙ was.same;
      walks_back = subst (λ x. WalksBack x c.load-word.result c.push.new.self.items) (sym parts) (subst (WalksBack p c.load-word.result) (sym c.in_ok-push.ensures.items) on);
    }

pub returns-clause-leads : goal.returns-clause-leads
returns-clause-leads c =
    let was = c.loop-word.invariant in
    subst (λ k. IsTrail k k.seen c.loop-word.cells.items) was.same
    (walks_back_last (part c.loop-word.pass-inside) c.loop-word.word c.loop-word.cells.items was.pass.sound was.walks_back (c.loop-word-test.false ∙ was.pass.last) c.loop-word.pass-inside.seat.table_id)
