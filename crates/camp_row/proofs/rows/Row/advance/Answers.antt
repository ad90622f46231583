use Rattle.camp_row.proofs.Words.{arith, ◌≡◌, ◌+◌, ◌∷◌, [], ◌++◌, sym, ap, ◌∙◌, length, Entry, own_entries, cell_of, PassState, Part, known_of, part, known, index_word, Advanced}
use Rattle.camp_row.proofs.Cells.{own_of_next, head_word-push}
use Rattle.camp_row.proofs.PassOfRow.{is_of, next_of, at_part, known_at, steps_in, next_is, cut_pushed}
use Rattle.camp_row.proofs.Loading.{advances}
use Rattle.camp_row.proofs.rows.Row.advance.Goals as goal

pub index_word-requires : goal.index_word-requires
index_word-requires c = let n = next_of (is_of c.pass.inside c.self.inside c.self.invariant c.pass.view_is c.self.view_is c.requires.row) c.pass.view_is c.pass.invariant.sound c.requires.next in omega arith

pub load-requires : goal.load-requires
load-requires c =
    let n = next_of (is_of c.pass.inside c.self.inside c.self.invariant c.pass.view_is c.self.view_is c.requires.row) c.pass.view_is c.pass.invariant.sound c.requires.next in
    let p : Part = part c.pass.inside in
    let word_is : c.index_word.result ≡ index_word c.args.next.cell = c.index_word.ensures in
    let cell_is : c.index_word.result ≡ index_word (cell_of p.seats p.seen n.shorter.next) = word_is ∙ ap index_word (n.held.is ∙ ap (λ (e : Entry). cell_of p.seats p.seen e) (sym n.entry)) in
    steps_in c.self.inside c.pass.inside.seat n.held.of.table (λ n. n) Advanced (omega arith) c.pass.invariant.alone
    (advances c.self.inside.table.shared.key.seats c.self.inside.table.shared.key.per_seat c.pass.inside.seat.id p c.index_word.result n.shorter cell_is)

pub invariant_of-pass : goal.invariant_of-pass
invariant_of-pass c =
    let n = next_of (is_of c.pass.inside c.self.inside c.self.invariant c.pass.view_is c.self.view_is c.requires.row) c.pass.view_is c.pass.invariant.sound c.requires.next in
    let p : Part = part c.pass.inside in
    let step : Advanced c.load.result c.pass.inside.seat.me.0.parts c.load.new.seat.me.0.parts = c.load.ensures.2.1 in
    let e : Entry = step.next.next in
    let e_is : e ≡ c.args.next.entry = next_is p.seen e n.shorter.next step.next.rest n.shorter.rest p.ahead step.next.is n.shorter.is ∙ n.entry in
    let q : Part = record p { seen = p.seen ++ e ∷ [] } in
    let was = c.pass.invariant in
    let own_is : own_entries p.number q.seen ≡ own_entries p.number p.seen = own_of_next p.number p.seen e step.next.rest p.ahead step.next.is was.sound.own_seen in
    at_part _ q (record {
      alone = step.is;
      no_slot = c.load.ensures.2.0 ∙ was.no_slot;
      number = was.number;
      published = was.published ∙ ap length (sym own_is);
      last = ap (λ k. k + 1) (n.held.is ∙ ap (cell_of p.seats p.seen) (sym e_is)) ∙ sym (head_word-push p.seats p.seen e);
      head = was.head;
      number_below = was.number_below;
      published_within = was.published_within;
      sound = record { prefix = record { rest = step.next.rest; is = cut_pushed p.seen step.next.rest e ∙ step.next.is }; own_seen = was.sound.own_seen ∙ sym own_is; fits = was.sound.fits };
    })

pub returns : goal.returns
returns c = record {
  exact =
      let n = next_of (is_of c.pass.inside c.self.inside c.self.invariant c.pass.view_is c.self.view_is c.requires.row) c.pass.view_is c.pass.invariant.sound c.requires.next in
      let p : Part = part c.pass.inside in
      let step : Advanced c.load.result c.pass.inside.seat.me.0.parts c.load.new.seat.me.0.parts = c.load.ensures.2.1 in
      let e_is : step.next.next ≡ c.args.next.entry = next_is p.seen step.next.next n.shorter.next step.next.rest n.shorter.rest p.ahead step.next.is n.shorter.is ∙ n.entry in
      let was : known c.pass.inside ≡ c.args.pass.now = c.pass.view_is in
      let table : c.load.new.seat.table_id ≡ c.pass.inside.seat.table_id = c.load.ensures.0 in
      known_at c.load.new.seat.table_id c.load.new.seat.me.0.parts (record p { seen = p.seen ++ step.next.next ∷ [] }) step.is
      ∙ ((λ k. known_of (table k) (record p { seen = p.seen ++ e_is k ∷ [] })) ∙ ap (λ (x : PassState). record x { seen = x.seen ++ c.args.next.entry ∷ [] }) was);
}
