use Rattle.camp_row.proofs.Words.{arith, ◌≡◌, ◌%◌, sym, ap, subst, ◌∙◌, Entry, PassState, IsOnChain, index_word}
use Rattle.camp_row.proofs.PassOfRow.{held, is_of, walks_in}
use Rattle.camp_row.proofs.rows.Row.entry_of.Goals as goal

pub index_word-requires : goal.index_word-requires
index_word-requires c =
    let of = is_of c.pass.inside c.self.inside c.self.invariant c.pass.view_is c.self.view_is c.requires.row in
    let s = subst (λ (known : PassState). IsOnChain known c.args.cell) (sym c.pass.view_is) c.requires.on_chain in
    let at = held {before = s.before} {e = s.entry} s.later {cell = c.args.cell} of c.pass.invariant.sound s.is s.cell_is in
    omega arith

pub load-index-requires : goal.load-index-requires
load-index-requires c =
    let of = is_of c.pass.inside c.self.inside c.self.invariant c.pass.view_is c.self.view_is c.requires.row in
    let s = subst (λ (known : PassState). IsOnChain known c.args.cell) (sym c.pass.view_is) c.requires.on_chain in
    let at = held {before = s.before} {e = s.entry} s.later {cell = c.args.cell} of c.pass.invariant.sound s.is s.cell_is in
    let word_is : c.index_word.result ≡ index_word c.args.cell = c.index_word.ensures in
    walks_in c.self.inside c.pass.inside.seat of.table c.index_word.result (omega arith) c.pass.invariant.alone

pub returns-clause-entry : goal.returns-clause-entry
returns-clause-entry c =
    let of = is_of c.pass.inside c.self.inside c.self.invariant c.pass.view_is c.self.view_is c.requires.row in
    let found : Entry = record { seat = c.args.cell % c.self.inside.seats; index = c.load-index.result } in
    subst (λ (known : PassState). (on_chain : IsOnChain known c.args.cell) → found ≡ on_chain.entry) c.pass.view_is (λ s.
    let at = held {before = s.before} {e = s.entry} s.later {cell = c.args.cell} of c.pass.invariant.sound s.is s.cell_is in
    let index : c.load-index.result ≡ s.entry.index = (c.load-index.ensures.2.1.1 s.before s.entry s.later s.is).1 (c.index_word.ensures ∙ ap index_word s.cell_is) in
    λ k. record { seat = at.seat_is k; index = index k })
