use Rattle.camp_row.proofs.Words.{arith, ◌≡◌, ◌∷◌, [], ap, ◌∙◌, Part, part, parent_word, index_word, StoredParent, StoredIndex}
use Rattle.camp_row.proofs.Drafting.{drafts_parent, drafts_index}
use Rattle.camp_row.proofs.PassOfRow.{at_own, steps_in}
use Rattle.camp_row.proofs.rows.Row.draft.Goals as goal

pub store-requires : goal.store-requires
store-requires c =
    let at = at_own c.pass.inside c.self.inside c.self.invariant c.pass.view_is c.self.view_is c.requires.row c.requires.room c.own_cell-cell.ensures.cell c.own_cell-cell.ensures.in_row in
    let word_is : c.parent_word.result ≡ parent_word c.own_cell-cell.result = c.parent_word.ensures in
    steps_in c.self.inside c.pass.inside.seat at.of.table (λ _. c.pass.inside.last) (λ _. StoredParent c.pass.inside.last) (omega arith) c.pass.invariant.alone
    (drafts_parent c.self.inside.table.shared.key.seats c.self.inside.table.shared.key.per_seat c.pass.inside.seat.id (part c.pass.inside) at.room c.parent_word.result c.pass.inside.last (word_is ∙ ap parent_word at.own))

pub store-requires-2 : goal.store-requires-2
store-requires-2 c =
    let at = at_own c.pass.inside c.self.inside c.self.invariant c.pass.view_is c.self.view_is c.requires.row c.requires.room c.own_cell-cell.ensures.cell c.own_cell-cell.ensures.in_row in
    let seat = c.store.new.seat in
    let q : Part = record (part c.pass.inside) { parent = c.pass.inside.last } in
    let stored : seat.me.0.parts ≡ q ∷ [] = c.store.ensures.2.1 in
    let word_is : c.index_word.result ≡ index_word c.own_cell-cell.result = c.index_word.ensures in
    steps_in c.self.inside seat (c.store.ensures.0 ∙ at.of.table) (λ _. c.args.index) (λ _. StoredIndex c.args.index) (omega arith) stored
    (drafts_index c.self.inside.table.shared.key.seats c.self.inside.table.shared.key.per_seat seat.id q at.room c.index_word.result c.args.index (word_is ∙ ap index_word at.own))
