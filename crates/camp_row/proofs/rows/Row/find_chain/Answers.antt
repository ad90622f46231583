use Rattle.camp_row.proofs.PassOfRow.{is_of, loads_head_in}
use Rattle.camp_row.proofs.rows.Row.find_chain.Goals as goal

pub load-pass-inside-requires : goal.load-pass-inside-requires
load-pass-inside-requires c =
    let of = is_of c.pass.inside c.self.inside c.self.invariant c.pass.view_is c.self.view_is c.requires in
    loads_head_in c.self.inside c.pass.inside.seat of.table c.self.invariant
