use Rattle.camp_history.proofs.Words.{◌≡◌, length, ap, ◌∙◌, splice, IfOk-weaker}
use Rattle.camp_history.proofs.SnapshotLemmas.{spliced_after}
use Rattle.camp_history.proofs.seats.Seat.shared_list.Goals as goal

pub returns : goal.returns
returns g c =
    let len = c.len-len.result in
    let front = c.self.inside.earlier in
    let tail = c.self.inside.tail.items in
    let longer = c.in_ok-longer.longer in
    let len_is : len ≡ length front = c.len-len.ensures.exact ∙ ap length c.deref.ensures in
    let is : longer ≡ splice front len len tail = c.in_ok-longer.ensures.exact ∙ (λ k. splice (c.deref-2.ensures k) len len (c.deref-3.ensures.value k)) in
    let all = spliced_after front tail longer len len_is is in
    IfOk-weaker c.new.result _ _ (λ list same. same ∙ all ∙ ap (λ seat. seat.marks) c.self.view_is) c.new.ensures.exact
