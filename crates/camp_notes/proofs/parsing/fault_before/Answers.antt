use Rattle.std.proofs.Common.{ℕ, ◌+◌, List, take, ap, ◌∙◌}
use Rattle.camp_notes.specs.Faults.{feeds_in}
use Rattle.camp_notes.specs.declared.faults.NoteFault.TheVariants.{Line}
use Rattle.camp_notes.proofs.ParseLemmas.{front_is}
use Rattle.camp_notes.proofs.parsing.fault_before.Goals as goal

pub returns : goal.returns
returns c = λ front same.
    ap (λ (n : ℕ). Line (n + 1) c.args.kind)
    (c.feeds_in.ensures.value
    ∙ ap (λ (k : ℕ). feeds_in (take k c.args.text.now)) c.saturating_sub.ensures
    ∙ ap (λ (l : List ℕ). feeds_in l) (front_is c.args.text.now front c.args.rest.now same))
