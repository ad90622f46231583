use Rattle.std.proofs.Common.{ap, sym, ◌∙◌}
use Rattle.camp_catch.specs.Inside.Hashes.{hash_of}
use Rattle.camp_catch.proofs.aligning.has_key.Goals as goal

pub returns-then-has_other_name : goal.returns-then-has_other_name
returns-then-has_other_name c =
    let other = c.has_other_name.ensures c.if-has_other_name.true in
    (λ yes. cc, λ same. absurd (other (ap (λ k. hash_of k.name) same ∙ sym c.requires)))
