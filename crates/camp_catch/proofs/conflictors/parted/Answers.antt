use Rattle.camp_catch.proofs.conflictors.parted.Goals as goal

pub returns : goal.returns
returns c =
    rw (c.as_slice.ensures.value, c.in_ok-labels.ensures, c.items.ensures.exact) at c.in_ok-split.ensures.exact
