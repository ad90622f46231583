use Rattle.camp_share.proofs.Words.{Vec, ◌+◌, ap, ◌∙◌, arith}
use Rattle.std.specs.Option.{option_copied}
use Rattle.camp_share.proofs.PartLemmas.{parts_fewer}
use Rattle.camp_share.proofs.Lookups.{behind_all, entries_sorted, entry_found, gap_found}
use Rattle.camp_share.proofs.search.search.Goals as goal

pub length_of-requires : goal.length_of-requires
length_of-requires g c =
    omega (arith, c.part_for-behind.ensures.within, parts_fewer c.args.parts.now c.requires.parts, c.requires.fits)

pub overflow_add-index : goal.overflow_add-index
overflow_add-index g c =
    omega (arith, c.length_of.ensures, c.part_for-behind.ensures.within, parts_fewer c.args.parts.now c.requires.parts, c.requires.fits)

pub returns-in_default-clause-absent : goal.returns-in_default-clause-absent
returns-in_default-clause-absent g c =
    behind_all _ g.met.K.Ord.total c.args.parts.now c.requires.sorted c.args.key.now _ (option_copied c.part_for-behind.result.2) _ c.part_for-behind.ensures (ap (λ n. n + c.part_for-behind.result.1) c.length_of.ensures) (ap option_copied c.in_default.is)

pub place_in-requires : goal.place_in-requires
place_in-requires g c =
    entries_sorted _ g.met.K.Ord.total c.args.parts.now c.requires.sorted c.args.key.now _ (option_copied c.part_for-behind.result.2) _ c.part_for-behind.ensures (ap (λ n. n + c.part_for-behind.result.1) c.length_of.ensures) _ (ap option_copied c.in-Some.is) _ (c.deref-2.ensures.value ∙ ap (λ (p : Vec _ _). p.items) c.deref.ensures)

pub returns-in-Err-clause-absent : goal.returns-in-Err-clause-absent
returns-in-Err-clause-absent g c =
    gap_found _ g.met.K.Ord.total c.args.parts.now c.requires.sorted c.args.key.now _ (option_copied c.part_for-behind.result.2) _ c.part_for-behind.ensures (ap (λ n. n + c.part_for-behind.result.1) c.length_of.ensures) _ (ap option_copied c.in-Some.is) _ (c.deref-2.ensures.value ∙ ap (λ (p : Vec _ _). p.items) c.deref.ensures) c.in-Err.place c.in-Err.ensures.absent

pub returns-in-Ok-clause-found : goal.returns-in-Ok-clause-found
returns-in-Ok-clause-found g c =
    entry_found _ g.met.K.Ord.total c.args.parts.now c.requires.sorted c.args.key.now _ (option_copied c.part_for-behind.result.2) _ c.part_for-behind.ensures (ap (λ n. n + c.part_for-behind.result.1) c.length_of.ensures) _ (ap option_copied c.in-Some.is) _ (c.deref-2.ensures.value ∙ ap (λ (p : Vec _ _). p.items) c.deref.ensures) c.in-Ok.place c.in-Ok.ensures.found
