use Rattle.camp_store.proofs.Words.{List, ℕ, ap, drop, ◌∙◌, arith, length-drop, take_all}
use Rattle.camp_store.proofs.blocks.first_block.Goals as goal

pub returns-in-None : goal.returns-in-None
returns-in-None c text rest block =
    let none = rw c.in-None.is at c.in_ok-block.ensures in
    let all = take_all _ _ (omega (arith, length-drop 1 c.args.bytes.now)) in
    none text rest block.fits (all ∙ ap (λ (l : List ℕ). drop 1 l) block.split)
