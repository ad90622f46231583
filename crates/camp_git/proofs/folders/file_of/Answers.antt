use Rattle.camp_git.proofs.Words.{◌≡◌, ◌∙◌, sym, ap, subst, true, true≢false, none-some, same_Some, bytes_eq-Decides, contains_key, List, ℕ, Lines}
use Rattle.camp_git.proofs.FilesInOrder.{file_at_place, lacks, stands_here}
use Rattle.camp_git.proofs.folders.file_of.Goals as goal

pub returns-in_default : goal.returns-in_default
returns-in_default c =
    lacks c.args.tree.now c.args.bytes.now (λ has.
    let here = stands_here c.args.tree.now c.args.bytes.now c.place_of.result c.place_of.ensures has in
    none-some here.0 (sym c.in_default.ensures.exact ∙ here.1))

pub returns-then-eq : goal.returns-then-eq
returns-then-eq c =
    let file : List ℕ × Lines = (c.in-Some.file.0.now, c.in-Some.file.1.now) in
    let same = sym c.bytes.ensures.value ∙ (bytes_eq-Decides _ _).0 (sym c.eq.ensures ∙ c.if-eq.true) in
    (same, subst (λ p. contains_key c.args.tree.now p ≡ true) same (file_at_place c.args.tree.now c.place_of.result file c.in-Some.ensures.exact))

pub returns-else-eq : goal.returns-else-eq
returns-else-eq c =
    let file : List ℕ × Lines = (c.in-Some.file.0.now, c.in-Some.file.1.now) in
    lacks c.args.tree.now c.args.bytes.now (λ has.
    let here = stands_here c.args.tree.now c.args.bytes.now c.place_of.result c.place_of.ensures has in
    let called : c.in-Some.file.0.now ≡ c.args.bytes.now = ap (λ (e : List ℕ × Lines). e.0) (same_Some file here.0 (sym c.in-Some.ensures.exact ∙ here.1)) ∙ here.2 in
    true≢false (sym ((bytes_eq-Decides _ _).1 (c.bytes.ensures.value ∙ called)) ∙ sym c.eq.ensures ∙ c.if-eq.false))
