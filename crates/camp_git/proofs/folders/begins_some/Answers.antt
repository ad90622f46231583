use Rattle.camp_git.proofs.Words.{◌≡◌, ◌∙◌, sym, ap, subst, length, take, bytes_eq, none-some, same_Some, true≢false, List, ℕ, Lines}
use Rattle.camp_git.proofs.FilesInOrder.{begins, file_at_place, is_begun, starts_here}
use Rattle.camp_git.proofs.folders.begins_some.Goals as goal

pub returns-in-Some : goal.returns-in-Some
returns-in-Some c =
    let tree = c.args.tree.now in
    let bytes = c.args.bytes.now in
    let file : List ℕ × Lines = (c.in-Some.file.0.now, c.in-Some.file.1.now) in
    let told = c.starts_with.ensures.value ∙ ap (λ t. bytes_eq bytes (take (length bytes) t)) c.bytes.ensures.value in (
      λ t. (file.0, file_at_place tree c.place_of.result file c.in-Some.ensures.exact, begins bytes file.0 (sym told ∙ t)),
      λ w. let here = starts_here tree bytes c.place_of.result c.place_of.ensures w.0 w.1 w.2 in
          told ∙ is_begun bytes file.0 (subst (λ (e : _). take (length bytes) e.0 ≡ bytes) (sym (same_Some file here.0 (sym c.in-Some.ensures.exact ∙ here.1))) here.2),
    )

pub returns-in-None : goal.returns-in-None
returns-in-None c = (
  λ t. absurd (true≢false (sym t)),
  λ w. let here = starts_here c.args.tree.now c.args.bytes.now c.place_of.result c.place_of.ensures w.0 w.1 w.2 in
      absurd (none-some here.0 (sym c.in-None.ensures.exact ∙ here.1)),
)
