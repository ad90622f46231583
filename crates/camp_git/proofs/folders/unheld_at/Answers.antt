use Rattle.camp_git.proofs.Words.{◌≡◌, ℕ, Bool, true, false, List, Option, None, Some, Result, Ok, Err, ◌∙◌, sym, inr, contains_key, Files}
use Rattle.std.specs.Prelude.{IsTrue, IfOk, MatchOption, ◌↔◌}
use Rattle.camp_git.specs.Holding.{CannotHold, has_git_part}
use Rattle.camp_git.specs.Inside.Finding.{HasInside, IsAround, IsFree, IsNoneAround}
use Rattle.camp_git.proofs.folders.unheld_at.Goals as goal

free_or_not : {E : Type 0} (tree : Files) (path : List ℕ) (plain inside : Bool) (found : Result (Option (List ℕ)) E) → plain ≡ has_git_part path → plain ≡ false → (IsTrue inside ↔ HasInside tree path) → inside ≡ false
    → contains_key tree path ≡ true → IfOk found (λ file. MatchOption file (IsNoneAround tree path) (IsAround tree path))
    → IfOk found (λ file. MatchOption file (IsFree tree path) (λ other. (contains_key tree other ≡ true) × CannotHold tree other))
free_or_not tree path plain inside (Ok None) tells is finds none there alone = record {
  plain = sym tells ∙ is;
  empty = λ w. let never : true ≡ false = sym (finds.1 w) ∙ none in absurd cc;
  alone = alone;
}
free_or_not tree path plain inside (Ok (Some file)) tells is finds none there around = (around.0, inr (path, there, around.1))
free_or_not tree path plain inside (Err fault) tells is finds none there around = tt

pub returns : goal.returns
returns c =
    free_or_not c.args.tree.now c.args.path.now _ _ _ c.has_git_part.ensures c.if-has_git_part.false c.in_ok-has_file_inside.ensures c.if-branch.false c.requires c.file_around.ensures
