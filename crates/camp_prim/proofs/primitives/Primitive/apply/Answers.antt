use Rattle.camp_prim.proofs.Words.{sym, subst, Applies, Answers}
use Rattle.camp_prim.proofs.primitives.Primitive.apply.Goals as goal

pub returns-in-Add : goal.returns-in-Add
returns-in-Add c = record { exact = subst (λ p. Answers (Applies p) c.args.tree.now c.add_file.result c.add_file.new.self) (sym c.in-Add.is) c.add_file.ensures.exact }

pub returns-in-Remove : goal.returns-in-Remove
returns-in-Remove c = record { exact = subst (λ p. Answers (Applies p) c.args.tree.now c.remove_file.result c.remove_file.new.self) (sym c.in-Remove.is) c.remove_file.ensures.exact }

pub returns-in-Hunk : goal.returns-in-Hunk
returns-in-Hunk c = record {
  exact =
      subst (λ p. Answers (Applies p) c.args.tree.now c.splice.result c.splice.new.self) (sym c.in-Hunk.is)
      (rw (← c.path.ensures.value, ← c.line.ensures.value, ← c.old.ensures.exact, ← c.new.ensures.exact) c.splice.ensures.exact);
}
