use Rattle.camp_branch.proofs.Words.{◌++◌, ap, sym, subst, take, ◌∙◌, IsLawfulBranch, LeadsTo, has_patch}
use Rattle.camp_branch.proofs.NewEnds.{end_led, end_replaced, front_leads}
use Rattle.camp_branch.proofs.branches.Branch.with_end.Goals as goal

pub tree_before-requires : goal.tree_before-requires
tree_before-requires c =
    let front = take c.args.start c.args.self.now ++ c.args.new.now in
    let leads = c.requires.reordered c.self.inside.tree (subst (λ l. LeadsTo l c.self.inside.tree) c.self.view_is c.self.invariant.kept) in
    record {
      led = end_led front c.args.gone.now c.self.inside.tree leads;
    }

pub invariant_of-result : goal.invariant_of-result
invariant_of-result c =
    let front = take c.args.start c.args.self.now ++ c.args.new.now in
    let leads = c.requires.reordered c.self.inside.tree (subst (λ l. LeadsTo l c.self.inside.tree) c.self.view_is c.self.invariant.kept) in
    let becomes = end_replaced c.self.inside.catches c.args.self.now c.args.new.now c.in_ok-catches.catches c.args.start c.len.result c.len.ensures.exact c.self.view_is c.in_ok-catches.ensures.exact in
    record {
      lawful = subst IsLawfulBranch (sym becomes) c.requires.lawful;
      named = λ n. c.requires.named n ∙ ap (λ l. has_patch l n) (sym becomes);
      kept = subst (λ l. LeadsTo l c.in_ok-tree.tree) (sym becomes) (front_leads front c.args.gone.now c.self.inside.tree leads c.in_ok-tree.tree c.in_ok-tree.ensures);
    }
