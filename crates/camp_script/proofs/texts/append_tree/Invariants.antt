use Rattle.camp_script.proofs.Common.{◌≡◌, ◌++◌, entries, flat_map, file_text}
use Rattle.camp_script.proofs.texts.append_tree.Given as goal

abbrev pub invariant-loop-path : goal.invariant-loop-path
invariant-loop-path l =
    l.text.items ++ flat_map file_text l.path-iterator ≡ l.initial.text.items ++ flat_map file_text (entries l.tree)
