use Rattle.camp_script.proofs.Common.{◌≡◌, ◌++◌, take, flat_map, name_text}
use Rattle.camp_script.proofs.texts.append_names.Given as goal

abbrev pub invariant-loop-name : goal.invariant-loop-name
invariant-loop-name l = l.text.items ≡ l.initial.text.items ++ flat_map name_text (take l.name-index l.names)
