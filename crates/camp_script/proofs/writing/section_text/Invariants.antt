use Rattle.camp_script.proofs.Common.{◌≡◌, take, flat_map, AllByRecursion, call_text, IsScriptCall}
use Rattle.camp_script.proofs.writing.section_text.Given as goal

abbrev pub invariant-loop-call : goal.invariant-loop-call
invariant-loop-call l = (l.text.items ≡ flat_map call_text (take l.call-index l.calls)) × AllByRecursion IsScriptCall (take l.call-index l.calls)
