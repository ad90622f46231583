use Rattle.camp_script.proofs.Common.{◌≡◌, take, AllByRecursion, CanBeInScript, calls_of, section_text}
use Rattle.camp_script.proofs.writing.kept_text.Given as goal

abbrev pub invariant-loop-entry : goal.invariant-loop-entry
invariant-loop-entry l =
    (l.text.items ≡ section_text (calls_of (take l.entry-index l.history))) × AllByRecursion CanBeInScript (calls_of (take l.entry-index l.history))
