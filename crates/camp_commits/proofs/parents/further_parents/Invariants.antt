use Rattle.std.proofs.Common.{◌≡◌, drop}
use Rattle.camp_stream.specs.CommandValues.{text_values}
use Rattle.camp_commits.specs.Resolving.{commit_named, each_from, further_parents}
use Rattle.camp_commits.proofs.EachLemmas.{after_others}
use Rattle.camp_commits.proofs.parents.further_parents.Given as goal

abbrev pub invariant-loop-text : goal.invariant-loop-text
invariant-loop-text l =
    after_others l.ids.items (each_from (λ index text. commit_named l.objects text) l.text-index (text_values (drop l.text-index l.texts)))
    ≡ further_parents l.objects (text_values l.texts)
