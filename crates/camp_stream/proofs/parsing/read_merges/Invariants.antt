use Rattle.std.proofs.Common.{◌≡◌, ◌-◌, length}
use Rattle.camp_stream.specs.CommandValues.{text_values}
use Rattle.camp_stream.specs.Commands.{many, optional_text}
use Rattle.camp_stream.specs.declared.items.TextItem.TheVariants as text
use Rattle.camp_stream.proofs.CommandLemmas.{after_others}
use Rattle.camp_stream.proofs.parsing.read_merges.Given as goal

abbrev pub invariant-merges : goal.invariant-merges
invariant-merges l =
    after_others (text_values l.merges.items) (many (optional_text text.Merge) (length l.bytes - l.counter) l.rest) ≡ many (optional_text text.Merge) (length l.bytes) l.bytes
