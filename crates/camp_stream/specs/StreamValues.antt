-- Items of a stream as values: its lines, and data with their bytes.
use Rattle.std.specs.Prelude.{ℕ, List}
use Rattle.camp_coding.specs.declared.modes.Mode.{Mode}
use Rattle.camp_stream.specs.declared.items.BareItem.{BareItem}
use Rattle.camp_stream.specs.declared.items.TextItem.{TextItem}
use Rattle.camp_stream.specs.declared.items.StreamItem.{StreamItem}
use Rattle.camp_stream.specs.declared.items.StreamItem.TheVariants as item

-- an item: an empty line; a word alone; a word and a text; a mark; data; an entry to set; an entry to delete
pub data ItemValue : Type 0 where
  Blank : ItemValue
  Bare : BareItem → ItemValue
  Text : TextItem → List ℕ → ItemValue
  Mark : List ℕ → ItemValue
  Data : List ℕ → ItemValue
  Modify : Mode → (content path : List ℕ) → ItemValue
  Delete : List ℕ → ItemValue

-- an item, as a value
abbrev pub value_of_item : StreamItem → ItemValue
value_of_item item.Blank = Blank
value_of_item (item.Bare word) = Bare word
value_of_item (item.Text word text) = Text word text.now
value_of_item (item.Mark mark) = Mark mark.now
value_of_item (item.Data bytes) = Data bytes.now
value_of_item (item.Modify mode content path) = Modify mode content.now path.now
value_of_item (item.Delete path) = Delete path.now
