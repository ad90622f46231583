-- Groups lines into edits, groups and sections, by their first words alone: a line with a fault is grouped like any
-- other. A script is read only up to its first fault; in a conversation the lines after a fault still decide where its
-- command ends.
--
-- An example, a group of one edit followed by a question. These six lines are four entries, and those are two items:
--     1  record main all group     entry 1               item 1, which begins a group
--     2  edit f 1                  entry 2, an edit        .
--     3  +one                        .                     .
--     4  end                         .                     .
--     5  done                      entry 5                 .
--     6  tree main                 entry 6               item 6
use Rattle.std.specs.Prelude.{ℕ, ◌+◌, Bool, true, false, not, ◌&&◌, ◌||◌, if◌then◌else◌}
use Rattle.std.specs.Prelude.{List, [], ◌∷◌, drop, bytes_eq, codes}
use Rattle.camp_script.specs.Lines.{words_of}

-- a line of a script, and its number
pub record NumberedLine : Type 0 where
  pub number : ℕ
  pub bytes : List ℕ

-- lines with their numbers, which begin at `number`
abbrev pub numbered : ℕ → List (List ℕ) → List NumberedLine
numbered number [] = []
numbered number (bytes ∷ lines) = record { number = number; bytes = bytes } ∷ numbered (number + 1) lines

-- an element of a list, and those after it that belong to it
pub record Piece (A : Type 0) : Type 0 where
  pub head : A
  pub rest : List A

-- the elements up to the first that closes, which is included; all of them if none closes
abbrev pub up_to : {A : Type 0} → (A → Bool) → List A → List A
up_to closes [] = []
up_to closes (first ∷ others) = first ∷ (if closes first then [] else up_to closes others)

-- a list cut into pieces: an element that opens a piece is followed by the others of its piece, up to the first that
-- closes it; any other element is a piece of its own
abbrev pub pieces : {A : Type 0} → (A → Bool) → (A → Bool) → Bool → List A → List (Piece A)
pieces opens closes is_open [] = []
pieces opens closes true (first ∷ others) = pieces opens closes (not (closes first)) others
pieces opens closes false (first ∷ others) =
    record { head = first; rest = if opens first then up_to closes others else [] }
    ∷ pieces opens closes (opens first) others

-- whether words begin with this one
abbrev pub begins_with : List ℕ → List (List ℕ) → Bool
begins_with word [] = false
begins_with word (first ∷ words) = bytes_eq first word

-- whether words are `record BRANCH NAME CHANGE ..`, with this change word
abbrev pub begins_record : List ℕ → List (List ℕ) → Bool
begins_record change words = begins_with (codes "record") words && begins_with change (drop 3 words)

-- words begin an edit: `record BRANCH NAME edit ..`, or `edit ..`, which is valid only in a group
abbrev pub begins_edit : List (List ℕ) → Bool
begins_edit words = begins_with (codes "edit") words || begins_record (codes "edit") words

-- whether words begin a group: `record BRANCH NAME group ..`
abbrev pub begins_group : List (List ℕ) → Bool
begins_group words = begins_record (codes "group") words

-- the words of a line
abbrev pub words_on : NumberedLine → List (List ℕ)
words_on line = words_of line.bytes

-- whether a line ends the body of an edit: it is just `end`
abbrev pub ends_body : NumberedLine → Bool
ends_body line = bytes_eq line.bytes (codes "end")

-- a line and, if it begins an edit, the lines of its body, up to `end` or else to the last
abbrev pub Entry : Type 0
Entry = Piece NumberedLine

-- the entries of lines
abbrev pub line_entries : List NumberedLine → List Entry
line_entries lines = pieces (λ line. begins_edit (words_on line)) ends_body false lines

-- the words of the first line of an entry
abbrev pub entry_words : Entry → List (List ℕ)
entry_words entry = words_on entry.head

-- whether an entry ends a group: its first word is `done`
abbrev pub ends_group : Entry → Bool
ends_group entry = begins_with (codes "done") (entry_words entry)

-- an entry and, if it begins a group, its entries, up to `done` or else to the last
abbrev pub Item : Type 0
Item = Piece Entry

-- the items that entries make
abbrev pub items_of : List Entry → List Item
items_of entries = pieces (λ entry. begins_group (entry_words entry)) ends_group false entries

-- the first line of an item
abbrev pub item_line : Item → NumberedLine
item_line item = item.head.head

-- whether an item is a line of a client: its first word is `client`
abbrev pub is_client : Item → Bool
is_client item = begins_with (codes "client") (words_on (item_line item))

-- the items of the first section: those before the first line of a client
abbrev pub first_section : List Item → List Item
first_section [] = []
first_section (item ∷ others) = if is_client item then [] else item ∷ first_section others

-- the sections of clients: each line `client`, with the items after it up to the next one
abbrev pub clients_of : List Item → List (Piece Item)
clients_of [] = []
clients_of (item ∷ others) =
    if is_client item then record { head = item; rest = first_section others } ∷ clients_of others else clients_of others
