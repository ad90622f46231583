-- The texts of answers.
use Rattle.std.specs.Prelude.{◌≢◌, ℕ, List, [], ◌∷◌, ◌++◌, length, codes, Result, Ok, Err}
use Rattle.std.specs.List.{flat_map, join_with_byte}
use Rattle.std.specs.Fmt.{decimal}
use Rattle.std.specs.FinMap.{entries, len}
use Rattle.camp_base.specs.Signs.{newline, space}
use Rattle.camp_base.specs.Trees.{Lines, Files}
use Rattle.camp_object.specs.declared.faults.Fault.{Fault}
use Rattle.camp_object.specs.declared.faults.Fault.TheVariants.{Memory, Busy, Full}
use Rattle.camp_call.specs.declared.replies.Refusal.{Refusal}
use Rattle.camp_call.specs.declared.replies.Refusal.TheVariants.{NoBranch, BranchExists, PatchExists, NoPatch}
use Rattle.camp_call.specs.declared.replies.Refusal.TheVariants.{NothingToDo, TooLarge, DoesNotApply, Depends}
use Rattle.camp_call.specs.declared.replies.Refusal.TheVariants.{Diverged, NoMerge, SameBranch}
use Rattle.camp_call.specs.declared.replies.Reply.{Reply}
use Rattle.camp_call.specs.declared.replies.Reply.TheVariants.{Done, Refused, Tree, Conflicts, Names}
use Rattle.camp_script.specs.Signs.{equals_sign}

-- a line of words: one space between them, and a line feed at the end
abbrev pub line_text : List (List ℕ) → List ℕ
line_text words = join_with_byte space words ++ newline ∷ []

-- a line of a file or of a side of a hunk: a sign, the bytes, and a line feed
abbrev pub signed_line : ℕ → List ℕ → List ℕ
signed_line sign bytes = sign ∷ bytes ++ newline ∷ []

-- the number of a refusal, and the names that it is about
abbrev pub refusal_words : Refusal → List (List ℕ)
refusal_words (NoBranch branch) = decimal 4 ∷ branch ∷ []
refusal_words (BranchExists branch) = decimal 5 ∷ branch ∷ []
refusal_words (PatchExists name) = decimal 6 ∷ name ∷ []
refusal_words (NoPatch name) = decimal 7 ∷ name ∷ []
refusal_words NothingToDo = decimal 8 ∷ []
refusal_words TooLarge = decimal 9 ∷ []
refusal_words DoesNotApply = decimal 10 ∷ []
refusal_words (Depends patch on) = decimal 11 ∷ patch ∷ on ∷ []
refusal_words (Diverged name) = decimal 12 ∷ name ∷ []
refusal_words (NoMerge left right) = decimal 13 ∷ left ∷ right ∷ []
refusal_words (SameBranch branch) = decimal 14 ∷ branch ∷ []

-- a file: its path and the number of its lines, followed by each line after `=`
abbrev pub file_text : List ℕ × Lines → List ℕ
file_text file = line_text (codes "file" ∷ file.0 ∷ decimal (length file.1) ∷ []) ++ flat_map (signed_line equals_sign) file.1

-- a tree: the number of its files, followed by each in the order of the bytes of the paths
abbrev pub tree_text : Files → List ℕ
tree_text tree = line_text (codes "tree" ∷ decimal (len tree) ∷ []) ++ flat_map file_text (entries tree)

-- the line of two patches in conflict
abbrev pub pair_text : List ℕ × List ℕ → List ℕ
pair_text pair = line_text (pair.0 ∷ pair.1 ∷ [])

-- conflicts: their number, followed by each
abbrev pub conflicts_text : List (List ℕ × List ℕ) → List ℕ
conflicts_text pairs = line_text (codes "conflicts" ∷ decimal (length pairs) ∷ []) ++ flat_map pair_text pairs

-- the line of a name
abbrev pub name_text : List ℕ → List ℕ
name_text name = line_text (name ∷ [])

-- names: their number, followed by each
abbrev pub names_text : List (List ℕ) → List ℕ
names_text names = line_text (codes "names" ∷ decimal (length names) ∷ []) ++ flat_map name_text names

-- the text of a reply
abbrev pub reply_text : Reply → List ℕ
reply_text (Done at) = line_text (codes "ok" ∷ decimal at ∷ [])
reply_text (Refused refusal) = line_text (codes "refused" ∷ refusal_words refusal)
reply_text (Tree tree) = tree_text tree
reply_text (Conflicts pairs) = conflicts_text pairs
reply_text (Names names) = names_text names

-- an answer has a text, unless its call ran out of memory
abbrev pub HasText : Result Reply Fault → Type 0
HasText answer = answer ≢ Err Memory

-- the answer to a call: its reply, or why it got none; there is no text if memory ran out
abbrev pub answer_text : Result Reply Fault → List ℕ
answer_text (Ok reply) = reply_text reply
answer_text (Err Memory) = []
answer_text (Err (Busy lost)) = line_text (codes "busy" ∷ decimal lost ∷ [])
answer_text (Err Full) = line_text (codes "full" ∷ [])
