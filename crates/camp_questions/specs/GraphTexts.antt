-- Graphs as text, in DOT, the language of Graphviz.
use Rattle.std.specs.Prelude.{ℕ, Bool, ◌&&◌, List, ◌++◌, bytes_eq, codes, if◌then◌else◌}
use Rattle.std.specs.List.{flat_map, list_any}
use Rattle.camp_questions.specs.Pictures.{Picture}
use Rattle.camp_questions.specs.declared.graphs.Node.{Node}

-- a name in quotes; DOT gives no byte of a name a special meaning there
abbrev pub quoted : List ℕ → List ℕ
quoted name = codes "\"" ++ name ++ codes "\""

-- a line of the text: two names, an arrow or a line between them, and attributes after them
abbrev pub arrow_text : List ℕ → List ℕ → List ℕ → List ℕ
arrow_text name other behind = codes "  " ++ quoted name ++ codes " -> " ++ quoted other ++ behind ++ codes "\n"

-- a line for a patch, and one for each of its direct dependencies
abbrev pub node_text : Node → List ℕ
node_text node =
    codes "  " ++ quoted node.name ++ codes ";\n" ++ flat_map (λ on. arrow_text node.name on (codes ";")) node.needs

-- the attributes of a conflict: without arrowhead and without influence on the layout; an unresolved one is bold and
-- red, a resolved one dashed and pale
abbrev pub conflict_style : Bool → List ℕ
conflict_style is_open =
    if is_open then codes " [dir=none, constraint=false, color=red, style=bold];"
    else codes " [dir=none, constraint=false, color=rosybrown2, style=dashed];"

-- a pair of names is in a list
abbrev pub is_pair_among : List (List ℕ × List ℕ) → List ℕ × List ℕ → Bool
is_pair_among pairs pair = list_any (λ other. bytes_eq pair.0 other.0 && bytes_eq pair.1 other.1) pairs

-- a line for two patches in conflict
abbrev pub conflict_text : List (List ℕ × List ℕ) → List ℕ × List ℕ → List ℕ
conflict_text pairs pair = arrow_text pair.0 pair.1 (conflict_style (is_pair_among pairs pair))

-- the first lines of a graph: layers run from left to right, each patch before its dependencies; names stand in boxes
abbrev pub heading : List ℕ
heading =
    codes "digraph {\n  rankdir=LR;\n  node [shape=box, style=rounded, height=0.3];\n  edge [color=gray50, arrowsize=0.6];\n"

-- the patches in order, followed by the pairs in conflict
abbrev pub graph_text : Picture → List ℕ
graph_text picture =
    heading ++ flat_map node_text picture.patches ++ flat_map (conflict_text picture.unsettled) picture.conflicts
    ++ codes "}\n"
