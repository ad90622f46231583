-- Labels and labelled primitives as text.
use Rattle.std.specs.Prelude.{ℕ, Bool, false, Option, Some, None, ◌==◌, if◌then◌else◌, List, [], ◌++◌, codes}
use Rattle.std.specs.List.{find}
use Rattle.std.specs.Ordering.{is_eq}
use Rattle.std.specs.Fmt.{decimal}
use Rattle.std.specs.Cmp.Lexicographic.{pointwise}
use Rattle.camp_prim.specs.Hunks.{Edit}
use Rattle.camp_prim.specs.Labels.{label_cmp, label_of}
use Rattle.camp_prim.specs.declared.labels.Label.{Label}
use Rattle.camp_prim.specs.declared.primitives.Primitive.{Primitive}
use Rattle.camp_prim.specs.declared.primitives.Primitive.TheVariants.{Add, Remove, Hunk}
use Rattle.camp_prim.specs.declared.named.Named.{Named}
use Rattle.camp_notation.specs.Words.{word_text, lines_text}

-- a position: `.PLACE`, or nothing for position 1
abbrev pub place_text : ℕ → List ℕ
place_text place = if place == 1 then [] else codes "." ++ decimal place

-- a sign: `^` for an inverse, else nothing
abbrev pub sign_text : Bool → List ℕ
sign_text inverse = if inverse then codes "^" else []

-- a label: NAME.PLACE^
abbrev pub label_text : Label → List ℕ
label_text label = label.name ++ place_text label.place ++ sign_text label.inverse

-- a hunk: PATH LINE [OLD, ..] -> [NEW, ..]
abbrev pub hunk_text : Edit → List ℕ
hunk_text hunk =
    word_text hunk.path ++ codes " " ++ decimal hunk.line ++ codes " " ++ lines_text hunk.old
    ++ codes " -> " ++ lines_text hunk.new

-- a primitive: add PATH, remove PATH, or a hunk
abbrev pub change_text : Primitive → List ℕ
change_text (Add path) = codes "add " ++ word_text path
change_text (Remove path) = codes "remove " ++ word_text path
change_text (Hunk hunk) = hunk_text hunk

-- a labelled primitive: LABEL CHANGE
abbrev pub whole_text : Named → List ℕ
whole_text p = label_text (label_of p) ++ codes " " ++ change_text p.prim

-- the primitive that a label alone represents: the first of the known ones with that label
abbrev pub first_with : Label → List Named → Option Named
first_with label known = find (λ k. is_eq (label_cmp (label_of k) label)) known

-- a primitive was found, and this is its text
abbrev pub has_text : List ℕ → Option Named → Bool
has_text text None = false
has_text text (Some k) = pointwise ◌==◌ (whole_text k) text

-- a primitive is the one that its label alone represents
abbrev pub is_known : List Named → Named → Bool
is_known known p = has_text (whole_text p) (first_with (label_of p) known)

-- a labelled primitive: by its label alone if that represents it, else as a whole
abbrev pub named_text : List Named → Named → List ℕ
named_text known p = if is_known known p then label_text (label_of p) else whole_text p
