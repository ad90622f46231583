-- Makes a file with its hunks, one hunk after the other.
use Rattle.camp_questions.proofs.Words.{append-nil, ◌≡◌, ◌<◌, ◌≤◌, ℕ, ◌+◌, Bool, true, false, cond, List, [], ◌∷◌, ◌++◌, drop, filter, get_or, length, map, take, sym, ap, ◌∙◌, append_assoc, drop_more, map-append, Lines, get_or-map, File, MarkedHunk, at_range, differs_within, file_from, hunk_from, range_of, Version, Range, take_more, filter-append, drop_of_length-le, is_within}

-- a file with hunks before its own
abbrev pub behind_places : List MarkedHunk → File → File
behind_places places file = record { places = places ++ file.places; rest = file.rest }

-- one more element of a list passes a test and has an image, or does not pass
pub one_more_image : {X Y : Type 0} (f : X → Y) (test : X → Bool) (list : List X) (i : ℕ) (x d : X) (images next : List Y) → i < length list → x ≡ get_or list i d → images ≡ map f (filter test (take i list)) → next ≡ cond (test x) (images ++ f x ∷ []) images → next ≡ map f (filter test (take (i + 1) list))
one_more_image f test list i x d images next within is so_far becomes =
    becomes ∙ more (test x) ∙ sym (ap (λ l. map f (filter test l)) (take_more list i d within ∙ ap (λ y. take i list ++ y ∷ []) (sym is)) ∙ ap (map f) (filter-append test (take i list) (x ∷ [])))
  where
    more : (b : Bool) → cond b (images ++ f x ∷ []) images ≡ map f (filter test (take i list) ++ cond b (x ∷ []) [])
    more true = ap (λ l. l ++ f x ∷ []) so_far ∙ sym (map-append f (filter test (take i list)) (x ∷ []))
    more false = so_far ∙ ap (map f) (sym (append-nil (filter test (take i list))))

pub one_more_side : (lines : Lines) (place : Range) (versions : List Version) (i : ℕ) (version d : Version) (range : Range) (sides next : List Version) → i < length versions → version ≡ get_or versions i d → sides ≡ map (at_range lines place) (filter (differs_within lines place) (take i versions)) → range ≡ range_of lines version.lines → next ≡ cond (is_within range place) (sides ++ at_range lines place version ∷ []) sides → next ≡ map (at_range lines place) (filter (differs_within lines place) (take (i + 1) versions))
one_more_side lines place versions i version d range sides next within is was of becomes =
    one_more_image (at_range lines place) (differs_within lines place) versions i version d sides next within is was (becomes ∙ ap (λ r. cond (is_within r place) (sides ++ at_range lines place version ∷ []) sides) of)

-- the range at an index is that of the version there
pub range_there : (lines : Lines) (versions : List Version) (ranges : List Range) (i : ℕ) (range d : Range) (version : Version) → ranges ≡ map (λ (v : Version). range_of lines v.lines) versions → i < length versions → range ≡ get_or ranges i d → version ≡ get_or versions i version → range ≡ range_of lines version.lines
range_there lines versions ranges i range d version are within is there =
    is ∙ ap (λ l. get_or l i d) are ∙ get_or-map (λ (v : Version). range_of lines v.lines) versions i version d within ∙ ap (λ (v : Version). range_of lines v.lines) (sym there)

-- one more hunk of a file
pub one_more_place : (lines : Lines) (versions : List Version) (found : List Range) (i : ℕ) (range d : Range) (at : ℕ) (places next : List MarkedHunk) (place : MarkedHunk) (whole : File) → i < length found → range ≡ get_or found i d → place ≡ hunk_from lines versions at range → next ≡ places ++ place ∷ []
    → behind_places places (file_from lines versions at (drop i found)) ≡ whole → behind_places next (file_from lines versions range.to (drop (i + 1) found)) ≡ whole
one_more_place lines versions found i range d at places next place whole within is made becomes was =
    let rest = file_from lines versions range.to (drop (i + 1) found) in
    let here : drop i found ≡ range ∷ drop (i + 1) found = drop_more found i d within ∙ ap (λ r. r ∷ drop (i + 1) found) (sym is) in
    ap (λ l. behind_places l rest) (becomes ∙ ap (λ p. places ++ p ∷ []) made) ∙ ap (λ l. record { places = l; rest = rest.rest }) (append_assoc places (hunk_from lines versions at range ∷ []) rest.places)
    ∙ ap (λ l. behind_places places (file_from lines versions at l)) (sym here) ∙ was

-- a file of hunks and the lines after the last one
abbrev pub file_of : List MarkedHunk → Lines → File
file_of places rest = record { places = places; rest = rest }

-- all hunks are made
pub all_places : (lines : Lines) (versions : List Version) (found : List Range) (i at : ℕ) (places : List MarkedHunk) (whole : File) → length found ≤ i → behind_places places (file_from lines versions at (drop i found)) ≡ whole → file_of places (drop at lines) ≡ whole
all_places lines versions found i at places whole past was =
    ap (λ l. record { places = l; rest = drop at lines }) (sym (append-nil places))
    ∙ ap (λ l. behind_places places (file_from lines versions at l)) (sym (drop_of_length-le found past)) ∙ was
