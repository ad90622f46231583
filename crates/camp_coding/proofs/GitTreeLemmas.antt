-- Camp trees that are codes of git trees.
use Rattle.std.proofs.Common.{◌≡◌, ℕ, Bool, true, false, true≢false, not, ◌==◌, List, [], ◌∷◌, ◌++◌, ◌<◌, ◌≤◌, get_or, length, refl, sym, ◌∙◌, ap, subst, ◌⊎◌, inl, inr, ⊎_elim, Option, None, Some, Result, Ok, Err, arith, append-nil}
use Rattle.std.specs.Prelude.{option_and_then, is_some, if◌then◌else◌}
use Rattle.std.specs.List.{slice_split}
use Rattle.std.specs.FinMap.{get, insert, remove}
use Rattle.std.proofs.lemmas.Bool.{cases_Bool, cond-true, cond-false, eqb-true}
use Rattle.std.proofs.lemmas.List.{nil_from_length}
use Rattle.std.proofs.lemmas.Option.{same_Some}
use Rattle.camp_base.specs.Bytes.{is_path}
use Rattle.camp_base.specs.Trees.{Files, Lines}
use Rattle.camp_coding.specs.Contents.{Encodes, HasLines, between_newlines, content_lines, decoded, has_full_last, lacks_last_newline, needs_pieces, stored_lines, without_empty_end}
use Rattle.camp_coding.specs.GitPaths.{AreBytes}
use Rattle.camp_coding.specs.GitTrees.{DecodesFile, EncodesTree, GitEntries, GitFile, IsEntryPlace, LacksCampPath, PutsFile, RemovesFile, TouchesOnly, TreesComeBack, empty_file_if, file_at, is_regular, mode_lines, most_lines, place_lines, place_path}
use Rattle.camp_coding.specs.Inside.Placing.{AtNoPath, ClearsPlace, HasPathsOnly, SetsFile, SetsPlace}
use Rattle.camp_coding.specs.Inside.Splitting.{AreLinesBefore}
use Rattle.camp_coding.specs.declared.attributes.Attribute.{Attribute}
use Rattle.camp_coding.specs.declared.attributes.Attribute.TheVariants.{ModeLine, LacksNewline, Wrapped, EmptyCommit}
use Rattle.camp_coding.specs.declared.modes.Mode.{Mode}
use Rattle.camp_coding.specs.declared.modes.Mode.TheVariants.{Regular, Executable, Symlink, Submodule}
use Rattle.camp_coding.specs.Modes.{mode_text}
use Rattle.camp_coding.specs.declared.trees.EncodeFault.{EncodeFault}
use Rattle.camp_coding.specs.declared.trees.EncodeFault.TheVariants.{BadPath, TooManyLines, Memory}
use Rattle.camp_coding.proofs.ContentLemmas.{come_back, content_lines_from_pieces, lacks_from_pieces, lines_from_pieces, no_pieces}
use Rattle.camp_coding.proofs.PlaceLemmas.{bytes_or_not, at_path_case, inserted_at, inserted_other, no_file, place_code, place_or_not, places_differ, removed_at, removed_other}

-- the files of an entry are set, and nothing else
pub record SetsPlaces (path : List ℕ) (lines : Option Attribute → Option Lines) (old new : Files) : Type 0 where
  pub content : get new (place_path None path) ≡ lines None
  pub mode : get new (place_path (Some ModeLine) path) ≡ lines (Some ModeLine)
  pub newline : get new (place_path (Some LacksNewline) path) ≡ lines (Some LacksNewline)
  pub wrapped : get new (place_path (Some Wrapped) path) ≡ lines (Some Wrapped)
  pub commit : get new (place_path (Some EmptyCommit) path) ≡ get old (place_path (Some EmptyCommit) path)
  pub other : (camp_path : List ℕ) → ((place : Option Attribute) → ¬ (camp_path ≡ place_path place path)) → get new camp_path ≡ get old camp_path

module _ (path : List ℕ) (bytes : AreBytes path) where
  beside : (place other : Option Attribute) → ¬ (place_code place ≡ place_code other) → ¬ (place_path place path ≡ place_path other path)
  beside place other codes same = codes (places_differ place other path path bytes bytes same).0

  -- four places that are set one after another
  pub four_set : (lines : Option Attribute → Option Lines) (f0 f1 f2 f3 f4 : Files) → SetsFile (place_path None path) (lines None) f0 f1 → SetsFile (place_path (Some ModeLine) path) (lines (Some ModeLine)) f1 f2 → SetsFile (place_path (Some LacksNewline) path) (lines (Some LacksNewline)) f2 f3 → SetsFile (place_path (Some Wrapped) path) (lines (Some Wrapped)) f3 f4 → SetsPlaces path lines f0 f4
  four_set lines f0 f1 f2 f3 f4 s1 s2 s3 s4 = record {
    content = (
        s4.other _ (beside None (Some Wrapped) (λ (e : 0 ≡ 119). omega (arith, e)))
        ∙ s3.other _ (beside None (Some LacksNewline) (λ (e : 0 ≡ 110). omega (arith, e)))
        ∙ s2.other _ (beside None (Some ModeLine) (λ (e : 0 ≡ 109). omega (arith, e)))
        ∙ s1.at
        );
    mode = (
        s4.other _ (beside (Some ModeLine) (Some Wrapped) (λ (e : 109 ≡ 119). omega (arith, e)))
        ∙ s3.other _ (beside (Some ModeLine) (Some LacksNewline) (λ (e : 109 ≡ 110). omega (arith, e)))
        ∙ s2.at
        );
    newline = s4.other _ (beside (Some LacksNewline) (Some Wrapped) (λ (e : 110 ≡ 119). omega (arith, e))) ∙ s3.at;
    wrapped = s4.at;
    commit = (
        s4.other _ (beside (Some EmptyCommit) (Some Wrapped) (λ (e : 101 ≡ 119). omega (arith, e)))
        ∙ s3.other _ (beside (Some EmptyCommit) (Some LacksNewline) (λ (e : 101 ≡ 110). omega (arith, e)))
        ∙ s2.other _ (beside (Some EmptyCommit) (Some ModeLine) (λ (e : 101 ≡ 109). omega (arith, e)))
        ∙ s1.other _ (beside (Some EmptyCommit) None (λ (e : 101 ≡ 0). omega (arith, e)))
        );
    other = λ camp_path differs.
        s4.other camp_path (differs (Some Wrapped))
        ∙ s3.other camp_path (differs (Some LacksNewline))
        ∙ s2.other camp_path (differs (Some ModeLine))
        ∙ s1.other camp_path (differs None);
  }

-- four places are set, so no file differs elsewhere
touched : (path : List ℕ) (l0 l1 l2 l3 : Option Lines) (f0 f1 f2 f3 f4 : Files) → SetsFile (place_path None path) l0 f0 f1 → SetsFile (place_path (Some ModeLine) path) l1 f1 f2 → SetsFile (place_path (Some LacksNewline) path) l2 f2 f3 → SetsFile (place_path (Some Wrapped) path) l3 f3 f4 → TouchesOnly path f0 f4
touched path l0 l1 l2 l3 f0 f1 f2 f3 f4 s1 s2 s3 s4 = λ camp_path d0 d1 d2 d3.
    s4.other camp_path d3 ∙ s3.other camp_path d2 ∙ s2.other camp_path d1 ∙ s1.other camp_path d0

never : (entry : Option GitFile) → option_and_then (place_lines (Some EmptyCommit)) entry ≡ None
never None = refl
never (Some file) = refl

-- the entry of a path is set, and the tree is the code of the tree with that entry
module _ (path : List ℕ) (bytes : AreBytes path) (git git' : GitEntries) (entry : Option GitFile) (f0 f4 : Files) (was : EncodesTree git f0) (only : HasPathsOnly f4) (sets : SetsPlaces path (λ place. option_and_then (place_lines place) entry) f0 f4) (git_at : get git' path ≡ entry) (git_other : (other : List ℕ) → ¬ (other ≡ path) → get git' other ≡ get git other) where
  own : (place : Option Attribute) → get f4 (place_path place path) ≡ option_and_then (place_lines place) entry
  own None = sets.content
  own (Some ModeLine) = sets.mode
  own (Some LacksNewline) = sets.newline
  own (Some Wrapped) = sets.wrapped
  own (Some EmptyCommit) =
      sets.commit ∙ was.each (Some EmptyCommit) path bytes ∙ never (get git path) ∙ sym (never entry)

  pub entry_set : EncodesTree git' f4
  entry_set = record {
    each = λ place other other_bytes.
        ⊎_elim
        (λ same.
        ap (λ (p : List ℕ). get f4 (place_path place p)) same
        ∙ own place
        ∙ ap (option_and_then (place_lines place)) (sym git_at ∙ ap (get git') (sym same)))
        (λ differs.
        sets.other _ (λ another same. differs (places_differ place another other path other_bytes bytes same).1)
        ∙ was.each place other other_bytes
        ∙ ap (option_and_then (place_lines place)) (sym (git_other other differs)))
        (bytes_or_not other path);
    nothing_else = λ camp_path lines found.
        ⊎_elim
        (λ place. record { place = place.0; path = path; bytes = bytes; is = place.1 })
        (λ differs. was.nothing_else camp_path lines (sym (sets.other camp_path differs) ∙ found))
        (place_or_not camp_path path);
    paths = only;
  }

-- an entry is put
pub entry_put : (path : List ℕ) → AreBytes path → (file : GitFile) (git : GitEntries) (f0 f4 : Files) → HasPathsOnly f4 → SetsPlaces path (λ place. place_lines place file) f0 f4 → EncodesTree git f0 → EncodesTree (insert git path file) f4
entry_put path bytes file git f0 f4 only sets was =
    entry_set path bytes git (insert git path file) (Some file) f0 f4 was only (record {
      content = sets.content;
      mode = sets.mode;
      newline = sets.newline;
      wrapped = sets.wrapped;
      commit = sets.commit;
      other = sets.other;
    }) (inserted_at git path file) (inserted_other git path file)

-- an entry is removed
pub entry_removed : (path : List ℕ) → AreBytes path → (git : GitEntries) (f0 f4 : Files) → HasPathsOnly f4 → SetsPlaces path (λ place. None) f0 f4 → EncodesTree git f0 → EncodesTree (remove git path) f4
entry_removed path bytes git f0 f4 only sets was =
    entry_set path bytes git (remove git path) None f0 f4 was only (record {
      content = sets.content;
      mode = sets.mode;
      newline = sets.newline;
      wrapped = sets.wrapped;
      commit = sets.commit;
      other = sets.other;
    }) (removed_at git path) (removed_other git path)

last_of : (pieces : Lines) → (pieces ≡ []) ⊎ ((before : Lines) × (last : List ℕ) × (before ++ last ∷ [] ≡ pieces))
last_of [] = inl refl
last_of (piece ∷ pieces) =
    ⊎_elim
    (λ none. inr ([], piece, ap (λ (l : Lines). piece ∷ l) (sym none)))
    (λ more. inr (piece ∷ more.0, more.1, ap (λ (l : Lines). piece ∷ l) more.2))
    (last_of pieces)

-- the lines of a content are lines of it
pub has_content_lines : (content : List ℕ) → HasLines content (content_lines content) (lacks_last_newline content)
has_content_lines content =
    ⊎_elim
    (λ none.
    subst (HasLines content (content_lines content)) (sym (ap has_full_last none))
    (no_pieces content (content_lines content) (ap without_empty_end none ∙ sym none) (ap without_empty_end none)))
    (λ view. by_last view.0 view.1 view.2)
    (last_of (between_newlines content))
  where
    ends_with : (before : Lines) (last : List ℕ) (lines : Lines) (lacks : Bool) → before ++ last ∷ [] ≡ between_newlines content → AreLinesBefore before last lines lacks → HasLines content (content_lines content) (lacks_last_newline content)
    ends_with before last lines lacks is are =
        subst (λ (l : Lines). HasLines content l (lacks_last_newline content)) (content_lines_from_pieces content before last lines lacks is are)
        (subst (HasLines content lines) (lacks_from_pieces content before last lines lacks is are) (lines_from_pieces content before last lines lacks is are))

    some : (last : List ℕ) → (length last == 0) ≡ false → 0 < length last
    some [] is = absurd (true≢false is)
    some (byte ∷ bytes) is = omega arith

    by_last : (before : Lines) (last : List ℕ) → before ++ last ∷ [] ≡ between_newlines content → HasLines content (content_lines content) (lacks_last_newline content)
    by_last before last is =
        ⊎_elim
        (λ empty. ends_with before last before false is (refl, nil_from_length last (eqb-true (length last) 0 empty)))
        (λ full. ends_with before last (before ++ last ∷ []) true is (refl, some last full))
        (cases_Bool (length last == 0))

-- what a content is stored as is decoded to it
pub content_back : (content : List ℕ) → decoded (stored_lines content) (needs_pieces content) (lacks_last_newline content) ≡ Some content
content_back content =
    come_back content (stored_lines content) (needs_pieces content) (lacks_last_newline content)
    (record { lines = content_lines content; has = has_content_lines content; wraps = refl; stored_is = refl })

-- the mode of a file of a mode
abbrev mode_back : Option Lines → Mode
mode_back None = Regular
mode_back (Some lines) =
    if get_or (get_or lines 0 []) 1 0 == 50 then Symlink
    else (if get_or (get_or lines 0 []) 1 0 == 54 then Submodule else Executable)

back_to_mode : (mode : Mode) → mode_back (mode_lines mode) ≡ mode
back_to_mode Regular = refl
back_to_mode Executable = refl
back_to_mode Symlink = refl
back_to_mode Submodule = refl

pub modes_differ : (mode other : Mode) → mode_lines mode ≡ mode_lines other → mode ≡ other
modes_differ mode other same = sym (back_to_mode mode) ∙ ap mode_back same ∙ back_to_mode other

flag_back : (is_set : Bool) → is_some (empty_file_if is_set) ≡ is_set
flag_back true = refl
flag_back false = refl

-- if the files of a tree are at valid paths of camp, the file of a path of git or of its attribute is the one at its path in camp
pub file_at_is : (files : Files) (place : Option Attribute) (path : List ℕ) → HasPathsOnly files → file_at files place path ≡ get files (place_path place path)
file_at_is files place path only =
    ⊎_elim
    (λ is. cond-true _ _ _ is)
    (λ is_not. cond-false _ _ _ is_not ∙ sym (no_file _ files is_not only))
    (cases_Bool (is_path (place_path place path)))

-- the files of an entry are its code
decodes : (files : Files) (path : List ℕ) (file : GitFile) → ((place : Option Attribute) → file_at files place path ≡ place_lines place file) → DecodesFile files path file
decodes files path file at =
    let stored = stored_lines file.content in
    let wraps = ap is_some (at (Some Wrapped)) ∙ flag_back (needs_pieces file.content) in
    let lacks = ap is_some (at (Some LacksNewline)) ∙ flag_back (lacks_last_newline file.content) in
    record {
      stored = stored;
      found = at None;
      mode = at (Some ModeLine);
      content = (
          ap (λ (b : Bool). decoded stored b (is_some (file_at files (Some LacksNewline) path))) wraps
          ∙ ap (λ (b : Bool). decoded stored (needs_pieces file.content) b) lacks
          ∙ content_back file.content
          );
    }

-- two entries with one code are equal
pub decodes_one : (files : Files) (path : List ℕ) (file other : GitFile) → DecodesFile files path file → DecodesFile files path other → file ≡ other
decodes_one files path file other one two =
    let stored : one.stored ≡ two.stored = same_Some _ _ (sym one.found ∙ two.found) in
    let mode : file.mode ≡ other.mode = modes_differ _ _ (sym one.mode ∙ two.mode) in
    let content : file.content ≡ other.content =
    same_Some _ _
    (sym one.content
    ∙ ap (λ (l : Lines). decoded l (is_some (file_at files (Some Wrapped) path)) (is_some (file_at files (Some LacksNewline) path))) stored
    ∙ two.content) in
    ap (λ (m : Mode). record { mode = m; content = file.content }) mode
    ∙ ap (λ (c : List ℕ). record { mode = other.mode; content = c }) content

by_entry : (files : Files) (path : List ℕ) (file : GitFile) (entry : Option GitFile) → ((place : Option Attribute) → file_at files place path ≡ option_and_then (place_lines place) entry) → DecodesFile files path file → entry ≡ Some file
by_entry files path file None at is = absurd (true≢false (ap is_some (sym is.found ∙ at None)))
by_entry files path file (Some other) at is = ap Some (decodes_one files path other file (decodes files path other at) is)

pub trees_back : TreesComeBack
trees_back git files encodes path bytes file =
    let at : (place : Option Attribute) → file_at files place path ≡ option_and_then (place_lines place) (get git path) =
    λ place. file_at_is files place path encodes.paths ∙ encodes.each place path bytes in (
      by_entry files path file (get git path) at,
      λ is. decodes files path file (λ place. at place ∙ ap (option_and_then (place_lines place)) is),
    )

-- no file of an entry, so no code
pub no_stored : (files : Files) (path : List ℕ) → file_at files None path ≡ None → (file : GitFile) → ¬ (DecodesFile files path file)
no_stored files path none file is = true≢false (ap is_some (sym is.found ∙ none))

-- the code of an entry, by its parts
module _ (files : Files) (path : List ℕ) (stored : Lines) (wraps lacks : Bool) (found : file_at files None path ≡ Some stored) (wraps_is : wraps ≡ is_some (file_at files (Some Wrapped) path)) (lacks_is : lacks ≡ is_some (file_at files (Some LacksNewline) path)) where
  decoded_is : (other : Lines) → stored ≡ other → decoded other (is_some (file_at files (Some Wrapped) path)) (is_some (file_at files (Some LacksNewline) path)) ≡ decoded stored wraps lacks
  decoded_is other same =
      ap (λ (l : Lines). decoded l (is_some (file_at files (Some Wrapped) path)) (is_some (file_at files (Some LacksNewline) path))) (sym same)
      ∙ ap (λ (b : Bool). decoded stored b (is_some (file_at files (Some LacksNewline) path))) (sym wraps_is)
      ∙ ap (λ (b : Bool). decoded stored wraps b) (sym lacks_is)

  -- the lines stand for no content
  pub no_content : decoded stored wraps lacks ≡ None → (file : GitFile) → ¬ (DecodesFile files path file)
  no_content none file is =
      true≢false (ap is_some (sym is.content ∙ decoded_is is.stored (same_Some _ _ (sym found ∙ is.found)) ∙ none))

  -- they stand for a content
  pub has_code : (mode : Mode) (content : List ℕ) → file_at files (Some ModeLine) path ≡ mode_lines mode → decoded stored wraps lacks ≡ Some content → DecodesFile files path (record { mode = mode; content = content })
  has_code mode content mode_is content_is = record {
    stored = stored;
    found = found;
    mode = mode_is;
    content = decoded_is stored refl ∙ content_is;
  }

-- the file of a mode has one line, its digits
pub mode_one_line : (mode : Mode) (lines : Lines) → Some lines ≡ mode_lines mode → lines ≡ mode_text mode ∷ []
mode_one_line Regular lines same = absurd (true≢false (ap is_some same))
mode_one_line Executable lines same = same_Some _ _ same
mode_one_line Symlink lines same = same_Some _ _ same
mode_one_line Submodule lines same = same_Some _ _ same

-- lines that are not one are no file of a mode
pub not_one : (lines : Lines) → ¬ (length lines ≡ 1) → (mode : Mode) → ¬ (Some lines ≡ mode_lines mode)
not_one lines not_so mode same = not_so (ap length (mode_one_line mode lines same))

-- one line that is no mode
pub no_mode : (lines : Lines) (first : List ℕ) → first ≡ get_or lines 0 [] → ((mode : Mode) → ¬ (mode_text mode ≡ first)) → (mode : Mode) → ¬ (Some lines ≡ mode_lines mode)
no_mode lines first is none mode same =
    none mode (ap (λ (l : Lines). get_or l 0 []) (sym (mode_one_line mode lines same)) ∙ sym is)

-- one line that is the mode of a regular file
pub no_regular : (lines : Lines) (first : List ℕ) (found : Mode) → first ≡ get_or lines 0 [] → mode_text found ≡ first → is_regular found ≡ true → (mode : Mode) → ¬ (Some lines ≡ mode_lines mode)
no_regular lines first found is text regular mode same =
    let digits : mode_text mode ≡ mode_text found =
    ap (λ (l : Lines). get_or l 0 []) (sym (mode_one_line mode lines same)) ∙ sym is ∙ sym text in
    by_regular found mode regular digits same
  where
    by_regular : (found mode : Mode) → is_regular found ≡ true → mode_text mode ≡ mode_text found → Some lines ≡ mode_lines mode → ⊥
    by_regular Regular Regular regular digits same = true≢false (ap is_some same)
    by_regular Regular Executable regular digits same =
        let third : 55 ≡ 54 = ap (λ (l : List ℕ). get_or l 3 0) digits in omega (arith, third)
    by_regular Regular Symlink regular digits same =
        let second : 50 ≡ 48 = ap (λ (l : List ℕ). get_or l 1 0) digits in omega (arith, second)
    by_regular Regular Submodule regular digits same =
        let second : 54 ≡ 48 = ap (λ (l : List ℕ). get_or l 1 0) digits in omega (arith, second)
    by_regular Executable mode regular digits same = true≢false (sym regular)
    by_regular Symlink mode regular digits same = true≢false (sym regular)
    by_regular Submodule mode regular digits same = true≢false (sym regular)

-- one line that is a mode
pub is_mode_file : (lines : Lines) (first : List ℕ) (mode : Mode) → length lines ≡ 1 → first ≡ get_or lines 0 [] → mode_text mode ≡ first → is_regular mode ≡ false → Some lines ≡ mode_lines mode
is_mode_file [] first mode one is text irregular = absurd (omega (arith, one))
is_mode_file (line ∷ []) first mode one is text irregular =
    ap (λ (l : List ℕ). Some (l ∷ [])) (sym is ∙ sym text) ∙ sym (cond-false _ _ _ irregular)
is_mode_file (line ∷ next ∷ more) first mode one is text irregular = absurd (omega (arith, one))

lacks_by : (path : List ℕ) (file : GitFile) (place : Option Attribute) (lines : Option Lines) → lines ≡ place_lines place file → AtNoPath (place_path place path) lines → LacksCampPath path file
lacks_by path file place None same at = absurd at
lacks_by path file place (Some lines) same at = record { place = place; lines = lines; has = sym same; no_path = at }

-- an entry is not put, since a place can't be set
pub not_put : (path : List ℕ) (file : GitFile) (tree old new : Files) (place : Option Attribute) (lines : Option Lines) (fault : EncodeFault) → lines ≡ place_lines place file → SetsPlace (place_path place path) lines old (Err fault) new → PutsFile path file tree (Err fault)
not_put path file tree old new place lines BadPath same sets = lacks_by path file place lines same sets
not_put path file tree old new place lines TooManyLines same sets = absurd sets
not_put path file tree old new place lines Memory same sets = tt

-- an entry is put, since its four places are set
pub put : (path : List ℕ) → AreBytes path → (file : GitFile) (l0 l1 l2 l3 : Option Lines) (f0 f1 f2 f3 f4 : Files) → length (stored_lines file.content) ≤ most_lines → l0 ≡ place_lines None file → l1 ≡ place_lines (Some ModeLine) file → l2 ≡ place_lines (Some LacksNewline) file → l3 ≡ place_lines (Some Wrapped) file → SetsPlace (place_path None path) l0 f0 (Ok tt) f1 → SetsPlace (place_path (Some ModeLine) path) l1 f1 (Ok tt) f2 → SetsPlace (place_path (Some LacksNewline) path) l2 f2 (Ok tt) f3 → SetsPlace (place_path (Some Wrapped) path) l3 f3 (Ok tt) f4 → PutsFile path file f0 (Ok f4)
put path bytes file l0 l1 l2 l3 f0 f1 f2 f3 f4 short e0 e1 e2 e3 s0 s1 s2 s3 = (
  at,
  short,
  λ git encodes.
      let p0 = s0.1 encodes.paths in
      let p1 = s1.1 p0.1 in
      let p2 = s2.1 p1.1 in
      let p3 = s3.1 p2.1 in (
        entry_put path bytes file git f0 f4 p3.1
            (four_set path bytes (λ place. place_lines place file) f0 f1 f2 f3 f4
            (subst (λ (l : Option Lines). SetsFile (place_path None path) l f0 f1) e0 p0.0)
            (subst (λ (l : Option Lines). SetsFile (place_path (Some ModeLine) path) l f1 f2) e1 p1.0)
            (subst (λ (l : Option Lines). SetsFile (place_path (Some LacksNewline) path) l f2 f3) e2 p2.0)
            (subst (λ (l : Option Lines). SetsFile (place_path (Some Wrapped) path) l f3 f4) e3 p3.0))
            encodes,
        touched path l0 l1 l2 l3 f0 f1 f2 f3 f4 p0.0 p1.0 p2.0 p3.0,
      ),
)
  where
    at : (place : Option Attribute) (lines : Lines) → place_lines place file ≡ Some lines → is_path (place_path place path) ≡ true
    at None lines is = at_path_case (place_path None path) l0 lines s0.0 (e0 ∙ is)
    at (Some ModeLine) lines is = at_path_case (place_path (Some ModeLine) path) l1 lines s1.0 (e1 ∙ is)
    at (Some LacksNewline) lines is = at_path_case (place_path (Some LacksNewline) path) l2 lines s2.0 (e2 ∙ is)
    at (Some Wrapped) lines is = at_path_case (place_path (Some Wrapped) path) l3 lines s3.0 (e3 ∙ is)
    at (Some EmptyCommit) lines is = absurd (true≢false (ap is_some (sym is)))

-- an entry is removed, since its four places are cleared
pub removed : (path : List ℕ) → AreBytes path → (f0 f1 f2 f3 f4 : Files) → ClearsPlace (place_path None path) f0 f1 → ClearsPlace (place_path (Some ModeLine) path) f1 f2 → ClearsPlace (place_path (Some LacksNewline) path) f2 f3 → ClearsPlace (place_path (Some Wrapped) path) f3 f4 → RemovesFile path f0 f4
removed path bytes f0 f1 f2 f3 f4 s0 s1 s2 s3 = λ git encodes.
    let p0 = s0 encodes.paths in
    let p1 = s1 p0.1 in
    let p2 = s2 p1.1 in
    let p3 = s3 p2.1 in (
      entry_removed path bytes git f0 f4 p3.1 (four_set path bytes (λ place. None) f0 f1 f2 f3 f4 p0.0 p1.0 p2.0 p3.0) encodes,
      touched path None None None None f0 f1 f2 f3 f4 p0.0 p1.0 p2.0 p3.0,
    )
