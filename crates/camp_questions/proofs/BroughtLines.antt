-- Each line of a file was added by a hunk of the patch whose name it has.
use Rattle.camp_questions.proofs.Words.{◌≡◌, ℕ, ◌+◌, ◌-◌, ◌==◌, ◌||◌, Bool, true, false, cond, List, [], ◌∷◌, ◌++◌, map, Option, None, Some, length, take, drop, bytes_eq, refl, sym, ap, ◌∙◌, subst, arith, empty, get, get-empty, get-insert, slice_range, splice, nat_cmp, eq_by_cmp, slice_cmp, bytes_eq-Decides, Edit, key_cmp, key_of, key_total, label_of, Key, Named, Primitive, Add, Remove, Hunk, Catch, name_of, name_itself, is_among, Known, known_after_all, known_after_catches, known_after_change, known_after_hunk, new_line_names, names_of_lines, nothing_known, lines_or_none, annotated, append_assoc, drop_at, length-append, none-some, same_Some, take_at, AllByRecursion, flat_map, Applies, Files, Lines, Splices, FitsAll, effect_of, Contains, catches_named, patch_in, AllZip, has_image, Plain, SameKey, AppliesAll, own_names, added_by, RepeatsRestoreLines, EachIsAddedByPatch, IsAddedByPatch, LinesAreAddedByPatches, RestoresLines, changes_in, cond_both, has_of_each, get-with_file_other, get-with_file_same}
use Rattle.camp_questions.proofs.LineNames.{alike, other_path, same_key}
use Rattle.camp_questions.proofs.KeptElements.{kept_has, of_each}
use Rattle.camp_questions.proofs.PlainLabels.{inverses_alone, plain_effects}
use Rattle.camp_questions.proofs.ZippedLines.{own_zipped, zipped_append, zipped_drop, zipped_take}
use Rattle.camp_questions.specs.declared.annotations.Annotated.TheVariants.{File}

module _ (R : List ℕ → List ℕ → Type 0) (path : List ℕ) where
  -- names were removed with the lines of a hunk, and what comes again under its absolute label restores these
  record Taken (rest : List Named) (key : Key) (gone : List (List ℕ)) : Type 0 where
    hunk : Edit
    file : hunk.path ≡ path
    names : AllZip R gone hunk.old
    back : AllByRecursion (λ q. key ≡ key_of (label_of q) → RestoresLines hunk q.prim) rest

  abbrev AllTaken : List Named → Known → Type 0
  AllTaken rest known =
      (key : Key) (gone : List (List ℕ)) → get known.taken key ≡ Some gone → Taken rest key gone

  -- each line of the file has a name that fits it, and so has each line that was removed
  record Fit (tree : Files) (rest : List Named) (known : Known) : Type 0 where
    names : AllZip R known.names (lines_or_none (get tree path))
    taken : AllTaken rest known

  -- this name fits all lines that a change adds to the file
  abbrev FitsNew : List ℕ → Primitive → Type 0
  FitsNew name prim = (hunk : Edit) → prim ≡ Hunk hunk → hunk.path ≡ path → AllByRecursion (R name) (added_by hunk)

  abbrev FitEach : List ℕ → List Named → Type 0
  FitEach name effect = AllByRecursion (λ p. FitsNew name p.prim) effect

  one_less : (p : Named) (s : List Named) (known : Known) → AllTaken (p ∷ s) known → AllTaken s known
  one_less p s known all key gone e =
      let t = all key gone e in
      record { hunk = t.hunk; file = t.file; names = t.names; back = t.back.1 }

  -- the names of the new lines of a hunk fit these
  come : (p : Named) (s : List Named) (known : Known) (hunk : Edit) (own : List (List ℕ)) (o : Option (List (List ℕ))) → p.prim ≡ Hunk hunk → hunk.path ≡ path → AllTaken (p ∷ s) known → AllZip R own hunk.new → get known.taken (key_of (label_of p)) ≡ o → AllZip R (new_line_names o own (length hunk.new)) hunk.new
  come p s known hunk own None is same all fit e = fit
  come p s known hunk own (Some taken) is same all fit e =
      let t = all (key_of (label_of p)) taken e in
      let puts : RestoresLines t.hunk (Hunk hunk) = subst (RestoresLines t.hunk) is (t.back.0 refl) in
      let lines : hunk.new ≡ t.hunk.old = puts (same ∙ sym t.file) in
      cond_both (length taken == length hunk.new) taken own (λ l. AllZip R l hunk.new) (λ e. subst (AllZip R taken) (sym lines) t.names) (λ e. fit)

  -- the names stored under absolute labels after a hunk
  taken_at : (p : Named) (s : List Named) (known : Known) (hunk : Edit) (gone : List (List ℕ)) → hunk.path ≡ path → AllZip R gone hunk.old → AllByRecursion (λ q. SameKey p q → RestoresLines hunk q.prim) s → AllTaken (p ∷ s) known
      → (key : Key) (taken : List (List ℕ)) (b : Bool) → eq_by_cmp key_cmp key (key_of (label_of p)) ≡ b → cond b (Some gone) (get known.taken key) ≡ Some taken → Taken s key taken
  taken_at p s known hunk gone same fit back all key taken true is e = record {
    hunk = hunk;
    file = same;
    names = subst (λ l. AllZip R l hunk.old) (same_Some gone taken e) fit;
    back = subst (λ k. AllByRecursion (λ q. k ≡ key_of (label_of q) → RestoresLines hunk q.prim) s) (sym (same_key key (key_of (label_of p)) is)) back;
  }
  taken_at p s known hunk gone same fit back all key taken false is e = one_less p s known all key taken e

  -- names and lines when some of them are replaced
  record Parts (known : Known) (hunk : Edit) (before after : Lines) : Type 0 where
    front : AllZip R (take (hunk.line - 1) known.names) before
    gone : AllZip R (slice_range known.names (hunk.line - 1) (hunk.line - 1 + length hunk.old)) hunk.old
    rear : AllZip R (drop (hunk.line - 1 + length hunk.old) known.names) after

  parts : (known : Known) (hunk : Edit) (before after : Lines) → length before + 1 ≡ hunk.line → AllZip R known.names (before ++ hunk.old ++ after) → Parts known hunk before after
  parts known hunk before after at fit =
      let from : ℕ = hunk.line - 1 in
      let to : ℕ = from + length hunk.old in
      let lines : Lines = before ++ hunk.old ++ after in
      let long : length (before ++ hunk.old) ≡ to = length-append before hunk.old ∙ omega (arith, at) in
      let behind : drop from lines ≡ hunk.old ++ after = ap (drop from) (append_assoc before hunk.old after) ∙ drop_at before (hunk.old ++ after) from (omega (arith, at)) in
      record {
        front = subst (AllZip R (take from known.names)) (ap (take from) (append_assoc before hunk.old after) ∙ take_at before (hunk.old ++ after) from (omega (arith, at))) (zipped_take R from known.names lines fit);
        gone = subst (AllZip R (slice_range known.names from to)) (ap (take (to - from)) behind ∙ take_at hunk.old after (to - from) (omega arith)) (zipped_take R (to - from) (drop from known.names) (drop from lines) (zipped_drop R from known.names lines fit));
        rear = subst (AllZip R (drop to known.names)) (drop_at (before ++ hunk.old) after to long) (zipped_drop R to known.names lines fit);
      }

  hunk_fits : (name : List ℕ) (p : Named) (s : List Named) (hunk : Edit) (old new : Files) (known : Known) → p.prim ≡ Hunk hunk → hunk.path ≡ path → AllByRecursion (R name) (added_by hunk) → AllByRecursion (λ q. SameKey p q → RestoresLines hunk q.prim) s → Splices hunk.path hunk.line hunk.old hunk.new old new → Fit old (p ∷ s) known → Fit new s (known_after_hunk name (key_of (label_of p)) hunk known)
  hunk_fits name p s hunk old new known is same own back w fit =
      let key : Key = key_of (label_of p) in
      let from : ℕ = hunk.line - 1 in
      let to : ℕ = from + length hunk.old in
      let gone = slice_range known.names from to in
      let coming = new_line_names (get known.taken key) (own_names gone name hunk) (length hunk.new) in
      let s' = w.splices in
      let found : lines_or_none (get old path) ≡ s'.before ++ hunk.old ++ s'.after = ap (λ p. lines_or_none (get old p)) (sym same) ∙ ap lines_or_none w.found ∙ s'.was in
      let now : lines_or_none (get new path) ≡ s'.before ++ (hunk.new ++ s'.after) = ap lines_or_none (ap (λ p. get new p) (sym same) ∙ ap (λ t. get t hunk.path) w.becomes ∙ get-with_file_same old hunk.path (Some w.changed)) ∙ s'.becomes ∙ append_assoc s'.before hunk.new s'.after in
      let cut = parts known hunk s'.before s'.after s'.at (subst (AllZip R known.names) found fit.names) in
      let comes : AllZip R coming hunk.new = come p s known hunk (own_names gone name hunk) (get known.taken key) is same fit.taken (own_zipped R gone name hunk cut.gone own) refl in
      record {
        names = subst (AllZip R (splice known.names from to coming)) (sym now) (zipped_append R (take from known.names) (coming ++ drop to known.names) s'.before (hunk.new ++ s'.after) cut.front (zipped_append R coming (drop to known.names) hunk.new s'.after comes cut.rear));
        taken = λ q taken e. taken_at p s known hunk gone same cut.gone back fit.taken q taken _ refl (sym (get-insert key_total known.taken key gone q) ∙ e);
      }

  change_fits : (name : List ℕ) (p : Named) (s : List Named) (prim : Primitive) (old new : Files) (known : Known) → p.prim ≡ prim → FitsNew name prim → ((hunk : Edit) → prim ≡ Hunk hunk → AllByRecursion (λ q. SameKey p q → RestoresLines hunk q.prim) s) → Applies prim old new → Fit old (p ∷ s) known → Fit new s (known_after_change path name (key_of (label_of p)) prim known)
  change_fits name p s (Add q) old new known is own back w fit = record {
    names = subst (AllZip R known.names) (sym (ap (λ t. lines_or_none (get t path)) w.becomes ∙ alike old q path (Some []) (ap lines_or_none (sym w.absent)))) fit.names;
    taken = one_less p s known fit.taken;
  }
  change_fits name p s (Remove q) old new known is own back w fit = record {
    names = subst (AllZip R known.names) (sym (ap (λ t. lines_or_none (get t path)) w.becomes ∙ alike old q path None (ap lines_or_none (sym w.empty)))) fit.names;
    taken = one_less p s known fit.taken;
  }
  change_fits name p s (Hunk hunk) old new known is own back w fit =
      cond_both (bytes_eq hunk.path path) (known_after_hunk name (key_of (label_of p)) hunk known) known (Fit new s)
      (λ e. let same : hunk.path ≡ path = (bytes_eq-Decides hunk.path path).0 e in hunk_fits name p s hunk old new known is same (own hunk refl same) (back hunk refl) w fit)
      (λ e. record {
        names = subst (AllZip R known.names) (ap lines_or_none (sym (ap (λ t. get t path) w.becomes ∙ get-with_file_other old hunk.path path (Some w.changed) (other_path hunk.path path e)))) fit.names;
        taken = one_less p s known fit.taken;
      })

  effect_fits : (name : List ℕ) (s more : List Named) (old new : Files) (known : Known) → FitEach name s → RepeatsRestoreLines (s ++ more) → AppliesAll s old new → Fit old (s ++ more) known → Fit new more (known_after_all path name s known)
  effect_fits name [] more old new known own back w fit = subst (λ t. Fit t more known) (sym w) fit
  effect_fits name (p ∷ s) more old new known own back w fit =
      effect_fits name s more w.0 new (known_after_change path name (key_of (label_of p)) p.prim known) own.1 back.1 w.2
      (change_fits name p (s ++ more) p.prim old w.0 known refl own.0 back.0 w.1 fit)

  behind_effect : (s more : List Named) → RepeatsRestoreLines (s ++ more) → RepeatsRestoreLines more
  behind_effect [] more back = back
  behind_effect (p ∷ s) more back = behind_effect s more back.1

  catches_fit : (list : List Catch) (old new : Files) (known : Known) → AllByRecursion (λ k. FitEach (name_of k) (effect_of k)) list → RepeatsRestoreLines (flat_map effect_of list) → FitsAll list old new → Fit old (flat_map effect_of list) known → Fit new [] (known_after_catches path list known)
  catches_fit [] old new known own back w fit = subst (λ t. Fit t [] known) (sym w) fit
  catches_fit (k ∷ list) old new known own back w fit =
      catches_fit list w.0 new (known_after_all path (name_of k) (effect_of k) known) own.1 (behind_effect (effect_of k) (flat_map effect_of list) back) w.2
      (effect_fits (name_of k) (effect_of k) (flat_map effect_of list) old w.0 known own.0 back w.1.effect fit)

  nothing_fits : (rest : List Named) → Fit empty rest nothing_known
  nothing_fits rest = record {
    names = subst (λ o. AllZip R [] (lines_or_none o)) (sym (get-empty (slice_cmp nat_cmp) path)) tt;
    taken = λ key gone e. absurd (none-some gone (sym (get-empty key_cmp key) ∙ e));
  }

-- the changes of a catch are among those that its patch has in the branch
own_change : (branch : List Catch) (k : Catch) (p : Named) → Contains branch k → Contains (effect_of k) p → Contains (patch_in branch (name_of k)).changes p.prim
own_change branch k p there within =
    has_of_each (λ (c : Catch). changes_in (effect_of c)) (catches_named (name_of k ∷ []) branch) k p.prim (kept_has (λ (c : Catch). is_among (name_of k ∷ []) (name_of c)) branch k there (ap (λ b. b || false) (name_itself (name_of k)))) (has_image (λ (q : Named). q.prim) (effect_of k) p within)

each_brings : (branch : List Catch) (path : List ℕ) → AllByRecursion (λ k. FitEach (IsAddedByPatch branch path) path (name_of k) (effect_of k)) branch
each_brings branch path =
    of_each (λ k. FitEach (IsAddedByPatch branch path) path (name_of k) (effect_of k)) branch
    (λ k there. of_each (λ p. FitsNew (IsAddedByPatch branch path) path (name_of k) p.prim) (effect_of k) (λ p within hunk is same.
    of_each (IsAddedByPatch branch path (name_of k)) (added_by hunk) (λ line brings. record {
      hunk = hunk;
      change = subst (Contains (patch_in branch (name_of k)).changes) is (own_change branch k p there within);
      file = same;
      brings = brings;
    })))

-- the answer for a file is the lines of its path and the names that are known
told_of : (found : Option Lines) (known : List (List ℕ)) (lines : Lines) (names : List (List ℕ)) → File lines names ≡ annotated found known → (found ≡ Some lines) × (known ≡ names)
told_of None known lines names e = cc
told_of (Some found) known lines names e =
    let same : lines ≡ found = cc in
    let called : names ≡ known = cc in
    (ap Some (sym same), sym called)

come_again : (branch : List Catch) (path : List ℕ) → RepeatsRestoreLines (flat_map effect_of branch) → EachIsAddedByPatch branch path
come_again branch path back lines names (tree, leads, is) =
    let R : List ℕ → List ℕ → Type 0 = IsAddedByPatch branch path in
    let fit = catches_fit R path branch empty tree nothing_known (each_brings branch path) back leads (nothing_fits R path (flat_map effect_of branch)) in
    let told = told_of (get tree path) (names_of_lines path branch) lines names is in
    subst (λ known. AllZip R known lines) told.1 (subst (AllZip R (names_of_lines path branch)) (ap lines_or_none told.0) fit.names)

pub lines_are_added_by_patches : LinesAreAddedByPatches
lines_are_added_by_patches = record {
  come_again = come_again;
  plain = λ patches path lawful. come_again (map Plain patches) path (subst RepeatsRestoreLines (sym (plain_effects patches)) (inverses_alone patches lawful));
}
