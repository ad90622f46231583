-- Two primitives that commute have one effect in both orders.
use Rattle.camp_prim.proofs.Words.{◌≡◌, ◌≢◌, ℕ, ◌+◌, inl, inr, [], Option, None, Some, length, refl, sym, ap, ◌∙◌, subst, get, Lines, Files, Splices, SplicesLines, Edit, Applies, Leads, path_of, at_line, PrimitivesCommute, Primitive, Add, Remove, Hunk}
use Rattle.camp_prim.proofs.FilesAtPaths.{with_file, get-with_file_same, get-with_file_other, with_file_twice, with_files_apart}
use Rattle.camp_prim.proofs.HunksOfOneFile.{SplicesTwice, lower_first, upper_first}

-- a hunk turns one file into another
pub record EditsFile (hunk : Edit) (x y : Option Lines) : Type 0 where
  pub lines : Lines
  pub changed : Lines
  pub was : x ≡ Some lines
  pub splices : SplicesLines hunk.line hunk.old hunk.new lines changed
  pub becomes : y ≡ Some changed

-- a primitive turns the file at its path, or its absence, into another
abbrev pub ChangesFile : Primitive → Option Lines → Option Lines → Type 0
ChangesFile (Add path) x y = (x ≡ None) × (y ≡ Some [])
ChangesFile (Remove path) x y = (x ≡ Some []) × (y ≡ None)
ChangesFile (Hunk hunk) x y = EditsFile hunk x y

-- a primitive changes the file at its path and nothing else
pub record ChangesPath (p : Primitive) (old new : Files) : Type 0 where
  pub file : Option Lines
  pub changes : ChangesFile p (get old (path_of p)) file
  pub becomes : new ≡ with_file old (path_of p) file

pub changes_path : (p : Primitive) (old new : Files) → Applies p old new → ChangesPath p old new
changes_path (Add path) old new a = record { file = Some []; changes = (a.absent, refl); becomes = a.becomes }
changes_path (Remove path) old new a = record { file = None; changes = (a.empty, refl); becomes = a.becomes }
changes_path (Hunk hunk) old new a = record {
  file = Some a.changed;
  changes = record { lines = a.lines; changed = a.changed; was = a.found; splices = a.splices; becomes = refl };
  becomes = a.becomes;
}

pub applies : (p : Primitive) (old new : Files) → ChangesPath p old new → Applies p old new
applies (Add path) old new c = record { absent = c.changes.0; becomes = c.becomes ∙ ap (with_file old path) c.changes.1 }
applies (Remove path) old new c = record { empty = c.changes.0; becomes = c.becomes ∙ ap (with_file old path) c.changes.1 }
applies (Hunk hunk) old new c = record {
  lines = c.changes.lines;
  changed = c.changes.changed;
  found = c.changes.was;
  splices = c.changes.splices;
  becomes = c.becomes ∙ ap (with_file old hunk.path) c.changes.becomes;
}

-- primitives on two paths can be exchanged
pub apart_leads : (p q : Primitive) (old new : Files) → path_of p ≢ path_of q → Leads p q old new → Leads q p old new
apart_leads p q old new apart leads =
    let a = changes_path p old leads.between leads.first in
    let b = changes_path q leads.between new leads.second in
    let seen : get leads.between (path_of q) ≡ get old (path_of q) =
    ap (λ m. get m (path_of q)) a.becomes ∙ get-with_file_other old (path_of p) (path_of q) a.file apart in
    let unseen : get (with_file old (path_of q) b.file) (path_of p) ≡ get old (path_of p) =
    get-with_file_other old (path_of q) (path_of p) b.file (λ e. apart (sym e)) in
    record {
      between = with_file old (path_of q) b.file;
      first = applies q _ _ (record { file = b.file; changes = subst (λ x. ChangesFile q x b.file) seen b.changes; becomes = refl });
      second = applies p _ _ (record {
        file = a.file;
        changes = subst (λ x. ChangesFile p x a.file) (sym unseen) a.changes;
        becomes = b.becomes ∙ ap (λ m. with_file m (path_of q) b.file) a.becomes ∙ with_files_apart old (path_of p) (path_of q) a.file b.file apart;
      });
    }

inside : (x y : Lines) → Some x ≡ Some y → x ≡ y
inside x y e = cc

-- two hunks of one path change the lines of one file twice
pub record EditsTwice (h k : Edit) (old new : Files) : Type 0 where
  pub lines : Lines
  pub changed : Lines
  pub found : get old h.path ≡ Some lines
  pub splices : SplicesTwice h.line h.old h.new k.line k.old k.new lines changed
  pub becomes : new ≡ with_file old h.path (Some changed)

pub edits_twice : (h k : Edit) (old new : Files) → h.path ≡ k.path → Leads (Hunk h) (Hunk k) old new → EditsTwice h k old new
edits_twice h k old new same leads =
    let a : Splices h.path h.line h.old h.new old leads.between = leads.first in
    let b : Splices k.path k.line k.old k.new leads.between new = leads.second in
    let becomes : leads.between ≡ with_file old h.path (Some a.changed) = a.becomes in
    let found : get leads.between h.path ≡ Some b.lines = ap (get leads.between) same ∙ b.found in
    let met : b.lines ≡ a.changed = inside _ _ (sym found ∙ ap (λ m. get m h.path) becomes ∙ get-with_file_same old h.path (Some a.changed)) in
    record {
      lines = a.lines;
      changed = b.changed;
      found = a.found;
      splices = record { between = a.changed; first = a.splices; second = subst (λ x. SplicesLines k.line k.old k.new x b.changed) met b.splices };
      becomes = b.becomes ∙ ap (λ p. with_file leads.between p (Some b.changed)) (sym same) ∙ ap (λ m. with_file m h.path (Some b.changed)) becomes ∙ with_file_twice old h.path (Some a.changed) (Some b.changed);
    }

pub hunks_lead : (h k : Edit) (old new : Files) → h.path ≡ k.path → EditsTwice h k old new → Leads (Hunk h) (Hunk k) old new
hunks_lead h k old new same e =
    let a : Splices h.path h.line h.old h.new old (with_file old h.path (Some e.splices.between)) =
    record { lines = e.lines; changed = e.splices.between; found = e.found; splices = e.splices.first; becomes = refl } in
    let b : Splices k.path k.line k.old k.new (with_file old h.path (Some e.splices.between)) new = record {
      lines = e.splices.between;
      changed = e.changed;
      found = ap (get (with_file old h.path (Some e.splices.between))) (sym same) ∙ get-with_file_same old h.path (Some e.splices.between);
      splices = e.splices.second;
      becomes = e.becomes ∙ sym (with_file_twice old h.path (Some e.splices.between) (Some e.changed)) ∙ ap (λ p. with_file (with_file old h.path (Some e.splices.between)) p (Some e.changed)) same;
    } in
    record { between = with_file old h.path (Some e.splices.between); first = a; second = b }

-- the upper hunk can be moved first
pub below_leads : (h k : Edit) (gap : ℕ) (old new : Files) → h.path ≡ k.path → k.line ≡ h.line + length h.new + gap → Leads (Hunk h) (Hunk k) old new → Leads (Hunk (at_line (h.line + length h.old + gap) k)) (Hunk h) old new
below_leads h k gap old new same stands leads =
    let e = edits_twice h k old new same leads in
    hunks_lead (at_line (h.line + length h.old + gap) k) h old new (sym same) (record {
      lines = e.lines;
      changed = e.changed;
      found = ap (get old) (sym same) ∙ e.found;
      splices = lower_first h.line k.line gap h.old h.new k.old k.new e.lines e.changed stands e.splices;
      becomes = e.becomes ∙ ap (λ p. with_file old p (Some e.changed)) same;
    })

pub above_leads : (h k : Edit) (gap : ℕ) (old new : Files) → h.path ≡ k.path → h.line ≡ k.line + length k.old + gap → Leads (Hunk h) (Hunk k) old new → Leads (Hunk k) (Hunk (at_line (k.line + length k.new + gap) h)) old new
above_leads h k gap old new same stands leads =
    let e = edits_twice h k old new same leads in
    hunks_lead k (at_line (k.line + length k.new + gap) h) old new (sym same) (record {
      lines = e.lines;
      changed = e.changed;
      found = ap (get old) (sym same) ∙ e.found;
      splices = upper_first h.line k.line gap h.old h.new k.old k.new e.lines e.changed stands e.splices;
      becomes = e.becomes ∙ ap (λ p. with_file old p (Some e.changed)) same;
    })

leads_along : (p q r s : Primitive) (old new : Files) → p ≡ r → q ≡ s → Leads p q old new → Leads r s old new
leads_along p q r s old new e f leads = subst (λ x. Leads r x old new) f (subst (λ x. Leads x q old new) e leads)

pub swaps_lead : (p q q' p' : Primitive) (old new : Files) → PrimitivesCommute p q q' p' → Leads p q old new → Leads q' p' old new
swaps_lead p q q' p' old new (inl s) leads =
    leads_along q p q' p' old new (sym s.second) (sym s.first) (apart_leads p q old new s.paths leads)
swaps_lead p q q' p' old new (inr (inl s)) leads =
    leads_along _ _ q' p' old new (sym s.second) (sym (s.first ∙ s.is_p)) (below_leads s.h s.k s.gap old new s.path s.stands (leads_along p q (Hunk s.h) (Hunk s.k) old new s.is_p s.is_q leads))
swaps_lead p q q' p' old new (inr (inr s)) leads =
    leads_along _ _ q' p' old new (sym (s.second ∙ s.is_q)) (sym s.first) (above_leads s.h s.k s.gap old new s.path s.stands (leads_along p q (Hunk s.h) (Hunk s.k) old new s.is_p s.is_q leads))
