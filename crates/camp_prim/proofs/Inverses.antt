-- The inverse of a primitive leads back.
use Rattle.camp_prim.proofs.Words.{◌≡◌, ℕ, Bool, true, false, not, List, Option, refl, sym, ap, ◌∙◌, get, Lines, Files, Applies, inverted, inverse_of, InverseLeadsBack, path_of, Named, Primitive, Add, Remove, Hunk}
use Rattle.camp_prim.proofs.CommuteEffect.{ChangesFile, applies, changes_path}
use Rattle.camp_prim.proofs.FilesAtPaths.{get-with_file_same, with_file, with_file_twice, with_own_file}
use Rattle.camp_prim.proofs.HunksOfOneFile.{taken_back}

pub path_of-inverted : (p : Primitive) → path_of (inverted p) ≡ path_of p
path_of-inverted (Add path) = refl
path_of-inverted (Remove path) = refl
path_of-inverted (Hunk hunk) = refl

-- the inverse of a primitive restores the file that the primitive changed
changed_back : (p : Primitive) (x y : Option Lines) → ChangesFile p x y → ChangesFile (inverted p) y x
changed_back (Add path) x y c = (c.1, c.0)
changed_back (Remove path) x y c = (c.1, c.0)
changed_back (Hunk hunk) x y c =
    record { lines = c.changed; changed = c.lines; was = c.becomes; splices = taken_back c.splices; becomes = c.was }

pub leads_back : (p : Primitive) (old new : Files) → Applies p old new → Applies (inverted p) new old
leads_back p old new a =
    let path : List ℕ = path_of p in
    let c = changes_path p old new a in
    let there : get new path ≡ c.file = ap (λ m. get m path) c.becomes ∙ get-with_file_same old path c.file in
    let back : old ≡ with_file new path (get old path) = sym (ap (λ m. with_file m path (get old path)) c.becomes ∙ with_file_twice old path c.file (get old path) ∙ with_own_file old path) in
    applies (inverted p) new old (record {
      file = get old path;
      changes = rw (path_of-inverted p, there) (changed_back p (get old path) c.file c.changes);
      becomes = rw (path_of-inverted p) back;
    })

-- a primitive is the inverse of its inverse
pub inverted-inverted : (p : Primitive) → inverted (inverted p) ≡ p
inverted-inverted (Add path) = refl
inverted-inverted (Remove path) = refl
inverted-inverted (Hunk hunk) = refl

not-not : (b : Bool) → not (not b) ≡ b
not-not true = refl
not-not false = refl

pub inverse_of-inverse_of : (p : Named) → inverse_of (inverse_of p) ≡ p
inverse_of-inverse_of p =
    λ i. record { name = p.name; place = p.place; inverse = not-not p.inverse i; prim = inverted-inverted p.prim i }

pub inverse_leads_back : InverseLeadsBack
inverse_leads_back p old new =
    (leads_back p old new, λ b. rw inverted-inverted at (leads_back (inverted p) new old b))
