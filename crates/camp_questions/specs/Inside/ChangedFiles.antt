-- The files that catches change, as small hash numbers of their paths.
use Rattle.std.specs.Prelude.{◌≡◌, ℕ, ◌+◌, ◌*◌, ◌%◌, ◌==◌, Bool, true, false, ◌||◌, List, [], ◌∷◌, map, length, get_or}
use Rattle.std.specs.List.{AllByRecursion, list_any}
use Rattle.camp_prim.specs.Effect.{InRange}
use Rattle.camp_prim.specs.Commuting.{path_of}
use Rattle.camp_catch.specs.declared.catches.Catch.{Catch}
use Rattle.camp_catch.specs.declared.catches.Catch.TheVariants.{Plain}
use Rattle.camp_questions.specs.declared.fast.changed_files.PatchFiles.{PatchFiles}
use Rattle.camp_questions.specs.declared.fast.taken_out.TakenOut.{TakenOut}
use Rattle.camp_questions.specs.declared.fast.patch_catches.PatchCatches.{PatchCatches}

-- the number of possible hashes
abbrev pub hash_count : ℕ
hash_count = 4_093

-- the hash of bytes, continued from the hash of the bytes before them
abbrev pub hash_after : ℕ → List ℕ → ℕ
hash_after number [] = number
hash_after number (byte ∷ bytes) = hash_after ((number * 31 + byte) % hash_count) bytes

-- the hash of a path; several paths may have the same one
abbrev pub path_hash : List ℕ → ℕ
path_hash path = hash_after 0 path

-- the hash of the path that a plain catch changes
abbrev pub catch_hash : Catch → ℕ
catch_hash (Plain p) = path_hash (path_of p.prim)
catch_hash (Catch.Conflictor k) = 0

-- for each patch the hashes of the paths that its catches change
abbrev pub AreFilesOf : List PatchCatches → List PatchFiles → Type 0
AreFilesOf patches files =
    map (λ (files : PatchFiles). files.numbers.items) files
    ≡ map (λ (patch : PatchCatches). map catch_hash patch.catches.items) patches

-- a catch is plain, and its primitive is in range
abbrev pub IsPlainInRange : Catch → Type 0
IsPlainInRange (Plain p) = InRange p.prim
IsPlainInRange (Catch.Conflictor k) = ⊥

-- a patch has plain catches in range, and these are the hashes of the paths that they change
pub record HasFiles (patch : PatchCatches) (files : PatchFiles) : Type 0 where
  pub plain : AllByRecursion IsPlainInRange patch.catches.items
  pub numbers : files.numbers.items ≡ map catch_hash patch.catches.items

-- a hash is marked
abbrev pub is_marked : List Bool → ℕ → Bool
is_marked marks number = get_or marks number false

-- these hashes are marked in addition to those that were marked before
abbrev pub BecomeMarked : List Bool → List ℕ → List Bool → Type 0
BecomeMarked old numbers new =
    (number : ℕ) → is_marked new number ≡ (is_marked old number || list_any (λ other. number == other) numbers)

-- a catch is plain and in range, and the hash of its path is marked
abbrev pub IsMarkedPlain : List Bool → Catch → Type 0
IsMarkedPlain marks (Plain p) = InRange p.prim × (is_marked marks (path_hash (path_of p.prim)) ≡ true)
IsMarkedPlain marks (Catch.Conflictor k) = ⊥

-- the catches that are to be taken out are plain and in range, and the hashes of their paths are marked
pub record HasMarkedFiles (going : TakenOut) : Type 0 where
  pub long : length going.files.items ≡ hash_count
  pub marked : AllByRecursion (IsMarkedPlain going.files.items) going.catches.items
