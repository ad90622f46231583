-- The file at a path of a tree that was changed there.
use Rattle.camp_prim.proofs.Words.{◌≡◌, ℕ, None, Some, List, get, insert, remove, Lines, Files}
use Rattle.camp_prim.proofs.FilesAtPaths.{get-with_file_same}

pub get_inserted : (m : Files) (path : List ℕ) (lines : Lines) → get (insert m path lines) path ≡ Some lines
get_inserted m path lines = get-with_file_same m path (Some lines)

pub get_removed : (m : Files) (path : List ℕ) → get (remove m path) path ≡ None
get_removed m path = get-with_file_same m path None
