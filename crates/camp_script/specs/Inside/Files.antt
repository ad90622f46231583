-- Changes of whole files.
use Rattle.std.specs.Prelude.{ℕ, List}
use Rattle.camp_prim.specs.declared.primitives.Primitive.{Primitive}
use Rattle.camp_prim.specs.declared.primitives.Primitive.TheVariants.{Add, Remove}
use Rattle.camp_script.specs.declared.records.WholeFile.{WholeFile}
use Rattle.camp_script.specs.declared.records.WholeFile.TheVariants as file

-- the change that adds an empty file at a path, or removes it
abbrev pub change_at : WholeFile → List ℕ → Primitive
change_at file.Add = Add
change_at file.Remove = Remove
