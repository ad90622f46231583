-- Modes of git as text.
use Rattle.std.specs.Prelude.{ℕ, List, codes}
use Rattle.camp_coding.specs.declared.modes.Mode.{Mode}
use Rattle.camp_coding.specs.declared.modes.Mode.TheVariants.{Regular, Executable, Symlink, Submodule}

-- the digits of a mode
abbrev pub mode_text : Mode → List ℕ
mode_text Regular = codes "100644"
mode_text Executable = codes "100755"
mode_text Symlink = codes "120000"
mode_text Submodule = codes "160000"
