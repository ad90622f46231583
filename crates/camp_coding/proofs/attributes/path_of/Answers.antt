use Rattle.std.proofs.Common.{◌≡◌, ℕ, Bool, true, false, List, Result, Ok, Err, refl, sym, subst}
use Rattle.camp_base.specs.Bytes.{is_path}
use Rattle.camp_base.specs.Made.{Makes}
use Rattle.camp_base.specs.declared.faults.BaseFault.{BaseFault}
use Rattle.camp_base.specs.declared.faults.BaseFault.TheVariants.{BadPath, Memory}
use Rattle.camp_coding.specs.Attributes.{MakesPath}
use Rattle.camp_coding.proofs.attributes.path_of.Goals as goal

by_cases : (bytes : List ℕ) (is : Bool) (made : Result (List ℕ) BaseFault) → is_path bytes ≡ is → Makes is BadPath bytes made → MakesPath bytes made
by_cases bytes true (Ok path) passes makes = (makes, passes)
by_cases bytes true (Err fault) passes makes = subst (λ (f : BaseFault). MakesPath bytes (Err f)) (sym makes) tt
by_cases bytes false made fails makes = subst (λ (r : Result (List ℕ) BaseFault). MakesPath bytes r) (sym makes) fails

pub returns : goal.returns
returns c = by_cases c.args.text.now _ _ refl c.new.ensures.exact
