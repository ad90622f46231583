-- The inverses of plain patches.
use Rattle.std.specs.Prelude.{◌≡◌, List, map}
use Rattle.camp_prim.specs.declared.named.Named.{Named}
use Rattle.camp_seq.specs.Room.{HasRoom}
use Rattle.camp_seq.specs.Running.{inverse_all}
use Rattle.camp_catch.specs.declared.catches.Catch.{Catch}
use Rattle.camp_catch.specs.declared.catches.Catch.TheVariants.{Plain}

-- catches are plain, and these are the inverses of their primitives, in reverse order
pub record AreInverses (list back : List Catch) : Type 0 where
  pub forth : List Named
  pub plain : list ≡ map Plain forth
  pub inverses : back ≡ map Plain (inverse_all forth)

-- primitives have headroom, and so have their inverses
pub record HaveRoom (list : List Catch) : Type 0 where
  pub forth : List Named
  pub plain : list ≡ map Plain forth
  pub room : HasRoom forth
  pub room_back : HasRoom (inverse_all forth)
