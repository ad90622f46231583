-- The cases of commuting exclude one another, and so do those of merging.
use Rattle.camp_prim.specs.declared.named.Named.{Named}
use Rattle.camp_catch.specs.Commuting.{PlainPastConflictor, TwoConflictorsApart, ConflictDissolves, PlainLeavesTheSet, OnlyConflictGoes, OneOfSeveralConflicts}
use Rattle.camp_catch.specs.Merging.{Clean, FirstConflict, PlainBesideConflictor, PlainJoinsConflictor}
use Rattle.camp_catch.specs.declared.catches.Catch.{Catch}
use Rattle.camp_catch.specs.declared.catches.Conflictor.{Conflictor}

-- if one case has a result, the other has none
abbrev pub Exclude : (Catch → Catch → Type 0) → (Catch → Catch → Type 0) → Type 0
Exclude One Other = (k' j' k j : Catch) → One k' j' → ¬ (Other k j)

-- `Exclude` for two cases of a plain catch and a conflictor: whichever these are, at most one case has a result
abbrev pub PlainExclude :
    (Named → Conflictor → Catch → Catch → Type 0) → (Named → Conflictor → Catch → Catch → Type 0) → Type 0
PlainExclude One Other = (a : Named) (k : Conflictor) → Exclude (One a k) (Other a k)

-- `Exclude` for two cases of two conflictors: whichever these are, at most one case has a result
abbrev pub ConflictorsExclude :
    (Conflictor → Conflictor → Catch → Catch → Type 0) → (Conflictor → Conflictor → Catch → Catch → Type 0) → Type 0
ConflictorsExclude One Other = (j k : Conflictor) → Exclude (One j k) (Other j k)

-- at most one case of commuting has a result, whatever the kinds of the two catches
pub record CasesExclude : Type 0 where
  pub past_dissolves : PlainExclude PlainPastConflictor ConflictDissolves
  pub past_leaves : PlainExclude PlainPastConflictor PlainLeavesTheSet
  pub dissolves_leaves : PlainExclude ConflictDissolves PlainLeavesTheSet
  pub apart_only : ConflictorsExclude TwoConflictorsApart OnlyConflictGoes
  pub apart_several : ConflictorsExclude TwoConflictorsApart OneOfSeveralConflicts
  pub only_several : ConflictorsExclude OnlyConflictGoes OneOfSeveralConflicts

-- at most one case of merging has a result, whatever the kinds of the two catches. The cases of a conflictor and a
-- plain catch are those of a plain catch and a conflictor, with the results exchanged. Two conflictors have one case.
pub record MergeCasesExclude : Type 0 where
  pub both_plain : (a b : Named) → Exclude (Clean a b) (FirstConflict a b)
  pub plain_and_conflictor : PlainExclude PlainBesideConflictor PlainJoinsConflictor
