-- Definitions that only private functions use.
use Rattle.std.specs.Prelude.{◌≡◌, ◌⊎◌, ℕ, ℤ, pos, List, [], Some, None, Result, Ok, Err}
use Rattle.camp_talk.specs.Sessions.{Snapshot}
use Rattle.camp_shared_session.specs.Sessions.{IsOpenedSession}
use Rattle.camp_c.specs.Handles.{HandleState}
use Rattle.camp_c.specs.declared.objects.OpenObject.{OpenObject}
use Rattle.camp_c.specs.declared.objects.OpenObject.TheVariants.{Member, View}

-- a closed handle is opened on a view, if there is one, or memory ran out
abbrev pub Shows : {E : Type 0} → Result Snapshot E → ℤ → HandleState → Type 0
Shows (Ok view) code now = ((code ≡ pos 0) × (now ≡ Some (View view))) ⊎ ((code ≡ pos 2) × (now ≡ None))
Shows (Err error) code now = (code ≡ pos 2) × (now ≡ None)

-- the value of an open handle is a new member of a log with this title
abbrev pub HoldsMember : ℕ → List ℕ → OpenObject → Type 0
HoldsMember seat title (Member new) = IsOpenedSession title seat new
HoldsMember seat title other = ⊥
