-- The decision of an object on a call.
use Rattle.std.specs.Prelude.{◌≡◌, None, Some}
use Rattle.camp_object.specs.Objects.{Sequential}
use Rattle.camp_object.specs.declared.objects.Decided.{Decided}
use Rattle.camp_object.specs.declared.objects.Decided.TheVariants.{Next, Answer}

module _ {State Call Reply : Type 0} (object : Sequential State Call Reply) where
  -- the next state if the call is accepted, else the reply to it
  abbrev pub Decides : State → Call → Decided State Reply → Type 0
  Decides state call (Next next) = object.after state call ≡ Some next
  Decides state call (Answer reply) = (object.after state call ≡ None) × object.answers state call reply
