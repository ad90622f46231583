-- A stored call in its fields.
use Rattle.std.specs.Prelude.{◌≡◌, false, None, Some}
use Rattle.camp_object.specs.Objects.{Sequential}
use Rattle.camp_history.specs.StoredCalls.{StoredCall}
use Rattle.camp_history.specs.declared.kept.Storage.{Storage}
use Rattle.camp_history.specs.declared.kept.Storage.TheVariants.{Here, Stored}

abbrev pub stored_call : {Call : Type 0} → Storage Call → StoredCall Call
stored_call (Here call) = record { call = call; stored = None }
stored_call (Stored token) = record { call = token.value; stored = Some token }

-- the call is in the store unless it is a question
abbrev pub IsStoredCall : {State Call Reply : Type 0} → Sequential State Call Reply → Storage Call → Type 0
IsStoredCall object (Here call) = object.is_writing call ≡ false
IsStoredCall object (Stored token) = Unit {0}
