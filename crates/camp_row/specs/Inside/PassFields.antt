-- A pass in its fields, and its invariant.
use Rattle.std.specs.Prelude.{◌≡◌, ◌<◌, ◌≤◌, [], ◌∷◌}
use Rattle.camp_row.specs.Chains.{entry_count, head_word}
use Rattle.camp_row.specs.PassState.{PassState}
use Rattle.camp_row.specs.Inside.Parts.{Part, part_of, known_of, IsSoundPart}
use Rattle.camp_row.specs.declared.passes.Pass.TheInside.{Inside}

abbrev pub part : Inside → Part
part pass = part_of pass.seat.me.0.parts

abbrev pub known : Inside → PassState
known pass = known_of pass.seat.table_id (part pass)

-- the invariant of a pass: its view of the table has one part and no slot, and its counters and words are those of that
-- part
pub record IsPass (pass : Inside) (part : Part) : Type 0 where
  pub alone : pass.seat.me.0.parts ≡ part ∷ []
  pub no_slot : pass.seat.me.1 ≡ []
  pub number : pass.number ≡ part.number
  pub published : pass.published ≡ entry_count part.number part.seen
  pub last : pass.last ≡ head_word part.seats part.seen
  pub head : pass.head ≡ head_word part.seats part.ahead
  pub number_below : part.number < part.seats
  pub published_within : pass.published ≤ part.per_seat
  pub sound : IsSoundPart part
