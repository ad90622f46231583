-- Calls with notes.
use Rattle.std.specs.Prelude.{ℕ, List}
use Rattle.camp_object.specs.Objects.{Sequential}

-- a call, and the bytes of its note
pub record WithNote (Call : Type 0) : Type 0 where
  pub note : List ℕ
  pub call : Call

-- an object that is asked calls with notes; it ignores the notes
abbrev pub noting : {State Call Reply : Type 0} → Sequential State Call Reply → Sequential State (WithNote Call) Reply
noting object = record {
  initial = object.initial;
  after = λ state noted. object.after state noted.call;
  answers = λ state noted. object.answers state noted.call;
  first = object.first;
  count = object.count;
  is_writing = λ noted. object.is_writing noted.call;
  done = object.done;
  done_at = object.done_at;
}
