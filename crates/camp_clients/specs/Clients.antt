-- Clients at the seats of a head: when they can begin, and what they return.
use Rattle.std.specs.Prelude.{◌≡◌, ℕ, ◌<◌, List, [], ◌∷◌, map, Result, Vec}
use Rattle.std.specs.List.{AllZip}
use Rattle.camp_object.specs.Histories.{own}
use Rattle.camp_object.specs.Objects.{Sequential}
use Rattle.camp_object.specs.declared.faults.Fault.{Fault}
use Rattle.camp_history.specs.Seats.{HeadId, SeatState, IsSeatOf, caller_at, history_of, seat_number}
use Rattle.camp_clients.specs.Answers.{SectionStep}
use Rattle.camp_clients.specs.Runs.{section_of}
use Rattle.camp_clients.specs.Sections.{Section}

-- a seat at which a section can begin: it is a seat of the head, has a section, and has no calls yet
pub record IsReady {State Call : Type 0} (head : HeadId State) (sections : ℕ) (seat : SeatState State Call) : Type 0 where
  pub is_seat : IsSeatOf head seat
  pub has_section : seat_number seat < sections
  pub none_own : own (seat_number seat) (history_of seat) ≡ []

module _ {State Call Reply : Type 0} (object : Sequential State Call Reply) (head : HeadId State)
    (sections : List (List Call)) where
  -- a client has asked the calls of its seat's section
  pub record Ran (before after : SeatState State Call) (answers : List (Result Reply Fault)) : Type 0 where
    pub is_seat : IsSeatOf head after
    pub number : seat_number after ≡ seat_number before
    pub section : Section (SectionStep object (caller_at head before)) (history_of before)
        (section_of sections (seat_number before)) answers (history_of after)

  -- all clients have asked their sections: their seats afterwards, and all answers, those of the opening first
  pub record AllRan {Z : Type 0} (opening : Vec (Result Reply Fault) Z) (before after : List (SeatState State Call))
      (answers : List (Vec (Result Reply Fault) Z)) : Type 0 where
    pub brought : List (SeatState State Call × Vec (Result Reply Fault) Z)
    pub ran : AllZip (λ seat one. Ran seat one.0 one.1.items) before brought
    pub seats : after ≡ map (λ one. one.0) brought
    pub all_answers : answers ≡ opening ∷ map (λ one. one.1) brought
