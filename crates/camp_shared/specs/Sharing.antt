-- A member of a log that shares a repository.
use Rattle.std.specs.Prelude.{◌≡◌, ℕ, List}
use Rattle.camp_call.specs.declared.calls.Call.{Call}
use Rattle.camp_call.specs.declared.replies.Reply.{Reply}
use Rattle.camp_entries.specs.Titles.{IsLogTitle}
use Rattle.camp_member.specs.Members.{Membership, new_member}
use Rattle.camp_member.specs.Notes.{WithNote, noting}
use Rattle.camp_object.specs.Objects.{Sequential, begun}
use Rattle.camp_repo.specs.Limits.{Bounds}
use Rattle.camp_repo.specs.Objects.{repository}
use Rattle.camp_repo.specs.States.{Contents, new_within}
use Rattle.camp_shared.specs.declared.faults.OpenFault.{OpenFault}
use Rattle.camp_shared.specs.declared.faults.OpenFault.TheVariants.{Memory, NoTitle}

-- a repository that is asked calls with notes; its history begins with this state
abbrev pub shared_from : Contents → Sequential Contents (WithNote Call) Reply
shared_from first = begun (noting repository) first

-- a member of a log whose entries have calls of a repository, with notes
abbrev pub Sharing : Type 0
Sharing = Membership Contents (WithNote Call) Reply

-- the most bytes of the calls of an entry, with their notes
abbrev pub most_bytes_of_calls : ℕ
most_bytes_of_calls = 1_048_516

-- a new member of a log with this title: its history begins with a new repository with the limits of the title, and it
-- was asked nothing and has read nothing
pub record IsOpenedLog (title : List ℕ) (seat : ℕ) (member : Sharing) : Type 0 where
  pub limits : Bounds
  pub titled : IsLogTitle title limits
  pub new : member ≡ new_member (new_within limits) seat

-- why there is no member: memory ran out, or the first entry is no title
abbrev pub IsNotOpened : List ℕ → OpenFault → Type 0
IsNotOpened title Memory = Unit {0}
IsNotOpened title NoTitle = (limits : Bounds) → ¬ (IsLogTitle title limits)
