-- The calls of a stored history, executed again on a new repository.
use Rattle.std.proofs.Common.{◌≡◌, ℕ, ◌+◌, ◌≤◌, List, [], ◌∷◌, length, map, subst, Option, None, Some, Ok}
use Rattle.camp_run.proofs.Words.{refl, sym, ◌∙◌, ap, arith, AllByRecursion, Next, Answer, is_writing, Call, repositories_are_lawful, Bounds, next_of, replies_to, reply_of, repository_within, state_after_decision, IsSerial, accepted_from, booked, Entries}
use Rattle.std.specs.Option.{option_and_then}
use Rattle.std.proofs.lemmas.List.{append-nil, length-map}
use Rattle.std.proofs.lemmas.List.Sums.{count_by-le-length}
use Rattle.std.proofs.lemmas.Option.{none-some}
use Rattle.camp_object.specs.Histories.{run}
use Rattle.camp_object.proofs.Replays.{run-none}
use Rattle.camp_call.specs.declared.calls.Call.TheVariants as call
use Rattle.camp_call.specs.declared.replies.Reply.TheVariants as reply
use Rattle.camp_repo.proofs.AcceptedSteps.{obliterates_nothing, pulls_nothing}
use Rattle.camp_repo.specs.States.{Contents, new_within}
use Rattle.camp_repo.specs.Steps.{Decision, step}
use Rattle.camp_run.specs.StoredTexts.{KeptLeadsBack, SeatZeroIsPreserved, moved_to_seat_0, dones}
use Rattle.camp_script.specs.Canonical.{IsScriptCall, CanBeWritten}
use Rattle.camp_script.specs.Keeping.{CanBeInScript, ListsNames, calls_of}
use Rattle.camp_script.proofs.CanonicalCalls.{reads_back}

module _ (limits : Bounds) where
  -- an accepted call that lists names lists at least one
  lists_names : (state : Contents) (given : Call) (next : Contents) → step state given ≡ Next next → ListsNames given
  lists_names state (call.Branch new from) next is = tt
  lists_names state (call.Record branch name changes) next is = tt
  lists_names state (call.Pull from to None) next is = tt
  lists_names state (call.Pull from to (Some [])) next is = absurd (none-some next (sym (pulls_nothing state from to) ∙ ap next_of is))
  lists_names state (call.Pull from to (Some (name ∷ names))) next is = omega arith
  lists_names state (call.Obliterate branch []) next is = absurd (none-some next (sym (obliterates_nothing state branch) ∙ ap next_of is))
  lists_names state (call.Obliterate branch (name ∷ names)) next is = omega arith
  lists_names state (call.Tree branch) next is = tt
  lists_names state (call.Conflicts branch) next is = tt
  lists_names state (call.Names branch) next is = tt

  -- the calls of a history that continues from a state are each accepted when they are executed again from there
  record Retraces (state : Contents) (history : Entries) : Type 0 where
    books : accepted_from 0 state (calls_of history) ≡ moved_to_seat_0 history
    replies : map Ok (replies_to state (calls_of history)) ≡ dones (state.count + 1) (calls_of history)
    lists : AllByRecursion ListsNames (calls_of history)

  module _ (state end : Contents) (entry : ℕ × Call) (history : Entries) where
    retraced : (decision : Decision) → step state entry.1 ≡ decision
        → run (repository_within limits) (next_of decision) history ≡ Some end
        → ((next : Contents) → run (repository_within limits) (Some next) history ≡ Some end → Retraces next history)
        → Retraces state (entry ∷ history)
    retraced (Next next) is leads others =
        let calls = calls_of history in
        let more = others next leads in
        let counts = (repositories_are_lawful limits).counts state entry.1 next (ap next_of is) in
        record {
          books = ap (λ d. booked d (0, entry.1) (accepted_from 0 (state_after_decision state d) calls)) is
              ∙ ap (λ h. (0, entry.1) ∷ h) more.books;
          replies = ap (λ d. Ok (reply_of d) ∷ map Ok (replies_to (state_after_decision state d) calls)) is
              ∙ ap (λ rs. Ok (reply.Done next.count) ∷ rs) more.replies
              ∙ ap (λ n. Ok (reply.Done n) ∷ dones (n + 1) calls) counts;
          lists = (lists_names state entry.1 next is, more.lists);
        }
    retraced (Answer answer) is leads others = absurd (none-some end (sym (run-none (repository_within limits) history) ∙ leads))

  retraces : (history : Entries) (state end : Contents) → run (repository_within limits) (Some state) history ≡ Some end
      → Retraces state history
  retraces [] state end leads = record { books = refl; replies = refl; lists = tt }
  retraces (entry ∷ history) state end leads =
      retraced state end entry history (step state entry.1) refl leads (λ next further. retraces history next end further)

  can_stand : (calls : List Call) → AllByRecursion CanBeInScript calls → AllByRecursion ListsNames calls
      → AllByRecursion IsScriptCall calls
  can_stand [] stand lists = tt
  can_stand (given ∷ calls) stand lists = (stand.0 lists.0, can_stand calls stand.1 lists.1)

  run_moved_to_seat_0 : (history : Entries) (from : Option Contents)
      → run (repository_within limits) from (moved_to_seat_0 history) ≡ run (repository_within limits) from history
  run_moved_to_seat_0 [] from = refl
  run_moved_to_seat_0 (entry ∷ history) from =
      run_moved_to_seat_0 history (option_and_then (λ s. (repository_within limits).after s entry.1) from)

  can_be_written : (history : Entries) → AllByRecursion IsScriptCall (calls_of history) → length history ≤ 65_536
      → CanBeWritten (calls_of history ∷ [])
  can_be_written history are few =
      let short = count_by-le-length is_writing (calls_of history) in
      let long = length-map history (λ entry. entry.1) in
      record {
        calls = (are, tt);
        limits = record { has_opening = omega arith; sections_within = omega arith; writes_within = (omega (arith, short, long), tt) };
      }

pub kept_leads_back : KeptLeadsBack
kept_leads_back limits history state replays stand few =
    let again = retraces limits history (new_within limits) state replays in
    record {
      reads = reads_back (calls_of history ∷ [])
          (can_be_written limits history (can_stand limits (calls_of history) stand again.lists) few);
      is_serial = record {
        replies = ap (λ answers. answers ∷ []) (sym again.replies);
        books = sym again.books ∙ sym (append-nil (accepted_from 0 (new_within limits) (calls_of history)));
      };
      leads = run_moved_to_seat_0 limits history (Some (new_within limits)) ∙ replays;
    }

as_it_was : (history : Entries) → AllByRecursion (λ entry. entry.0 ≡ 0) history → moved_to_seat_0 history ≡ history
as_it_was [] all = refl
as_it_was (entry ∷ history) all =
    ap (λ n. (n, entry.1) ∷ moved_to_seat_0 history) (sym all.0) ∙ ap (λ h. entry ∷ h) (as_it_was history all.1)

pub seat_zero_is_preserved : SeatZeroIsPreserved
seat_zero_is_preserved limits history state replays stand within all =
    let back = kept_leads_back limits history state replays stand within in
    record {
      reads = back.reads;
      is_serial = subst (λ h. IsSerial limits (calls_of history ∷ []) (dones 1 (calls_of history) ∷ []) h) (as_it_was history all) back.is_serial;
    }
