-- Lemmas on a section whose calls are adjacent in a history.
use Rattle.camp_clients.proofs.Words.{◌≡◌, ℕ, ◌+◌, ◌<◌, List, [], ◌∷◌, ◌++◌, length, Option, None, Some, Result, Ok, Err, MatchOption, refl, sym, ◌∙◌, ap, subst, append_assoc, inl, inr, arith, All-same, cases_lt, All, IsBeginning, IsAnswered, own, Sequential, Fault, Memory, Busy, Full, IsDone, IsOvertaken, SaysAmongThreads, SaysAlone, reported_position, own_at, where_done, done_at, Section, begins_through, own-append, length-own-all, length-own-within, HasOpening, begins_whole, length-beginning}
use Rattle.std.proofs.lemmas.List.{length-append, get_or-append-add}
use Rattle.camp_clients.proofs.SectionSteps.{says_grows, section_prefix, own_at_first, own_at_mine, same_first}

-- a fact about all elements holds of those after a prefix
pub all_after : {X : Type 0} (P : X → Type 0) (prefix whole : List X) (begins : IsBeginning prefix whole) → All P whole → All P begins.rest
all_after P prefix whole begins all k d below =
    subst P (get_or-append-add prefix begins.rest k d)
    (All-same P (prefix ++ begins.rest) whole begins.makes all (length prefix + k) d (omega (arith, below, length-append prefix begins.rest)))

module _ {State Call Reply : Type 0} (object : Sequential State Call Reply) (seat tries : ℕ) where
  -- the first of these positions is after a prefix
  abbrev pub StartsAfter : List (ℕ × Call) → List (ℕ × Call) → Type 0
  StartsAfter prefix left = (at : ℕ) (call : Call) (more : List (ℕ × Call)) → left ≡ (at, call) ∷ more → length prefix < at

  reply_after : (before : List (ℕ × Call)) (call : Call) (at : Option ℕ) (reply : Reply) (next left : List (ℕ × Call))
      → MatchOption at (IsBeginning before next × IsAnswered object next call reply) (λ at. IsDone seat before call at next)
      → StartsAfter next left → StartsAfter before (where_done at call left)
  reply_after before call None reply next left says beyond at other more is =
      let further = beyond at other more is in omega (arith, length-beginning says.0)
  reply_after before call (Some reported_position) reply next left says beyond at other more is =
      let first = same_first _ _ _ _ _ _ is in
      omega (arith, first.0, says.position, ap length says.ends, length-append says.at_acceptance ((seat, call) ∷ []), length-beginning says.since)

  says_after : (before : List (ℕ × Call)) (call : Call) (answer : Result Reply Fault) (next left : List (ℕ × Call))
      → SaysAmongThreads object seat tries before call answer next → StartsAfter next left → StartsAfter before (where_done (reported_position object answer) call left)
  says_after before call (Ok reply) next left says beyond = reply_after before call (object.done_at reply) reply next left says beyond
  says_after before call (Err Memory) next left says beyond = absurd says
  says_after before call (Err (Busy lost)) next left says beyond = λ at other more is.
      let further = beyond at other more is in omega (arith, ap length says.makes, length-append before says.others)
  says_after before call (Err Full) next left says beyond = absurd says

  -- the calls that a section reports as done come after its first prefix
  pub section_after : (first : List (ℕ × Call)) (calls : List Call) (answers : List (Result Reply Fault)) (last : List (ℕ × Call))
      → Section (SaysAmongThreads object seat tries) first calls answers last → StartsAfter first (done_at (reported_position object) calls answers)
  section_after first [] [] last s = λ at call more is. absurd (cc is)
  section_after first [] (a ∷ answers) last s = absurd s
  section_after first (c ∷ calls) [] last s = absurd s
  section_after first (c ∷ calls) (a ∷ answers) last s =
      says_after first c a s.0 (done_at (reported_position object) calls answers) s.1 (section_after s.0 calls answers last s.2)

module _ {State Call Reply : Type 0} (object : Sequential State Call Reply) (seat : ℕ) (history : List (ℕ × Call)) where
  -- a prefix of the history, and these calls of the seat after it, with their positions
  pub record Leaves (prefix left : List (ℕ × Call)) : Type 0 where
    pub begins : IsBeginning prefix history
    pub are : own_at seat (length prefix) begins.rest ≡ left

  -- the next done call adds itself to the prefix, and nothing else
  done_leaves : (before : List (ℕ × Call)) (call : Call) (next left : List (ℕ × Call)) (at : ℕ)
      → Leaves before ((at, call) ∷ left) → next ≡ before ++ (seat, call) ∷ [] → at ≡ length next → Leaves next left
  done_leaves before call next left at leaves is position =
      let long : length next ≡ length before + 1 = ap length is ∙ length-append before ((seat, call) ∷ []) in
      let rest = leaves.begins.rest in
      let first = own_at_first seat (length before) rest call left (subst (λ n. own_at seat (length before) rest ≡ (n, call) ∷ left) (position ∙ long) leaves.are) in
      record {
        begins = record {
          rest = first.0;
          makes = ap (λ f. f ++ first.0) is ∙ append_assoc before ((seat, call) ∷ []) first.0 ∙ ap (λ r. before ++ r) (sym first.1) ∙ leaves.begins.makes;
        };
        are = ap (λ n. own_at seat n first.0) long ∙ first.2;
      }

  reply_leaves : (before : List (ℕ × Call)) (call : Call) (at : Option ℕ) (reply : Reply) (next left : List (ℕ × Call)) → Leaves before (where_done at call left)
      → MatchOption at ((next ≡ before) × IsAnswered object before call reply) (λ at. (next ≡ before ++ (seat, call) ∷ []) × (at ≡ length next))
      → Leaves next left
  reply_leaves before call None reply next left leaves says = subst (λ f. Leaves f left) (sym says.0) leaves
  reply_leaves before call (Some at) reply next left leaves says = done_leaves before call next left at leaves says.0 says.1

  says_leaves : (before : List (ℕ × Call)) (call : Call) (answer : Result Reply Fault) (next left : List (ℕ × Call))
      → Leaves before (where_done (reported_position object answer) call left) → SaysAlone object seat before call answer next → Leaves next left
  says_leaves before call (Ok reply) next left leaves says = reply_leaves before call (object.done_at reply) reply next left leaves says
  says_leaves before call (Err fault) next left leaves says = absurd says

  -- a section asked alone, whose calls are those after its first prefix, leaves none of them after its last
  section_leaves : (first : List (ℕ × Call)) (calls : List Call) (answers : List (Result Reply Fault)) (last : List (ℕ × Call))
      → Section (SaysAlone object seat) first calls answers last → Leaves first (done_at (reported_position object) calls answers) → Leaves last []
  section_leaves first [] [] last s leaves = subst (λ f. Leaves f []) s leaves
  section_leaves first [] (a ∷ answers) last s leaves = absurd s
  section_leaves first (c ∷ calls) [] last s leaves = absurd s
  section_leaves first (c ∷ calls) (a ∷ answers) last s leaves =
      section_leaves s.0 calls answers last s.2 (says_leaves first c a s.0 (done_at (reported_position object) calls answers) leaves s.1)

  -- a section that was asked first, and alone, is at the start of the history
  pub alone_begins : (calls : List Call) (answers : List (Result Reply Fault)) (last : List (ℕ × Call))
      → Section (SaysAlone object seat) [] calls answers last → own_at seat 0 history ≡ done_at (reported_position object) calls answers → Leaves last []
  alone_begins calls answers last s is = section_leaves [] calls answers last s (record { begins = record { rest = history; makes = refl }; are = is })

  -- in calls of one seat the first has the next position
  first_position : (before : ℕ) (rest left : List (ℕ × Call)) → All (λ entry. entry.0 ≡ seat) rest → 0 < length rest → own_at seat before rest ≡ left
      → (call : Call) × (more : List (ℕ × Call)) × (left ≡ (before + 1, call) ∷ more)
  first_position before [] left mine some are = absurd (omega arith)
  first_position before (entry ∷ rest) left mine some are =
      (entry.1, own_at seat (before + 1) rest, sym are ∙ own_at_mine seat before entry rest (mine 0 entry (omega arith)))

  module _ (mine : All (λ entry. entry.0 ≡ seat) history) where
    -- if all calls are the seat's, the first call after a prefix of the history has the next position
    next_position : (prefix left : List (ℕ × Call)) → Leaves prefix left → length prefix < length history
        → (call : Call) × (more : List (ℕ × Call)) × (left ≡ (length prefix + 1, call) ∷ more)
    next_position prefix left leaves below =
        let parts : length (prefix ++ leaves.begins.rest) ≡ length history = ap length leaves.begins.makes in
        first_position (length prefix) leaves.begins.rest left (all_after (λ entry. entry.0 ≡ seat) prefix history leaves.begins mine)
        (omega (arith, length-append prefix leaves.begins.rest)) leaves.are

    -- and if it leaves nothing it is the whole history
    pub leaves_none : (prefix : List (ℕ × Call)) → Leaves prefix [] → prefix ≡ history
    leaves_none prefix leaves = elim (cases_lt (length prefix) (length history)) [
      | inl below ↦ (let next = next_position prefix [] leaves below in absurd (cc next.2))
      | inr past ↦ begins_whole prefix history leaves.begins past
    ]

    module _ (tries : ℕ) (some : 0 < tries) where
      module _ (before : List (ℕ × Call)) (call : Call) (next left : List (ℕ × Call)) (within : IsBeginning next history) (beyond : StartsAfter object seat tries next left) where
        -- if no call is done, nothing comes between a prefix and the next
        no_more : Leaves before left → IsBeginning before next → next ≡ before
        no_more leaves grows = sym (begins_whole before next grows (elim (cases_lt (length before) (length history)) [
          | inl below ↦ (
              let position = next_position before left leaves below in
              let beyond = beyond (length before + 1) position.0 position.1 position.2 in
              omega arith)
          | inr past ↦ omega (arith, length-beginning within)
        ]))

        -- if a call is done, only this call comes between them
        done_next : (at : ℕ) → Leaves before ((at, call) ∷ left) → IsDone seat before call at next → next ≡ before ++ (seat, call) ∷ []
        done_next at leaves done =
            let long = length-append done.at_acceptance ((seat, call) ∷ []) in
            let ends = ap length done.ends in
            let position = next_position before ((at, call) ∷ left) leaves (omega (arith, long, ends, length-beginning done.since, length-beginning within)) in
            let first = same_first _ _ _ _ _ _ position.2 in
            let same = begins_whole before done.at_acceptance done.since (omega (arith, first.0, done.position, long, ends)) in
            sym done.ends ∙ ap (λ f. f ++ (seat, call) ∷ []) (sym same)

        reply_alone : (at : Option ℕ) (reply : Reply) → Leaves before (where_done at call left)
            → MatchOption at (IsBeginning before next × IsAnswered object next call reply) (λ at. IsDone seat before call at next)
            → MatchOption at ((next ≡ before) × IsAnswered object before call reply) (λ at. (next ≡ before ++ (seat, call) ∷ []) × (at ≡ length next))
        reply_alone None reply leaves says =
            let same = no_more leaves says.0 in (same, subst (λ f. IsAnswered object f call reply) same says.1)
        reply_alone (Some at) reply leaves says = (done_next at leaves says, says.position)

        -- and no call is overtaken
        never_overtaken : (lost : ℕ) → IsOvertaken seat tries before lost next → ⊥
        never_overtaken lost busy =
            let all = length-own-all seat history mine in
            let parts = ap (λ h. length (own seat h)) within.makes in
            let whole = ap length within.makes in
            let own_next = ap (λ h. length (own seat h)) busy.makes in
            omega (
              arith,
              all,
              parts,
              whole,
              own_next,
              some,
              busy.enough,
              ap length busy.makes,
              length-append before busy.others,
              length-append next within.rest,
              ap length busy.none_own,
              ap length (own-append seat before busy.others),
              length-append (own seat before) (own seat busy.others),
              ap length (own-append seat next within.rest),
              length-append (own seat next) (own seat within.rest),
              length-own-within seat before,
              length-own-within seat within.rest,
            )

        says_is_alone : (answer : Result Reply Fault) → Leaves before (where_done (reported_position object answer) call left)
            → SaysAmongThreads object seat tries before call answer next → SaysAlone object seat before call answer next
        says_is_alone (Ok reply) leaves says = reply_alone (object.done_at reply) reply leaves says
        says_is_alone (Err Memory) leaves says = says
        says_is_alone (Err (Busy lost)) leaves says = never_overtaken lost says
        says_is_alone (Err Full) leaves says = says

      -- a section whose calls are all of the history was asked alone
      pub section_is_alone : (first : List (ℕ × Call)) (calls : List Call) (answers : List (Result Reply Fault)) (last : List (ℕ × Call))
          → IsBeginning last history → Leaves first (done_at (reported_position object) calls answers) → Section (SaysAmongThreads object seat tries) first calls answers last
          → Section (SaysAlone object seat) first calls answers last
      section_is_alone first [] [] last within leaves s = s
      section_is_alone first [] (a ∷ answers) last within leaves s = absurd s
      section_is_alone first (c ∷ calls) [] last within leaves s = absurd s
      section_is_alone first (c ∷ calls) (a ∷ answers) last within leaves s =
          let left = done_at (reported_position object) calls answers in
          let grows = section_prefix (SaysAmongThreads object seat tries) (says_grows object seat tries) s.0 calls answers last s.2 in
          let next = begins_through grows within in
          let alone = says_is_alone first c s.0 left next (section_after object seat tries s.0 calls answers last s.2) a leaves s.1 in
          (s.0, alone, section_is_alone s.0 calls answers last within (says_leaves first c a s.0 left leaves alone) s.2)

-- an opening that was asked alone, whose calls are those of seat 0
pub has_opening : {State Call Reply : Type 0} (object : Sequential State Call Reply) (history : List (ℕ × Call))
    (calls : List Call) (answers : List (Result Reply Fault)) (last : List (ℕ × Call))
    → Section (SaysAlone object 0) [] calls answers last → own_at 0 0 history ≡ done_at (reported_position object) calls answers → HasOpening object calls answers history
has_opening object history calls answers last s is = record {
  last = last;
  alone = s;
  within = (alone_begins object 0 history calls answers last s is).begins;
}
