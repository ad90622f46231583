-- Lemmas on calls that are decided one after another.
use Rattle.std.proofs.Common.{◌≡◌, ℕ, ◌+◌, inl, inr, Bool, List, [], ◌∷◌, ◌++◌, length, map, Option, Some, None, is_some, if◌then◌else◌, refl, sym, ◌∙◌, ap, subst, arith}
use Rattle.std.specs.Option.{option_and_then, unwrap_or}
use Rattle.std.proofs.lemmas.List.{append_assoc, append-nil, length-append}
use Rattle.camp_object.specs.Objects.{Sequential, begun}
use Rattle.camp_object.specs.Histories.{replay}
use Rattle.camp_object.proofs.Replays.{replay_accepted, accepted_at}
use Rattle.camp_member.specs.Decisions.{AreDecided, IsDecided, accepted_after, extended}
use Rattle.camp_member.specs.Inside.Drafts.{Drafted, DecidesOne, DraftsAll}

module _ {State Call Reply : Type 0} (object : Sequential State Call Reply) where
  -- one more call is decided after the others
  pub decided_push : (old : List (ℕ × Call)) (seat : ℕ) (calls : List Call) (replies : List Reply) (between new : List (ℕ × Call)) (call : Call) (reply : Reply)
      → AreDecided object old seat calls replies between → IsDecided object between (seat, call) reply new
      → AreDecided object old seat (calls ++ call ∷ []) (replies ++ reply ∷ []) new
  decided_push old seat [] [] between new call reply decided one =
      let P : List (ℕ × Call) → Type 0 = λ list. IsDecided object list (seat, call) reply new in
      (new, subst P decided one, refl)
  decided_push old seat [] (r ∷ replies) between new call reply decided one = absurd decided
  decided_push old seat (c ∷ calls) [] between new call reply decided one = absurd decided
  decided_push old seat (c ∷ calls) (r ∷ replies) between new call reply decided one =
      (decided.0, decided.1, decided_push decided.0 seat calls replies between new call reply decided.2 one)

  -- a call that is decided extends the history if it is accepted
  pub decided_extends : (old : List (ℕ × Call)) (request : ℕ × Call) (reply : Reply) (new : List (ℕ × Call)) → IsDecided object old request reply new → new ≡ extended object old request
  decided_extends old request reply new (inl took) = took.1 ∙ sym (ap (λ (b : Bool). if b then old ++ request ∷ [] else old) took.0)
  decided_extends old request reply new (inr answered) =
      answered.0
      ∙ sym (ap (λ (next : Option State). if is_some next then old ++ request ∷ [] else old) (ap (option_and_then (λ state. object.after state request.1)) answered.1.replays ∙ answered.1.stays))

  -- calls that are decided leave the history with those that are accepted
  pub decided_accepts : (old : List (ℕ × Call)) (seat : ℕ) (calls : List Call) (replies : List Reply) (new : List (ℕ × Call))
      → AreDecided object old seat calls replies new → new ≡ accepted_after object old (map (λ call. (seat, call)) calls)
  decided_accepts old seat [] [] new decided = decided
  decided_accepts old seat [] (r ∷ replies) new decided = absurd decided
  decided_accepts old seat (c ∷ calls) [] new decided = absurd decided
  decided_accepts old seat (c ∷ calls) (r ∷ replies) new decided =
      decided_accepts decided.0 seat calls replies new decided.2
      ∙ ap (λ list. accepted_after object list (map (λ call. (seat, call)) calls)) (decided_extends old (seat, c) r decided.0 decided.1)

  -- it is decided alike where histories begin with another state
  pub decides_begun : (first begun_with : State) (before seat : ℕ) (call : Call) (old new : Drafted State Call Reply)
      → DecidesOne object begun_with before old seat call new → DecidesOne (begun object first) begun_with before old seat call new
  decides_begun first begun_with before seat call old new (inl one) =
      inl (record { state = one.state; after = one.after; next = one.next; accepted = one.accepted; replies = one.replies })
  decides_begun first begun_with before seat call old new (inr one) =
      inr (record { reply = one.reply; stays = one.stays; gives = one.gives; next = one.next; accepted = one.accepted; replies = one.replies })

  module _ (begun : State) (before seat : ℕ) where
    pub drafts_nothing : (draft : Drafted State Call Reply) → draft.next ≡ None → draft.accepted ≡ [] → draft.replies ≡ [] → DraftsAll object begun before seat [] draft
    drafts_nothing draft next accepted replies = λ history replays position.
        let same : history ++ draft.accepted ≡ history = ap (λ list. history ++ list) accepted ∙ append-nil history in
        let P : List Reply → Type 0 = λ list. AreDecided object history seat [] list (history ++ draft.accepted) in (
          ap (replay object) same ∙ replays ∙ ap (λ (state : Option State). Some (unwrap_or state begun)) (sym next),
          subst P (sym replies) same,
        )

    pub drafts_more : (calls : List Call) (call : Call) (old new : Drafted State Call Reply) → DraftsAll object begun before seat calls old → DecidesOne object begun before old seat call new
        → DraftsAll object begun before seat (calls ++ call ∷ []) new
    drafts_more calls call old new drafts (inl one) = λ history replays position.
        let so_far = drafts history replays position in
        let front = history ++ old.accepted in
        let longer : history ++ new.accepted ≡ front ++ (seat, call) ∷ [] =
        ap (λ list. history ++ list) one.accepted ∙ sym (append_assoc history old.accepted ((seat, call) ∷ [])) in
        let next : replay object (front ++ (seat, call) ∷ []) ≡ Some one.state = replay_accepted object front (seat, call) _ one.state so_far.0 one.after in
        let size : before + length old.accepted + 1 ≡ length (history ++ new.accepted) =
        let parts = ap length longer in let ends = length-append front ((seat, call) ∷ []) in let fronts = length-append history old.accepted in omega arith
        in
        let decided : IsDecided object front (seat, call) (object.done (before + length old.accepted + 1)) (history ++ new.accepted) =
        inl (accepted_at object front call _ one.state so_far.0 one.after, longer, ap object.done size) in
        let P : List Reply → Type 0 = λ list. AreDecided object history seat (calls ++ call ∷ []) list (history ++ new.accepted) in (
          ap (replay object) longer ∙ next ∙ ap (λ (state : Option State). Some (unwrap_or state begun)) (sym one.next),
          subst P (sym one.replies) (decided_push history seat calls old.replies front (history ++ new.accepted) call _ so_far.1 decided),
        )
    drafts_more calls call old new drafts (inr one) = λ history replays position.
        let so_far = drafts history replays position in
        let front = history ++ old.accepted in
        let same : history ++ new.accepted ≡ front = ap (λ list. history ++ list) one.accepted in
        let decided : IsDecided object front (seat, call) one.reply (history ++ new.accepted) =
        inr (same, record { state = unwrap_or old.next begun; replays = so_far.0; stays = one.stays; gives = one.gives }) in
        let P : List Reply → Type 0 = λ list. AreDecided object history seat (calls ++ call ∷ []) list (history ++ new.accepted) in (
          ap (replay object) same ∙ so_far.0 ∙ ap (λ (state : Option State). Some (unwrap_or state begun)) (sym one.next),
          subst P (sym one.replies) (decided_push history seat calls old.replies front (history ++ new.accepted) call one.reply so_far.1 decided),
        )
