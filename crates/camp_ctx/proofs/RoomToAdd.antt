-- A list that fits before an addition fits after it, so a reach in range gives headroom to add.
use Rattle.camp_ctx.proofs.Words.{List, [], ◌∷◌, ◌++◌, sym, subst, append_assoc, inverse_of, Named, AddsToContext, AddsAll, ContextedPatch, whole}
use Rattle.camp_seq.specs.Equivalence.{through}
use Rattle.camp_seq.proofs.FittingLists.{fits_alike, fits_before, fits_rest, fits_without}
use Rattle.camp_seq.proofs.ListEquivalence.{after_one, before, behind, equal_are}
use Rattle.camp_seq.proofs.Reaching.{FitsEverywhere, fits_within, room_where_it_fits}
use Rattle.camp_ctx.specs.Room.{ReachGivesRoomToAdd}
use Rattle.camp_ctx.proofs.AddsAlike.{Sum, as_sum, goes_past, past_whole, stays, stays_whole, undone}

sum_fits : (first : List Named) (a : Named) (c : List Named) (p : Named) (d : List Named) (q : Named) → FitsEverywhere (first ++ a ∷ (c ++ p ∷ [])) → Sum a c p d q → FitsEverywhere (first ++ (d ++ q ∷ []))
sum_fits first a c p d q fits (undone e is) =
    let whole_is = behind first _ _ (after_one a _ _ (before c (inverse_of a ∷ d) (p ∷ []) e)) in
    subst (λ z. FitsEverywhere (first ++ (d ++ z ∷ []))) (sym is) (fits_without first a (d ++ p ∷ []) (fits_alike _ _ whole_is fits))
sum_fits first a c p d q fits (goes_past never w) =
    let whole_is = through (behind first _ _ (past_whole a c p d q w)) (equal_are _ _ (sym (append_assoc first (d ++ q ∷ []) (w.behind ∷ [])))) in
    fits_before (first ++ (d ++ q ∷ [])) (w.behind ∷ []) (fits_alike _ _ whole_is fits)
sum_fits first a c p d q fits (stays never none e is) =
    fits_alike _ _ (behind first _ _ (stays_whole a c p d q e is)) fits

one_added_fits : (first : List Named) (a : Named) (x y : ContextedPatch) → FitsEverywhere (first ++ a ∷ whole x) → AddsToContext a x y → FitsEverywhere (first ++ whole y)
one_added_fits first a x y fits w =
    let room = room_where_it_fits (a ∷ whole x) (fits_rest first (a ∷ whole x) fits) in
    sum_fits first a x.context x.patch y.context y.patch fits (as_sum a x room y w)

added_fits : (first last : List Named) (x y : ContextedPatch) → FitsEverywhere (first ++ (last ++ whole x)) → AddsAll last x y → FitsEverywhere (first ++ whole y)
added_fits first [] x y fits w = subst (λ z. FitsEverywhere (first ++ whole z)) (sym w) fits
added_fits first (a ∷ last) x y fits w =
    let rest = added_fits (first ++ a ∷ []) last x w.0 (subst FitsEverywhere (sym (append_assoc first (a ∷ []) (last ++ whole x))) fits) w.1 in
    one_added_fits first a w.0 y (subst FitsEverywhere (append_assoc first (a ∷ []) (whole w.0)) rest) w.2

pub reach_gives_room_to_add : ReachGivesRoomToAdd
reach_gives_room_to_add r x all within first last e y w =
    let turned = through (before r (first ++ last) (whole x) e) (equal_are _ _ (append_assoc first last (whole x))) in
    let fits = fits_alike (r ++ whole x) (first ++ (last ++ whole x)) turned (fits_within (r ++ whole x) all within) in
    room_where_it_fits (first ++ whole y) (added_fits first last x y fits w)
