-- Lists that merge cleanly exactly where their normal orders do, and the contexted patches that they are of.
use Rattle.camp_ctx.proofs.Words.{◌≡◌, List, [], ◌∷◌, ◌++◌, false, subst, label_of, Label, Named, CleanMerge, Norm, Splits, one_order, one_split, chain_is_ordered, ContextedPatch, Conflict, common_labels, has_label, whole}
use Rattle.camp_ctx.specs.Contexts.{bare}
use Rattle.camp_seq.specs.Equivalence.{backwards}
use Rattle.camp_seq.specs.Room.{HasRoomToMerge}
use Rattle.camp_seq.proofs.ListEquivalence.{ordered}
use Rattle.camp_seq.proofs.MergeOrders.{merges_in_any_order, room_in_any_order}
use Rattle.camp_seq.proofs.NormalOrders.{has_normal_order}
use Rattle.camp_ctx.specs.Inside.Apart.{LacksLabels, MergesAsOrdered, NoCleanMerge}
use Rattle.camp_ctx.proofs.Standing.{no_split, none_in_common}

pub of_own_orders : (s t : List Named) → Norm s s → Norm t t → MergesAsOrdered s t
of_own_orders s t own other = record {
  forth = λ s1 t1 t' s' n m w. (t', s', subst (λ a. CleanMerge a t t' s') (one_order s s1 s n own) (subst (λ b. CleanMerge s1 b t' s') (one_order t t1 t m other) w));
  back = λ t' s' w. (s, t, t', s', own, other, w);
}

pub of_room : (s t : List Named) → HasRoomToMerge s t → MergesAsOrdered s t
of_room s t room = record {
  forth = λ s1 t1 t' s' n m w.
      let e = ordered s s1 n in
      let f = ordered t t1 m in
      merges_in_any_order s1 s t1 t (room_in_any_order s s1 t t1 room e f) (backwards e) (backwards f) t' s' w;
  back = λ t' s' w.
      let n = has_normal_order s in
      let m = has_normal_order t in
      let v = merges_in_any_order s n.0 t m.0 room (ordered s n.0 n.1) (ordered t m.0 m.1) t' s' w in
      (n.0, m.0, v.0, v.1, n.1, m.1, v.2);
}

rest_of_none : (labels : List Label) (s f r : List Named) → labels ≡ [] → Splits labels s f r → Norm s r
rest_of_none labels s f r none w =
    let n = has_normal_order s in
    subst (Norm s) (one_split labels s [] n.0 f r (no_split labels s n.0 none n.1) w).1 n.1

module _ (x y : ContextedPatch) (lacks : LacksLabels (whole x) (whole y)) (any : MergesAsOrdered (whole x) (whole y)) where
  nothing : common_labels (whole x) (whole y) ≡ []
  nothing = none_in_common (whole x) (whole y) lacks

  pub conflict_as_they_stand : NoCleanMerge (whole x) (whole y) → Conflict x y
  conflict_as_they_stand never t' s' w =
      let v = any.forth w.s1 w.t1 t' s' (rest_of_none _ (whole x) w.common w.s1 nothing w.first) (rest_of_none _ (whole y) w.common w.t1 nothing w.second) w.merge in
      never v.0 v.1 v.2

  pub merge_as_they_stand : (t' s' : List Named) → CleanMerge (whole x) (whole y) t' s' → ¬ (Conflict x y)
  merge_as_they_stand t' s' w conflict =
      let v = any.back t' s' w in
      conflict v.2 v.3 (record {
        common = [];
        s1 = v.0;
        t1 = v.1;
        first = no_split _ (whole x) v.0 nothing v.4;
        second = no_split _ (whole y) v.1 nothing v.5;
        merge = v.6;
      })

-- if a patch without a context does not merge with a list and the patch after it, and they do not have its label, it
-- conflicts with them
pub some_behind : (a patch : Named) (s : List Named) → has_label (s ++ patch ∷ []) (label_of a) ≡ false → NoCleanMerge (a ∷ []) (s ++ patch ∷ []) → Norm (s ++ patch ∷ []) (s ++ patch ∷ []) → Conflict (bare a) (record { context = s; patch = patch })
some_behind a patch s lacks stops own =
    conflict_as_they_stand (bare a) (record { context = s; patch = patch }) (lacks, tt) (of_own_orders (a ∷ []) (s ++ patch ∷ []) (chain_is_ordered (a ∷ []) (tt, tt)) own) stops
