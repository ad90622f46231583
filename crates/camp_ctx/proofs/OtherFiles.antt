-- Contexted patches that change other files do not conflict.
use Rattle.camp_ctx.proofs.Words.{◌≡◌, ◌∙◌, List, [], ◌∷◌, map, refl, sym, ap, subst, inl, inr, label_of, key_of, Label, Named, inverse_of, Commute, Norm, Fronts, CleanMerge, Conflict, ContextedPatch, whole}
use Rattle.std.proofs.lemmas.Bool.{false_from_ne_true}
use Rattle.camp_prim.specs.Effect.{InRange}
use Rattle.camp_prim.specs.Commuting.{PrimitivesCommute, path_of}
use Rattle.camp_prim.specs.declared.primitives.Primitive.{Primitive}
use Rattle.camp_prim.proofs.CommuteLaws.{square}
use Rattle.camp_seq.specs.Merging.{MergesOne}
use Rattle.camp_seq.proofs.NormalOrders.{has_normal_order}
use Rattle.camp_ctx.specs.Inside.Apart.{ChangeNoCommonFile, ChangeDifferentFiles, ChangesOtherFiles, LacksLabels}
use Rattle.camp_ctx.proofs.CommonLabels.{IsIn, in_from_has}
use Rattle.camp_ctx.proofs.Standing.{no_split, none_in_common}

-- the paths stay where two primitives commute
paths_stay : (p q q' p' : Primitive) → PrimitivesCommute p q q' p' → (path_of q' ≡ path_of q) × (path_of p' ≡ path_of p)
paths_stay p q q' p' (inl s) = (ap path_of s.second, ap path_of s.first)
paths_stay p q q' p' (inr (inl s)) = (ap path_of s.second ∙ ap path_of (sym s.is_q), ap path_of s.first)
paths_stay p q q' p' (inr (inr s)) = (ap path_of s.second, ap path_of s.first ∙ ap path_of (sym s.is_p))

moved : (p p' q : Named) → path_of p'.prim ≡ path_of p.prim → label_of p' ≡ label_of p → InRange p'.prim → ChangeDifferentFiles p q → ChangeDifferentFiles p' q
moved p p' q path label range w = record {
  paths = λ e. w.paths (sym path ∙ e);
  keys = λ e. w.keys (sym (ap key_of label) ∙ e);
  first = range;
  second = w.second;
}

turned : (p q : Named) → ChangeDifferentFiles p q → ChangeDifferentFiles q p
turned p q w = record { paths = λ e. w.paths (sym e); keys = λ e. w.keys (sym e); first = w.second; second = w.first }

moved_from_all : (p p' : Named) (t : List Named) → path_of p'.prim ≡ path_of p.prim → label_of p' ≡ label_of p → InRange p'.prim → ChangesOtherFiles t p → ChangesOtherFiles t p'
moved_from_all p p' [] path label range w = tt
moved_from_all p p' (q ∷ t) path label range w =
    (moved p p' q path label range w.0, moved_from_all p p' t path label range w.1)

turned_each : (q : Named) (s t : List Named) → ChangeNoCommonFile s (q ∷ t) → ChangesOtherFiles s q × ChangeNoCommonFile s t
turned_each q [] t w = (tt, tt)
turned_each q (p ∷ s) t w =
    let rest = turned_each q s t w.1 in
    ((turned p q w.0.0, rest.0), (w.0.1, rest.1))

turned_all : (s t : List Named) → ChangeNoCommonFile s t → ChangeNoCommonFile t s
turned_all s [] w = tt
turned_all s (q ∷ t) w =
    let both = turned_each q s t w in
    (both.0, turned_all s t both.1)

-- a primitive that is independent of a list is still independent after the list was moved
module _ (t : List Named) where
  front_elsewhere : (label : Label) (s : List Named) (y : Named) (u : List Named) → Fronts label s y u → ChangeNoCommonFile s t → ChangesOtherFiles t y × ChangeNoCommonFile u t
  front_elsewhere label [] y u w a = absurd w
  front_elsewhere label (p ∷ s) y u (inl w) a =
      (subst (ChangesOtherFiles t) (sym w.1) a.0, subst (λ l. ChangeNoCommonFile l t) (sym w.2) a.1)
  front_elsewhere label (p ∷ s) y u (inr w) a =
      let f = w.1 in
      let rest = front_elsewhere label s f.0 f.2 f.3 a.1 in
      let stay = paths_stay p.prim f.0.prim y.prim f.1.prim f.4.anywhere.change in
      let ranges = f.4.ranges in
      let own = moved_from_all p f.1 t stay.1 f.4.anywhere.first ranges.3 a.0 in
      let came = moved_from_all f.0 y t stay.0 f.4.anywhere.second ranges.2 rest.0 in
      (came, subst (λ l. ChangeNoCommonFile l t) (sym f.5) (own, rest.1))

  norm_elsewhere : (s u : List Named) → Norm s u → ChangeNoCommonFile s t → ChangeNoCommonFile u t
  norm_elsewhere s [] n a = tt
  norm_elsewhere s (y ∷ u) n a =
      let front = front_elsewhere (label_of y) s y n.0 n.1 a in
      (front.0, norm_elsewhere n.0 u n.3 front.1)

-- they merge as they are
merges_elsewhere : (p q : Named) → ChangeDifferentFiles p q → Commute (inverse_of p) q q (inverse_of p)
merges_elsewhere p q w =
    square p q q p (record {
      anywhere = record { apart = w.keys; change = inl (record { paths = w.paths; second = refl; first = refl }); second = refl; first = refl };
      ranges = (w.first, w.second, w.second, w.first);
    })

row : (p : Named) (t : List Named) → ChangesOtherFiles t p → MergesOne p t t p
row p [] w = (refl, refl)
row p (q ∷ t) w = (q, p, t, merges_elsewhere p q w.0, row p t w.1, refl)

rows : (s t : List Named) → ChangeNoCommonFile s t → CleanMerge s t t s
rows [] t w = (refl, refl)
rows (p ∷ s) t w = (t, p, s, row p t w.0, rows s t w.1, refl)

-- they have no label in common
not_among : (p : Named) (t : List Named) → ChangesOtherFiles t p → ¬ (IsIn (label_of p) (map label_of t))
not_among p [] w among = among
not_among p (q ∷ t) w (inl is) = w.0.keys (sym (ap key_of is))
not_among p (q ∷ t) w (inr among) = not_among p t w.1 among

lack_labels : (s t : List Named) → ChangeNoCommonFile s t → LacksLabels s t
lack_labels [] t w = tt
lack_labels (p ∷ s) t w =
    (false_from_ne_true _ (λ has. not_among p t w.0 (in_from_has t (label_of p) has)), lack_labels s t w.1)

pub no_conflict : (x y : ContextedPatch) → ChangeNoCommonFile (whole x) (whole y) → ¬ (Conflict x y)
no_conflict x y w never =
    let s = whole x in
    let t = whole y in
    let (u, first) = has_normal_order s in
    let (v, second) = has_normal_order t in
    let none = none_in_common s t (lack_labels s t w) in
    let own = norm_elsewhere t s u first w in
    let all = turned_all v u (norm_elsewhere u t v second (turned_all u t own)) in
    never v u (record { common = []; s1 = u; t1 = v; first = no_split _ s u none first; second = no_split _ t v none second; merge = rows u v all })
