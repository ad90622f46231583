-- Plain patches, inverted one by one.
use Rattle.camp_questions.proofs.Words.{effect_of, flat_map, ◌≡◌, ℕ, false, List, [], ◌∷◌, ◌++◌, map, refl, sym, ap, ◌∙◌, subst, AllByRecursion, map-append, Catch, is_among, name_of, all_append, AreDistinct, Named, reverse, distinct_append, inverse_of, inverse_all-append, inverse_all-cons, inverse_all, Plain, AreOfPatch, ArePatches, ArePatchesOf, catches_in_order, names_in_order, GrowsToFront, GrowsToTakeOut, IsInverted, AreInverses, HaveRoom, PatchCatches, reverse-cons, flat_map_more, AllZip, none_else}
use Rattle.camp_questions.proofs.PlainLabels.{plain_effects}
use Rattle.camp_questions.proofs.TakenBack.{needed_as_held}

pub map-reverse : {X Y : Type 0} (f : X → Y) (xs : List X) → map f (reverse xs) ≡ reverse (map f xs)
map-reverse f [] = refl
map-reverse f (x ∷ xs) =
    ap (map f) (reverse-cons x xs) ∙ map-append f (reverse xs) (x ∷ []) ∙ ap (λ l. l ++ f x ∷ []) (map-reverse f xs) ∙ sym (reverse-cons (f x) (map f xs))

all_reversed : {X : Type 0} (P : X → Type 0) (xs : List X) → AllByRecursion P xs → AllByRecursion P (reverse xs)
all_reversed P [] w = tt
all_reversed P (x ∷ xs) w =
    subst (AllByRecursion P) (sym (reverse-cons x xs)) (all_append P (reverse xs) (x ∷ []) (all_reversed P xs w.1) (w.0, tt))

distinct_reversed : (names : List (List ℕ)) → AreDistinct names → AreDistinct (reverse names)
distinct_reversed [] w = tt
distinct_reversed (n ∷ names) w =
    subst AreDistinct (sym (reverse-cons n names)) (distinct_append (reverse names) (n ∷ []) (distinct_reversed names w.1) (refl, tt) (all_reversed (λ m. is_among (n ∷ []) m ≡ false) names (none_else n names w.0)))

-- each of some patches is inverted
abbrev pub IsBack : PatchCatches → PatchCatches → Type 0
IsBack patch back = (back.name ≡ patch.name) × AreInverses patch.catches.items back.catches.items

abbrev pub AreAllBack : List PatchCatches → List PatchCatches → Type 0
AreAllBack patches backs = AllZip IsBack patches backs

called_back : (patches backs : List PatchCatches) → AreAllBack patches backs → names_in_order backs ≡ names_in_order patches
called_back [] [] w = refl
called_back [] (b ∷ backs) w = absurd w
called_back (p ∷ patches) [] w = absurd w
called_back (p ∷ patches) (b ∷ backs) w = λ i. w.0.0 i ∷ called_back patches backs w.1 i

same_plain : (xs ys : List Named) → map Plain xs ≡ map Plain ys → xs ≡ ys
same_plain xs ys e = sym (plain_effects xs) ∙ ap (flat_map effect_of) e ∙ plain_effects ys

pub catches-append : (backs : List PatchCatches) (b : PatchCatches) → catches_in_order (backs ++ b ∷ []) ≡ catches_in_order backs ++ b.catches.items
catches-append backs b = sym (flat_map_more (λ (patch : PatchCatches). patch.catches.items) [] backs b)

-- together they are the inverses of all catches, the last first
all_inverses : (patches backs : List PatchCatches) → AreAllBack patches backs → AreInverses (catches_in_order patches) (catches_in_order (reverse backs))
all_inverses [] [] w = record { forth = []; plain = refl; inverses = refl }
all_inverses [] (b ∷ backs) w = absurd w
all_inverses (p ∷ patches) [] w = absurd w
all_inverses (p ∷ patches) (b ∷ backs) w =
    let one = w.0.1 in
    let rest = all_inverses patches backs w.1 in
    record {
      forth = one.forth ++ rest.forth;
      plain = (λ i. one.plain i ++ rest.plain i) ∙ sym (map-append Plain one.forth rest.forth);
      inverses =
          ap catches_in_order (reverse-cons b backs) ∙ catches-append (reverse backs) b ∙ (λ i. rest.inverses i ++ one.inverses i) ∙ sym (map-append Plain (inverse_all rest.forth) (inverse_all one.forth)) ∙ ap (map Plain) (sym (inverse_all-append one.forth rest.forth));
    }

own_back : (name : List ℕ) (list : List Named) → AreOfPatch name (map Plain list) → AreOfPatch name (map Plain (inverse_all list))
own_back name [] own = tt
own_back name (p ∷ list) own =
    subst (λ l. AreOfPatch name (map Plain l)) (sym (inverse_all-cons p list)) (subst (AreOfPatch name) (sym (map-append Plain (inverse_all list) (inverse_of p ∷ []))) (all_append (λ k. name_of k ≡ name) (map Plain (inverse_all list)) (Plain (inverse_of p) ∷ []) (own_back name list own.1) (own.0, tt)))

abbrev HasOwn : PatchCatches → Type 0
HasOwn patch = AreOfPatch patch.name patch.catches.items

own_all_back : (patches backs : List PatchCatches) → AreAllBack patches backs → AllByRecursion HasOwn patches → AllByRecursion HasOwn backs
own_all_back [] [] w own = tt
own_all_back [] (b ∷ backs) w own = absurd w
own_all_back (p ∷ patches) [] w own = absurd w
own_all_back (p ∷ patches) (b ∷ backs) w own =
    let one = w.0.1 in
    let here = own_back p.name one.forth (subst (AreOfPatch p.name) one.plain own.0) in
    (subst (λ n. AreOfPatch n b.catches.items) (sym w.0.0) (subst (AreOfPatch p.name) (sym one.inverses) here), own_all_back patches backs w.1 own.1)

-- all patches of a list are inverted
pub all_back : (list : List Catch) (patches backs : List PatchCatches) → ArePatchesOf list patches → HaveRoom list → AreAllBack patches backs → IsInverted list backs
all_back list patches backs of room w =
    let all = all_inverses patches backs w in
    let called = called_back patches backs w in
    let same = same_plain all.forth room.forth (sym all.plain ∙ of.catches ∙ room.plain) in
    record {
      forth = room.forth;
      plain = room.plain;
      room = room.room;
      room_back = room.room_back;
      are = record {
        own = own_all_back patches backs w of.are.own;
        distinct = subst AreDistinct (sym called) of.are.distinct;
      };
      names = called ∙ of.names;
      inverses = all.inverses ∙ ap (λ l. map Plain (inverse_all l)) same;
    }

-- the last first, they are patches too
pub reversed : (patches : List PatchCatches) → ArePatches patches → ArePatches (reverse patches)
reversed patches are = record {
  own = all_reversed HasOwn patches are.own;
  distinct = subst AreDistinct (sym (map-reverse (λ (p : PatchCatches). p.name) patches)) (distinct_reversed (names_in_order patches) are.distinct);
}

-- the dependents of names in the inverted patches are their dependencies in the list
pub needed_taken_back : (list : List Catch) (backs : List PatchCatches) (names grown : List (List ℕ)) → IsInverted list backs → GrowsToTakeOut (catches_in_order (reverse backs)) names grown → GrowsToFront list names grown
needed_taken_back list backs names grown back grows =
    subst (λ l. GrowsToFront l names grown) (sym back.plain) (needed_as_held back.forth names grown back.room back.room_back (subst (λ l. GrowsToTakeOut l names grown) back.inverses grows))

-- plain catches, each inverted
pub record AreInvertedSoFar (list back : List Catch) : Type 0 where
  pub forth : List Named
  pub plain : list ≡ map Plain forth
  pub each : back ≡ map Plain (map inverse_of forth)

pub one_inverted : (list back : List Catch) (p : Named) → AreInvertedSoFar list back → AreInvertedSoFar (list ++ Plain p ∷ []) (back ++ Plain (inverse_of p) ∷ [])
one_inverted list back p so_far = record {
  forth = so_far.forth ++ p ∷ [];
  plain = ap (λ l. l ++ Plain p ∷ []) so_far.plain ∙ sym (map-append Plain so_far.forth (p ∷ []));
  each = ap (λ l. l ++ Plain (inverse_of p) ∷ []) so_far.each ∙ sym (ap (map Plain) (map-append inverse_of so_far.forth (p ∷ [])) ∙ map-append Plain (map inverse_of so_far.forth) (inverse_of p ∷ []));
}

pub all_inverted : (list back : List Catch) → AreInvertedSoFar list back → AreInverses list (reverse back)
all_inverted list back so_far = record {
  forth = so_far.forth;
  plain = so_far.plain;
  inverses = ap reverse so_far.each ∙ sym (map-reverse Plain (map inverse_of so_far.forth));
}
