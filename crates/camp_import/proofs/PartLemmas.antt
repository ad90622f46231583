-- Changes in parts.
use Rattle.std.proofs.Common.{◌≡◌, ℕ, ◌+◌, ◌<◌, ◌≤◌, List, [], ◌∷◌, ◌++◌, length, take, drop, reverse, get_or, sym, ap, subst, ◌∙◌, append_assoc, arith, add-one, drop-cons, length-drop, take_all}
use Rattle.std.specs.List.{AllByRecursion}
use Rattle.std.proofs.lemmas.List.{length-reverse, length-take, nil_from_length, reverse-append, reverse-reverse, take_more}
use Rattle.camp_call.specs.Patches.{IsPatchSized}
use Rattle.camp_prim.specs.declared.primitives.Primitive.{Primitive}
use Rattle.camp_import.specs.Parts.{ArePartsOf}

-- each part has as many changes as a patch may have
pub parts_sized : (parts : List (List Primitive)) (changes : List Primitive) → ArePartsOf parts changes → AllByRecursion IsPatchSized parts
parts_sized [] changes are = tt
parts_sized (part ∷ parts) changes are =
    let size : length part ≡ length (take 64 changes) = ap length are.1 in
    ((omega (arith, size, are.0, length-take 64 changes), omega (arith, size, length-take 64 changes)), parts_sized parts (drop 64 changes) are.2)

-- one more part
pub one_part : (front : List (List Primitive)) (part : List Primitive) (left rest all : List Primitive)
    → 0 < length left → part ≡ take 64 left → rest ≡ drop 64 left
    → ((more : List (List Primitive)) → ArePartsOf more left → ArePartsOf (front ++ more) all)
    → (more : List (List Primitive)) → ArePartsOf more rest → ArePartsOf ((front ++ part ∷ []) ++ more) all
one_part front part left rest all some taken is so_far more are =
    subst (λ (parts : List (List Primitive)). ArePartsOf parts all) (sym (append_assoc front (part ∷ []) more))
    (so_far (part ∷ more) (some, taken, subst (ArePartsOf more) is are))

-- the next change of a list, from its end
pub next_change : (all before after part longer : List Primitive) (change : Primitive) (count : ℕ)
    → before ≡ after ++ change ∷ [] → longer ≡ part ++ change ∷ []
    → part ≡ take count all → reverse before ≡ drop count all
    → (longer ≡ take (count + 1) all) × (reverse after ≡ drop (count + 1) all)
next_change all before after part longer change count cut grown taken left =
    let turned : change ∷ reverse after ≡ drop count all =
    sym (reverse-append after (change ∷ [])) ∙ sym (ap reverse cut) ∙ left in
    let within : count < length all = omega (arith, ap length turned, length-drop count all) in
    let head : change ∷ reverse after ≡ get_or all count change ∷ drop (count + 1) all =
    turned ∙ drop-cons all count change within ∙ ap (λ (k : ℕ). get_or all count change ∷ drop k all) (sym (add-one count)) in
    let same : change ≡ get_or all count change = ap (λ (l : List Primitive). get_or l 0 change) head in (
      grown ∙ ap (λ (l : List Primitive). l ++ change ∷ []) taken ∙ ap (λ (p : Primitive). take count all ++ p ∷ []) same ∙ sym (take_more all count change within),
      ap (λ (l : List Primitive). drop 1 l) head,
    )

-- no change is left
pub no_change : (all before after part : List Primitive) (count : ℕ)
    → before ≡ after → length after ≡ 0 → count ≤ 64 → part ≡ take count all → reverse before ≡ drop count all
    → (part ≡ take 64 all) × (reverse after ≡ drop 64 all)
no_change all before after part count same none few taken left =
    let empty : after ≡ [] = nil_from_length after none in
    let nothing : drop count all ≡ [] = sym left ∙ ap reverse (same ∙ empty) in
    let short : length all ≤ count = omega (arith, ap length nothing, length-drop count all) in
    let rest : drop 64 all ≡ [] = nil_from_length (drop 64 all) (omega (arith, short, few, length-drop 64 all)) in
    (taken ∙ take_all count all short ∙ sym (take_all 64 all (omega (arith, short, few))), ap reverse empty ∙ sym rest)

pub some_left : (changes : List Primitive) → 0 < length changes → 0 < length (reverse changes)
some_left changes some = omega (arith, some, length-reverse changes)

pub none_left : (changes : List Primitive) → length changes ≡ 0 → reverse changes ≡ []
none_left changes none = ap reverse (nil_from_length changes none)

-- what was reversed, reversed
pub back_again : (changes reversed : List Primitive) → reversed ≡ reverse changes → reverse reversed ≡ changes
back_again changes reversed is = ap reverse is ∙ reverse-reverse changes

-- fewer changes are left after a part
pub shorter : (left changes : List Primitive) → 0 < length changes → reverse left ≡ drop 64 (reverse changes) → length left < length changes
shorter left changes some is =
    omega (arith, some, ap length is, length-reverse left, length-reverse changes, length-drop 64 (reverse changes))
