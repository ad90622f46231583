-- Lemmas on lists that go side by side.
use Rattle.std.proofs.lemmas.List.{take_more, get_or-map, map_push, append_assoc}
use Rattle.camp_clients.proofs.Words.{AllZip-long, all_zipped_more, Vec, vec_items, AreSeparated, Gathers, lists_of, section_of, ◌≡◌, ℕ, ◌+◌, ◌<◌, suc, zero, List, [], ◌∷◌, ◌++◌, length, take, get_or, Result, Ok, IfOk, refl, sym, ◌∙◌, ap, subst, add-one, arith, All, AllZip, remove, OnOk, is_err, false, Err}

module _ {A B : Type 0} (R : A → B → Type 0) where
  -- one more element, at index i
  pub zip_more : (xs : List A) (i : ℕ) (x : A) → i < length xs → x ≡ get_or xs i x → (ys : List B) (y : B) → AllZip R (take i xs) ys → R x y
      → AllZip R (take (i + 1) xs) (ys ++ y ∷ [])
  zip_more xs i x below at ys y all one = rw (take_more xs i x below, ← at) (all_zipped_more R (take i xs) ys x y all one)

  pub zip_at : (xs : List A) (ys : List B) (i : ℕ) (d : A) (e : B) → i < length xs → AllZip R xs ys → R (get_or xs i d) (get_or ys i e)
  zip_at [] ys i d e below all = absurd (omega arith)
  zip_at (a ∷ xs) [] i d e below all = absurd all
  zip_at (a ∷ xs) (b ∷ ys) zero d e below all = all.0
  zip_at (a ∷ xs) (b ∷ ys) (suc i) d e below all = zip_at xs ys i d e (omega arith) all.1

-- the elements that were there first, under another name
pub gathers_here : {Own Fault : Type 0} {here first : List Own} {made : List (Result Own Fault)} {all : List Own}
    → here ≡ first → Gathers here made all → Gathers first made all
gathers_here {made = made} {all = all} is gathers = subst (λ list. Gathers list made all) is gathers

-- one thread more
pub gathers_push : {Own Fault : Type 0} (first : List Own) (made : List (Result Own Fault)) (all : List Own) (one : Result Own Fault) (own : Own)
    → Gathers first made all → one ≡ Ok own → Gathers first (made ++ one ∷ []) (all ++ own ∷ [])
gathers_push first made all one own so_far is = record {
  others = so_far.others ++ own ∷ [];
  begins = ap (λ x. x ++ own ∷ []) so_far.begins ∙ append_assoc first so_far.others (own ∷ []);
  brought = all_zipped_more (λ one own. one ≡ Ok own) made so_far.others one own so_far.brought is;
}

-- one thread more brought a seat and answers
pub separated_push : {Seat Own Fault : Type 0} (opening : Own) (made : List (Result (Seat × Own) Fault)) (seats : List Seat) (all : List Own)
    (one : Result (Seat × Own) Fault) (seat : Seat) (own : Own)
    → AreSeparated opening made seats all → one ≡ Ok (seat, own) → AreSeparated opening (made ++ one ∷ []) (seats ++ seat ∷ []) (all ++ own ∷ [])
separated_push opening made seats all one seat own so_far is = record {
  pairs = so_far.pairs ++ (seat, own) ∷ [];
  brought = all_zipped_more (λ one pair. one ≡ Ok pair) made so_far.pairs one (seat, own) so_far.brought is;
  firsts = ap (λ xs. xs ++ seat ∷ []) so_far.firsts ∙ sym (map_push (λ pair. pair.0) so_far.pairs (seat, own));
  seconds = ap (λ xs. xs ++ own ∷ []) so_far.seconds ∙ ap (λ xs. opening ∷ xs) (sym (map_push (λ pair. pair.1) so_far.pairs (seat, own)));
}

-- the first answers come first, and what holds of each that a thread brought holds of all others
module _ {X Z Fault : Type 0} (first : Vec X Z) (made : List (Result (Vec X Z) Fault)) (all : List (Vec X Z)) (gathers : Gathers (first ∷ []) made all) where
  pub gathered_length : length all ≡ length made + 1
  gathered_length = ap length gathers.begins ∙ omega (arith, AllZip-long (λ one own. one ≡ Ok own) made gathers.others gathers.brought)

  pub gathered_first : section_of (lists_of all) 0 ≡ first.items
  gathered_first = rw gathers.begins refl

  pub gathered : (P : ℕ → List X → Type 0)
      → ((k : ℕ) (d : Result (Vec X Z) Fault) → k < length made → IfOk (get_or made k d) (λ own. P (k + 1) own.items))
      → (seat : ℕ) → 0 < seat → seat < length made + 1 → P seat (section_of (lists_of all) seat)
  gathered P each zero some below = absurd (omega arith)
  gathered P each (suc k) some below =
      let in_made : k < length made = omega arith in
      let in_others : k < length gathers.others = omega (arith, AllZip-long (λ one own. one ≡ Ok own) made gathers.others gathers.brought) in
      let own = get_or gathers.others k first in
      let is = zip_at (λ one own. one ≡ Ok own) made gathers.others k (Ok first) first in_made gathers.brought in
      let holds = subst (λ r. IfOk r (λ own. P (k + 1) own.items)) is (each k (Ok first) in_made) in
      rw (gathers.begins, get_or-map vec_items gathers.others k first [] in_others, ← add-one k) holds

-- the meaning of an Ok result
pub ok_holds : {T E : Type 0} (P : Type 0) (r : Result T E) → OnOk r P → is_err r ≡ false → P
ok_holds P (Ok x) holds none = holds
ok_holds P (Err e) holds none = absurd (cc none)

-- a fact about each element of the second list follows from its neighbour in the first
module _ {A B : Type 0} (R : A → B → Type 0) (P : B → Type 0) (each : (x : A) (y : B) → R x y → P y) where
  pub zip_all : (xs : List A) (ys : List B) → AllZip R xs ys → All P ys
  zip_all [] [] all k d below = absurd (omega arith)
  zip_all [] (b ∷ ys) all k d below = absurd all
  zip_all (a ∷ xs) [] all k d below = absurd all
  zip_all (a ∷ xs) (b ∷ ys) all zero d below = each a b all.0
  zip_all (a ∷ xs) (b ∷ ys) all (suc k) d below = zip_all xs ys all.1 k d (omega arith)

-- a fact about seat k + 1 is one about seat k of those after the first
module _ {Seat : Type 0} (P : ℕ → Seat → Type 0) where
  pub after_first : (seats rest : List Seat) → rest ≡ remove seats 0 → ((k : ℕ) (d : Seat) → k < length seats → P k (get_or seats k d))
      → (k : ℕ) (d : Seat) → k < length rest → P (k + 1) (get_or rest k d)
  after_first [] rest is each k d below = absurd (omega (arith, ap length is))
  after_first (x ∷ xs) rest is each k d below =
      rw (add-one k, is) (each (suc k) d (omega (arith, ap length is)))
