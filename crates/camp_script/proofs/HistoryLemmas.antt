-- Texts of histories that grow word by word and call by call.
use Rattle.camp_script.proofs.Common.{◌≡◌, ℕ, ◌+◌, ◌-◌, ◌<◌, List, [], ◌∷◌, ◌++◌, length, get_or, take, drop, map, refl, sym, ap, subst, ◌∙◌, append_assoc, append-nil, arith, Result, Ok, Err, OnOk, call_words, codes, flat_map-append, flat_map-cons, All, flat_map, join_with_byte, Call, spaced, HasText, line_text, All-tail, HaveTexts}
use Rattle.std.proofs.lemmas.List.{get_or-map, length-map, length-take, take_rest}
use Rattle.std.specs.Borrow.{Bor}
use Rattle.camp_object.specs.declared.faults.Fault.{Fault}
use Rattle.camp_call.specs.declared.replies.Reply.{Reply}
use Rattle.camp_call.specs.declared.calls.Call.TheVariants as call

pub spaced-map : (words : List (Bor (List ℕ))) → flat_map (λ (word : Bor (List ℕ)). 32 ∷ word.now) words ≡ spaced (map (λ word. word.now) words)
spaced-map [] = refl
spaced-map (word ∷ words) =
    flat_map-cons (λ (w : Bor (List ℕ)). 32 ∷ w.now) word words ∙ ap (λ t. (32 ∷ word.now) ++ t) (spaced-map words)
    ∙ sym (flat_map-cons (λ (w : List ℕ). 32 ∷ w) word.now (map (λ w. w.now) words))

pub joined : (first : List ℕ) (words : List (List ℕ)) → join_with_byte 32 (first ∷ words) ≡ first ++ spaced words
joined first [] = sym (append-nil first)
joined first (word ∷ words) = ap (λ t. first ++ (32 ∷ t)) (joined word words) ∙ ap (λ t. first ++ t) (sym (flat_map-cons (λ (w : List ℕ). 32 ∷ w) word words))

pub spaced-append : (names words : List (List ℕ)) → spaced (names ++ words) ≡ spaced names ++ spaced words
spaced-append names words = flat_map-append (λ (w : List ℕ). 32 ∷ w) names words

-- words with a space between each two, and more after them
pub joined_further : (first : List ℕ) (words more : List (List ℕ)) → join_with_byte 32 (first ∷ words) ++ spaced more ≡ join_with_byte 32 (first ∷ words ++ more)
joined_further first words more =
    ap (λ t. t ++ spaced more) (joined first words) ∙ append_assoc first (spaced words) (spaced more) ∙ ap (λ t. first ++ t) (sym (spaced-append words more)) ∙ sym (joined first (words ++ more))

-- a text that grew by two parts
pub further : {E : Type 0} (old front bytes both now new : List ℕ) (result : Result (Unit {0}) E) → now ≡ old ++ front → front ++ bytes ≡ both → OnOk result (new ≡ now ++ bytes) → OnOk result (new ≡ old ++ both)
further old front bytes both now new (Ok done) grown is more = more ∙ ap (λ t. t ++ bytes) grown ∙ append_assoc old front bytes ∙ ap (λ t. old ++ t) is
further old front bytes both now new (Err other) grown is more = tt

words_spaced : (first : List ℕ) (rest : List (List ℕ)) → spaced (first ∷ rest) ≡ 32 ∷ join_with_byte 32 (first ∷ rest)
words_spaced first rest = flat_map-cons (λ (w : List ℕ). 32 ∷ w) first rest ∙ ap (λ t. 32 ∷ t) (sym (joined first rest))

-- a call has a word
pub call_spaced : (c : Call) → spaced (call_words c) ≡ 32 ∷ join_with_byte 32 (call_words c)
call_spaced (call.Branch new from) = words_spaced (codes "branch") (new ∷ from ∷ [])
call_spaced other = words_spaced (get_or (call_words other) 0 []) (drop 1 (call_words other))

regrouped : (o a w e : List ℕ) → ((o ++ a) ++ w) ++ e ≡ o ++ ((a ++ w) ++ e)
regrouped o a w e = simp append_assoc

-- a word, those after it, and the end of the line
pub line_done : (old first : List ℕ) (rest : List (List ℕ)) (a b c : List ℕ) → a ≡ old ++ first → b ≡ a ++ spaced rest → c ≡ b ++ 10 ∷ [] → c ≡ old ++ line_text (first ∷ rest)
line_done old first rest a b c one all ends =
    ends ∙ ap (λ t. t ++ 10 ∷ []) (all ∙ ap (λ t. t ++ spaced rest) one) ∙ regrouped old first (spaced rest) (10 ∷ []) ∙ ap (λ t. old ++ (t ++ 10 ∷ [])) (sym (joined first rest))

-- a word, a second one, those after it, and the end of the line
pub entry_done : (old at seat : List ℕ) (words : List (List ℕ)) (a b c d : List ℕ) → a ≡ old ++ at → b ≡ a ++ spaced (seat ∷ []) → c ≡ b ++ spaced words → d ≡ c ++ 10 ∷ [] → d ≡ old ++ line_text (at ∷ seat ∷ words)
entry_done old at seat words a b c d first second third last =
    let both = append_assoc a (spaced (seat ∷ [])) (spaced words) ∙ ap (λ t. a ++ t) (sym (flat_map-append (λ (w : List ℕ). 32 ∷ w) (seat ∷ []) words)) in
    line_done old at (seat ∷ words) a c d first (third ∙ ap (λ t. t ++ spaced words) second ∙ both) last

-- texts of elements one after the other, each by its number
module _ {X : Type 0} (xs : List X) (text : ℕ → X → List ℕ) (texts : ℕ → List X → List ℕ) (none : (n : ℕ) → texts n [] ≡ []) (more : (n : ℕ) (x : X) (xs : List X) → texts n (x ∷ xs) ≡ text n x ++ texts (n + 1) xs) where
  texts-append : (n : ℕ) (done : List X) (x : X) → texts n (done ++ x ∷ []) ≡ texts n done ++ text (n + length done) x
  texts-append n [] x = rw (more n x [], none (n + 1), none n) (append-nil (text n x) ∙ ap (λ k. text k x) (omega arith))
  texts-append n (first ∷ done) x =
      more n first (done ++ x ∷ []) ∙ ap (λ t. text n first ++ t) (texts-append (n + 1) done x)
      ∙ sym (append_assoc (text n first) (texts (n + 1) done) (text (n + 1 + length done) x))
      ∙ ap (λ k. (text n first ++ texts (n + 1) done) ++ text k x) (omega arith) ∙ ap (λ t. t ++ text (n + length (first ∷ done)) x) (sym (more n first done))

  pub one_more : (old now new : List ℕ) (i : ℕ) (x : X) → now ≡ old ++ texts 1 (take i xs) → i < length xs → take (i + 1) xs ≡ take i xs ++ x ∷ [] → new ≡ now ++ text (i + 1) x → new ≡ old ++ texts 1 (take (i + 1) xs)
  one_more old now new i x so within last is =
      let long : 1 + length (take i xs) ≡ i + 1 = omega (arith, length-take i xs) in
      is ∙ ap (λ t. t ++ text (i + 1) x) so ∙ append_assoc old (texts 1 (take i xs)) (text (i + 1) x)
      ∙ ap (λ t. old ++ t) (ap (λ n. texts 1 (take i xs) ++ text n x) (sym long) ∙ sym (texts-append 1 (take i xs) x) ∙ ap (texts 1) (sym last))

-- each answer of one of the sections has a text
pub section_has_texts : {S : Type 0} (answers : S → List (Result Reply Fault)) (sections : List S) (i : ℕ) (section d : S) → HaveTexts (map answers sections) → i < length sections → section ≡ get_or sections i d
    → All HasText (answers section)
section_has_texts answers sections i section d have within is =
    let within_map : i < length (map answers sections) = omega (arith, length-map sections answers) in
    let at : get_or (map answers sections) i (answers d) ≡ answers (get_or sections i d) = get_or-map answers sections i d (answers d) within in
    subst (All HasText) (at ∙ ap answers (sym is)) (have i (answers d) within_map)

-- and each of the sections after the first
pub rest_have_texts : {S : Type 0} (answers : S → List (Result Reply Fault)) (sections : List S) → HaveTexts (map answers sections) → HaveTexts (map answers (take (length sections - 1) (drop 1 sections)))
rest_have_texts answers [] have = subst (λ rest. HaveTexts (map answers rest)) (sym (take_rest [] 1)) have
rest_have_texts answers (first ∷ sections) have =
    subst (λ rest. HaveTexts (map answers rest)) (sym (take_rest (first ∷ sections) 1)) (All-tail (All HasText) (answers first) (map answers sections) have)
