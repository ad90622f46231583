-- Prefixes of lists, and lists cut at an element.
use Rattle.camp_row.proofs.Words.{arith, length, length-append, ◌≡◌, ◌⊎◌, inl, inr, List, [], ◌∷◌, ◌++◌, sym, refl, ap, ◌∙◌, append-nil, append_assoc, append_cancel_left, IsPrefix, IsProperPrefix}

module _ {A : Type 0} where
  pub prefix_refl : (xs : List A) → IsPrefix xs xs
  prefix_refl xs = record { rest = []; is = append-nil xs }

  pub prefix_nil : (xs : List A) → IsPrefix [] xs
  prefix_nil xs = record { rest = xs; is = refl }

  pub prefix_push : (xs ys : List A) (y : A) → IsPrefix xs ys → IsPrefix xs (ys ++ y ∷ [])
  prefix_push xs ys y f = record { rest = f.rest ++ y ∷ []; is = sym (append_assoc xs f.rest (y ∷ [])) ∙ ap (λ l. l ++ y ∷ []) f.is }

  pub proper_is_prefix : (xs ys : List A) → IsProperPrefix xs ys → IsPrefix xs ys
  proper_is_prefix xs ys s = record { rest = s.next ∷ s.rest; is = s.is }

  -- a prefix is the whole list, or shorter
  pub prefix_cases : (xs ys : List A) → IsPrefix xs ys → (xs ≡ ys) ⊎ (IsProperPrefix xs ys)
  prefix_cases xs ys f = at f.rest f.is where
    at : (rest : List A) → xs ++ rest ≡ ys → (xs ≡ ys) ⊎ (IsProperPrefix xs ys)
    at [] e = inl (sym (append-nil xs) ∙ e)
    at (z ∷ rest) e = inr (record { next = z; rest = rest; is = e })

  -- two lists that begin each other are one
  pub prefix_both : (xs ys : List A) → IsPrefix xs ys → IsPrefix ys xs → xs ≡ ys
  prefix_both xs ys f g = elim (prefix_cases xs ys f) [
    | inl same ↦ same
    | inr s ↦
        let a : length (xs ++ s.next ∷ s.rest) ≡ length ys = ap length s.is in
        let b : length (ys ++ g.rest) ≡ length xs = ap length g.is in
        let c = length-append xs (s.next ∷ s.rest) in
        let d = length-append ys g.rest in
        absurd (omega arith)
  ]

  -- a list split at an element is continued by the longer list
  pub cut_longer : (before : List A) (x : A) (after whole rest longer : List A) → before ++ x ∷ after ≡ whole → whole ++ rest ≡ longer → before ++ x ∷ (after ++ rest) ≡ longer
  cut_longer before x after whole rest longer cut more = sym (append_assoc before (x ∷ after) rest) ∙ (ap (λ l. l ++ rest) cut ∙ more)

  pub cut_pushed : (before after : List A) (x : A) → (before ++ x ∷ []) ++ after ≡ before ++ x ∷ after
  cut_pushed before after x = append_assoc before (x ∷ []) after

  pub no_cut : (before : List A) (x : A) (after : List A) → before ++ x ∷ after ≡ [] → ⊥
  no_cut [] x after e = cc
  no_cut (b ∷ before) x after e = cc

  -- a list with one element more, cut at an element: at the last one, or before
  pub cut_push : (before : List A) (x : A) (after xs : List A) (y : A) → before ++ x ∷ after ≡ xs ++ y ∷ []
      → ((before ≡ xs) × (x ≡ y)) ⊎ ((shorter : List A) × (before ++ x ∷ shorter ≡ xs))
  cut_push [] x after [] y e = inl (refl, (cc))
  cut_push [] x after (z ∷ xs) y e = inr (xs, (cc))
  cut_push (b ∷ before) x after [] y e = absurd (no_cut before x after (cc))
  cut_push (b ∷ before) x after (z ∷ xs) y e =
      let first : b ≡ z = cc in
      elim (cut_push before x after xs y (cc)) [
        | inl same ↦ inl ((λ k. first k ∷ same.0 k), same.1)
        | inr more ↦ inr (more.0, λ k. first k ∷ more.1 k)
      ]

  -- of two prefixes of one list, one is a prefix of the other
  pub prefixes_compare : (xs ys whole : List A) → IsPrefix xs whole → IsPrefix ys whole → (IsPrefix xs ys) ⊎ (IsProperPrefix ys xs)
  prefixes_compare [] ys whole f g = inl (prefix_nil ys)
  prefixes_compare (x ∷ xs) [] whole f g = inr (record { next = x; rest = xs; is = refl })
  prefixes_compare (x ∷ xs) (y ∷ ys) whole f g =
      let e : x ∷ (xs ++ f.rest) ≡ y ∷ (ys ++ g.rest) = f.is ∙ sym g.is in
      let same : x ≡ y = cc in
      elim (prefixes_compare xs ys (xs ++ f.rest) (record { rest = f.rest; is = refl }) (record { rest = g.rest; is = cc })) [
        | inl h ↦ inl (record { rest = h.rest; is = λ k. same k ∷ h.is k })
        | inr h ↦ inr (record { next = h.next; rest = h.rest; is = λ k. sym same k ∷ h.is k })
      ]

  -- a prefix of a list is followed by one rest only
  pub next_is : (xs : List A) (x y : A) (later rest whole : List A) → xs ++ x ∷ later ≡ whole → xs ++ y ∷ rest ≡ whole → x ≡ y
  next_is xs x y later rest whole e f = let same = append_cancel_left xs (x ∷ later) (y ∷ rest) (e ∙ sym f) in cc
