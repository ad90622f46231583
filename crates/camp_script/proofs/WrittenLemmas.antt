-- The canonical text of calls, growing piece by piece.
use Rattle.camp_script.proofs.Common.{◌≡◌, ℕ, ◌+◌, ◌<◌, List, [], ◌∷◌, ◌++◌, codes, get_or, length, take, sym, ap, subst, ◌∙◌, append_assoc, append-nil, Result, flat_map-append, take_more, decimal, flat_map, AllByRecursion, Primitive, Add, Remove, Hunk, Call, call_text, canonical_change, change_body, record_text, section_text, spaced, line_text, OnOk, CanBeInScript, calls_of}
use Rattle.camp_script.specs.Inside.Written.{patch_text}
use Rattle.std.proofs.lemmas.List.{map-append}
use Rattle.camp_script.proofs.TextLemmas.{all_more}
use Rattle.camp_script.proofs.HistoryLemmas.{further, joined, spaced-append}

regrouped : (word names first rest end body : List ℕ) → ((word ++ (names ++ (32 ∷ (first ++ rest)))) ++ end) ++ body ≡ ((word ++ names) ++ 32 ∷ []) ++ (((first ++ rest) ++ end) ++ body)
regrouped word names first rest end body = simp append_assoc

-- a line of a word, names and further words, and what follows it
begun : (word : List ℕ) (names : List (List ℕ)) (first : List ℕ) (rest : List (List ℕ)) (body : List ℕ)
    → line_text (word ∷ names ++ first ∷ rest) ++ body ≡ ((word ++ spaced names) ++ 32 ∷ []) ++ (line_text (first ∷ rest) ++ body)
begun word names first rest body =
    ap (λ t. (t ++ 10 ∷ []) ++ body) (joined word (names ++ first ∷ rest) ∙ ap (λ t. word ++ t) (spaced-append names (first ∷ rest)))
    ∙ regrouped word (spaced names) first (spaced rest) (10 ∷ []) body
    ∙ ap (λ t. ((word ++ spaced names) ++ 32 ∷ []) ++ ((t ++ 10 ∷ []) ++ body)) (sym (joined first rest))

-- the words before the changes of a record
abbrev record_front : List ℕ → List ℕ → List ℕ
record_front branch name = (codes "record" ++ spaced (branch ∷ name ∷ [])) ++ 32 ∷ []

module _ (branch name : List ℕ) where
  group_begun : (changes : List Primitive)
      → line_text (codes "record" ∷ branch ∷ name ∷ codes "group" ∷ []) ++ flat_map canonical_change changes ++ line_text (codes "done" ∷ []) ≡ record_front branch name ++ (line_text (codes "group" ∷ []) ++ flat_map canonical_change changes ++ line_text (codes "done" ∷ []))
  group_begun changes =
      let each = flat_map canonical_change changes in
      ap (λ t. t ++ line_text (codes "done" ∷ [])) (begun (codes "record") (branch ∷ name ∷ []) (codes "group") [] each)
      ∙ append_assoc (record_front branch name) (line_text (codes "group" ∷ []) ++ each) (line_text (codes "done" ∷ []))

  record_parts : (changes : List Primitive) → record_text branch name changes ≡ record_front branch name ++ patch_text changes
  record_parts [] = group_begun []
  record_parts (Add path ∷ []) = begun (codes "record") (branch ∷ name ∷ []) (codes "add") (path ∷ []) []
  record_parts (Remove path ∷ []) = begun (codes "record") (branch ∷ name ∷ []) (codes "remove") (path ∷ []) []
  record_parts (Hunk hunk ∷ []) = begun (codes "record") (branch ∷ name ∷ []) (codes "edit") (hunk.path ∷ decimal hunk.line ∷ []) (change_body (Hunk hunk))
  record_parts (change ∷ next ∷ changes) = group_begun (change ∷ next ∷ changes)

fronted : (old word names : List ℕ) → ((old ++ word) ++ names) ++ 32 ∷ [] ≡ old ++ ((word ++ names) ++ 32 ∷ [])
fronted old word names = simp append_assoc

-- a record: its word, its names, and its changes
pub record_done : {E : Type 0} (old branch name : List ℕ) (changes : List Primitive) (a b c d : List ℕ) (result : Result (Unit {0}) E)
    → a ≡ old ++ codes "record" → b ≡ a ++ spaced (branch ∷ name ∷ []) → c ≡ b ++ 32 ∷ []
    → OnOk result (d ≡ c ++ patch_text changes) → OnOk result (d ≡ old ++ record_text branch name changes)
record_done old branch name changes a b c d result first second third last =
    let names = spaced (branch ∷ name ∷ []) in
    let grown = third ∙ ap (λ t. t ++ 32 ∷ []) (second ∙ ap (λ t. t ++ names) first) ∙ fronted old (codes "record") names in
    further old (record_front branch name) (patch_text changes) (record_text branch name changes) c d result grown (sym (record_parts branch name changes)) last

-- one more call of a history
pub one_more_call : (now new : List ℕ) (history : List (ℕ × Call)) (i : ℕ) (entry : ℕ × Call) → i < length history → entry ≡ get_or history i entry
    → (now ≡ section_text (calls_of (take i history))) × AllByRecursion CanBeInScript (calls_of (take i history)) → new ≡ now ++ call_text entry.1 → CanBeInScript entry.1
    → (new ≡ section_text (calls_of (take (i + 1) history))) × AllByRecursion CanBeInScript (calls_of (take (i + 1) history))
one_more_call now new history i entry within at so is stands =
    let before = calls_of (take i history) in
    let last = ap calls_of (take_more history i entry within ∙ ap (λ e. take i history ++ e ∷ []) (sym at)) ∙ map-append (λ (e : ℕ × Call). e.1) (take i history) (entry ∷ []) in
    subst (λ calls. (new ≡ section_text calls) × AllByRecursion CanBeInScript calls) (sym last) (
      is ∙ ap (λ t. t ++ call_text entry.1) so.0 ∙ ap (λ t. section_text before ++ t) (sym (append-nil (call_text entry.1))) ∙ sym (flat_map-append call_text before (entry.1 ∷ [])),
      all_more CanBeInScript before entry.1 so.1 stands,
    )
