-- A position of a trail, before the entries before it are seen.
use Rattle.camp_row.proofs.Words.{◌≡◌, ℕ, zero, suc, ◌+◌, ◌-◌, ◌<◌, List, [], ◌∷◌, ◌++◌, length, slice_get, Some, sym, refl, ap, ◌∙◌, subst, arith, length-append, append-nil, append_assoc, same_Some, Entry, cell_of, PassState, IsTrail, IsOnChain, cells_back, get_or, slice_get_read}
use Rattle.std.proofs.Math.Seq.{get_or-append_seam}
use Rattle.std.proofs.lemmas.List.{get_or_append_left}
use Rattle.std.proofs.lemmas.Option.{get_or_from_slice_get, slice_get-get_or}
use Rattle.camp_row.proofs.TrailSteps.{length-cells_back}

-- the entry at an index of a list, and its cell
record TrailEntry (seats : ℕ) (before left : List Entry) (index cell : ℕ) : Type 0 where
  pub mid : List Entry
  pub entry : Entry
  pub later : List Entry
  pub is : mid ++ entry ∷ later ≡ left
  pub position_is : length mid ≡ index
  pub cell_is : cell ≡ cell_of seats (before ++ mid) entry

-- the index of an element is the number of elements before it
get_after : {A : Type 0} (before : List A) (x : A) (after : List A) (i : ℕ) → length before ≡ i → slice_get (before ++ x ∷ after) i ≡ Some x
get_after before x after i at =
    subst (λ n. slice_get (before ++ x ∷ after) n ≡ Some x) at
    (slice_get-get_or (before ++ x ∷ after) (length before) x (omega (arith, length-append before (x ∷ after))) ∙ ap Some (get_or-append_seam before x after x))

-- the cells of the trail are in the order of the entries, the last entry at the bottom
trail_entry : (seats : ℕ) (before left : List Entry) (index up cell : ℕ) → up + index + 1 ≡ length left
    → slice_get (cells_back seats before left) up ≡ Some cell → TrailEntry seats before left index cell
trail_entry seats before [] index up cell sum at = absurd (omega arith)
trail_entry seats before (x ∷ left) zero up cell sum at =
    let above = length-cells_back seats (before ++ x ∷ []) left in
    let here : slice_get (cells_back seats (before ++ x ∷ []) left ++ cell_of seats before x ∷ []) up ≡ Some (cell_of seats before x) =
    get_after (cells_back seats (before ++ x ∷ []) left) (cell_of seats before x) [] up (omega arith)
    in
    record { mid = []; entry = x; later = left; is = refl; position_is = refl; cell_is = same_Some cell (cell_of seats before x) (sym at ∙ here) ∙ ap (λ b. cell_of seats b x) (sym (append-nil before)) }
trail_entry seats before (x ∷ left) (suc index) up cell sum at =
    let above = length-cells_back seats (before ++ x ∷ []) left in
    let below = cells_back seats (before ++ x ∷ []) left in
    let same = get_or_append_left below (cell_of seats before x ∷ []) cell up (omega arith) in
    let here = slice_get-get_or below up cell (omega arith) ∙ ap Some (sym same ∙ get_or_from_slice_get (below ++ cell_of seats before x ∷ []) up cell cell at) in
    let rest = trail_entry seats (before ++ x ∷ []) left index up cell (omega arith) here in
    record {
      mid = x ∷ rest.mid;
      entry = rest.entry;
      later = rest.later;
      is = ap (λ l. x ∷ l) rest.is;
      position_is = ap (λ n. suc n) rest.position_is;
      cell_is = rest.cell_is ∙ ap (λ b. cell_of seats b rest.entry) (append_assoc before (x ∷ []) rest.mid);
    }

-- the entry at a position of the trail
pub record IsOnChainAt (known : PassState) (index cell : ℕ) : Type 0 where
  pub on_chain : IsOnChain known cell
  pub entry_is : slice_get known.ahead (length known.seen + index) ≡ Some on_chain.entry

-- the cell that lies so far below the top
pub on_chain_below : {known : PassState} {cells trail : List ℕ} {index len cell : ℕ} → cells ≡ trail → IsTrail known known.seen trail → len ≡ length cells → index < length trail → cell ≡ get_or cells (len - 1 - index) cell → IsOnChainAt known index cell
on_chain_below {known} {cells} {trail} {index} {len} {cell} trail_is leads len_is index_below read =
    let same : length cells ≡ length trail = ap length trail_is in
    let long : length trail ≡ length leads.left = ap length leads.cells ∙ length-cells_back known.row.seats known.seen leads.left in
    let at : slice_get cells (len - 1 - index) ≡ Some cell = slice_get_read cells len (len - 1 - index) cell len_is (omega arith) read in
    let here = trail_entry known.row.seats known.seen leads.left index (len - 1 - index) cell (omega arith) (ap (λ c. slice_get c (len - 1 - index)) (sym (trail_is ∙ leads.cells)) ∙ at) in
    let before : List Entry = known.seen ++ here.mid in
    let cut : before ++ here.entry ∷ here.later ≡ known.ahead = append_assoc known.seen here.mid (here.entry ∷ here.later) ∙ ap (λ xs. known.seen ++ xs) here.is ∙ leads.is in
    let far : length before ≡ length known.seen + index = length-append known.seen here.mid ∙ ap (λ n. length known.seen + n) here.position_is in
    record {
      on_chain = record { before = before; entry = here.entry; later = here.later; is = cut; cell_is = here.cell_is };
      entry_is = subst (λ xs. slice_get xs (length known.seen + index) ≡ Some here.entry) cut (get_after before here.entry here.later (length known.seen + index) far);
    }
