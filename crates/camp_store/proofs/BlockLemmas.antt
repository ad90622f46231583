-- The texts to which files of blocks decode.
use Rattle.camp_store.proofs.Words.{◌≡◌, ◌≢◌, ◌⊎◌, inl, inr, ℕ, ◌<◌, ◌-◌, ◌+◌, List, [], ◌∷◌, ◌++◌, length, take, drop, Vec, refl, sym, ◌∙◌, ap, subst, arith, append_assoc, length-append, append-nil, length-map, map-append, take-append-drop, AllFit, AreBlocks, FitsInBlock, IsBlock, IsEnd, DecodesTo, blocks, body, chain, closed_mark, digest_after, first_digest, head, open_mark, Persists, texts_of, DamagedFilesDoNotDecode, IsDamaged, IsDecodedFrom, Reading}
use Rattle.std.specs.declared.alloc.Global.{Global}
use Rattle.camp_store.proofs.HeadLemmas.{body_once, length-head}

abbrev Texts : Type 0
Texts = List (List ℕ)

pub chain-append : (before : List ℕ) (ts us : Texts) → chain before (ts ++ us) ≡ chain (chain before ts) us
chain-append before [] us = refl
chain-append before (t ∷ ts) us = chain-append (digest_after before t) ts us

pub blocks-append : (before : List ℕ) (ts us : Texts) → blocks before (ts ++ us) ≡ blocks before ts ++ blocks (chain before ts) us
blocks-append before [] us = refl
blocks-append before (t ∷ ts) us =
    ap (λ (l : List ℕ). open_mark ∷ body before t ++ l) (blocks-append (digest_after before t) ts us)
    ∙ ap (λ (l : List ℕ). open_mark ∷ l) (sym (append_assoc (body before t) (blocks (digest_after before t) ts) (blocks (chain before (t ∷ ts)) us)))

pub fit-append : (ts us : Texts) → AllFit ts → AllFit us → AllFit (ts ++ us)
fit-append [] us these those = those
fit-append (t ∷ ts) us these those = (these.0, fit-append ts us these.1 those)

pub block_more : (before t r more bytes : List ℕ) → IsBlock before t r bytes → IsBlock before t (r ++ more) (bytes ++ more)
block_more before t r more bytes block = record {
  mark = block.mark;
  counts = block.counts;
  fits = block.fits;
  split = ap (λ (l : List ℕ). l ++ more) block.split ∙ ap (λ (l : List ℕ). block.mark ∷ l) (append_assoc (body before t) r more);
}

pub are-append : (before : List ℕ) (ts us : Texts) (front more : List ℕ) → AreBlocks before ts front → AreBlocks (chain before ts) us more
    → AreBlocks before (ts ++ us) (front ++ more)
are-append before [] us front more none those = subst (λ (l : List ℕ). AreBlocks before us (l ++ more)) (sym none) those
are-append before (t ∷ ts) us front more these those =
    (these.0 ++ more, block_more before t these.0 more front these.1, are-append (digest_after before t) ts us these.0 more these.2 those)

pub are_written : (before : List ℕ) (ts : Texts) → AllFit ts → AreBlocks before ts (blocks before ts)
are_written before [] fit = refl
are_written before (t ∷ ts) fit = (
  blocks (digest_after before t) ts,
  record { mark = open_mark; counts = λ closed. omega (arith, closed); fits = fit.0; split = refl },
  are_written (digest_after before t) ts fit.1,
)

-- written blocks, after any mark that counts
pub blocks_at_any_mark : (before : List ℕ) (ts : Texts) (mark : ℕ) → 0 < length ts → AllFit ts → mark ≢ closed_mark
    → AreBlocks before ts (mark ∷ drop 1 (blocks before ts))
blocks_at_any_mark before [] mark some fit counts = absurd (omega (arith, some))
blocks_at_any_mark before (t ∷ ts) mark some fit counts = (
  blocks (digest_after before t) ts,
  record { mark = mark; counts = counts; fits = fit.0; split = refl },
  are_written (digest_after before t) ts fit.1,
)

-- one block more, as it is written
pub block_pushed : (before : List ℕ) (ts : Texts) (text bytes : List ℕ) → bytes ≡ ((blocks before ts ++ open_mark ∷ []) ++ head (chain before ts) text) ++ text
    → bytes ≡ blocks before (ts ++ text ∷ [])
block_pushed before ts text bytes is =
    is
    ∙ append_assoc (blocks before ts ++ open_mark ∷ []) (head (chain before ts) text) text
    ∙ append_assoc (blocks before ts) (open_mark ∷ []) (body (chain before ts) text)
    ∙ sym (blocks-append before ts (text ∷ []) ∙ ap (λ (l : List ℕ). blocks before ts ++ l) (append-nil (open_mark ∷ body (chain before ts) text)))

pub texts_of-push : (vs : List (Vec ℕ Global)) (v : Vec ℕ Global) → texts_of (vs ++ v ∷ []) ≡ texts_of vs ++ v.items ∷ []
texts_of-push vs v = map-append (λ text. text.items) vs (v ∷ [])

-- the texts of a list around one of its texts
pub around : (vs : List (Vec ℕ Global)) (i : ℕ) (v : Vec ℕ Global) → take (i + 1) vs ≡ take i vs ++ v ∷ [] → texts_of vs ≡ texts_of (take i vs) ++ v.items ∷ texts_of (drop (i + 1) vs)
around vs i v next =
    ap texts_of (sym (take-append-drop (i + 1) vs) ∙ ap (λ (l : List (Vec ℕ Global)). l ++ drop (i + 1) vs) next ∙ append_assoc (take i vs) (v ∷ []) (drop (i + 1) vs))
    ∙ map-append (λ (t : Vec ℕ Global). t.items) (take i vs) (v ∷ drop (i + 1) vs)

-- if all texts fit, one of them does
pub fits_between : (ts us : Texts) (text : List ℕ) → AllFit (ts ++ text ∷ us) → FitsInBlock text
fits_between [] us text all = all.0
fits_between (t ∷ ts) us text all = fits_between ts us text all.1

-- one block
pub one_block : (before text rest bytes : List ℕ) → IsBlock before text rest bytes → (front : List ℕ) × (bytes ≡ front ++ rest) × AreBlocks before (text ∷ []) front
one_block before text rest bytes block = (
  block.mark ∷ body before text,
  block.split,
  ([], record { mark = block.mark; counts = block.counts; fits = block.fits; split = sym (append-nil (block.mark ∷ body before text)) }, refl),
)

-- the blocks that were read, and the rest after them
pub record ReadSoFar (bytes : List ℕ) (texts : List (Vec ℕ Global)) (digest rest : List ℕ) : Type 0 where
  pub front : List ℕ
  pub split : bytes ≡ front ++ rest
  pub are : AreBlocks first_digest (texts_of texts) front
  pub digest_is : digest ≡ chain first_digest (texts_of texts)

-- one block more, as it is read
pub read_one_more : (bytes : List ℕ) (vs : List (Vec ℕ Global)) (digest rest : List ℕ) → ReadSoFar bytes vs digest rest → (v : Vec ℕ Global) (after : List ℕ)
    → IsBlock digest v.items after rest → ReadSoFar bytes (vs ++ v ∷ []) (digest_after digest v.items) after
read_one_more bytes vs digest rest so_far v after block =
    let one = one_block (chain first_digest (texts_of vs)) v.items after rest (subst (λ (d : List ℕ). IsBlock d v.items after rest) so_far.digest_is block) in
    record {
      front = so_far.front ++ one.0;
      split = so_far.split ∙ ap (λ (l : List ℕ). so_far.front ++ l) one.1 ∙ sym (append_assoc so_far.front one.0 after);
      are = subst (λ (ts : Texts). AreBlocks first_digest ts (so_far.front ++ one.0)) (sym (texts_of-push vs v)) (are-append first_digest (texts_of vs) (v.items ∷ []) so_far.front one.0 so_far.are one.2);
      digest_is = ap (λ (d : List ℕ). digest_after d v.items) so_far.digest_is ∙ sym (chain-append first_digest (texts_of vs) (v.items ∷ [])) ∙ ap (λ (ts : Texts). chain first_digest ts) (sym (texts_of-push vs v));
    }

pub decodes_closed : (texts : Texts) (front after : List ℕ) → AreBlocks first_digest texts front → DecodesTo texts (front ++ closed_mark ∷ after)
decodes_closed texts front after are = record { front = front; end = closed_mark ∷ after; split = refl; are = are; ends = inl refl }

pub decodes_short : (texts : Texts) (front : List ℕ) (end : List ℕ) → AreBlocks first_digest texts front → length end < 2 → DecodesTo texts (front ++ end)
decodes_short texts front end are short = record { front = front; end = end; split = refl; are = are; ends = go end short }
  where
    go : (e : List ℕ) → length e < 2 → IsEnd e
    go [] le = tt
    go (mark ∷ []) le = inr refl
    go (mark ∷ more ∷ rest) le = absurd (omega (arith, le))

-- there is no end where a block begins
pub block_is_no_end : (before text rest bytes : List ℕ) → IsBlock before text rest bytes → IsEnd bytes → ⊥
block_is_no_end before text rest bytes block ends = elim (subst IsEnd block.split ends) [
  | inl closed ↦ block.counts closed
  | inr none ↦ absurd (omega (arith, ap length none, length-append (body before text) rest, length-append (head before text) text, length-head before text))
]

pub block_once : (before t u r s bytes : List ℕ) → IsBlock before t r bytes → IsBlock before u s bytes → (t ≡ u) × (r ≡ s)
block_once before t u r s bytes one other =
    body_once before t u r s one.fits other.fits (ap (λ (l : List ℕ). drop 1 l) (sym one.split ∙ other.split))

-- after some blocks of a file that decodes to texts there is an end, and these are all its texts; or there is another
-- block
end_or_block : (before : List ℕ) (ts all : Texts) (front rest whole end : List ℕ) → AreBlocks before ts front → AreBlocks before all whole → IsEnd end
    → front ++ rest ≡ whole ++ end → (IsEnd rest × (ts ≡ all)) ⊎ ((text after : List ℕ) × IsBlock (chain before ts) text after rest)
end_or_block before [] [] front rest whole end none none' ends is =
    inl (subst IsEnd (sym (ap (λ (l : List ℕ). l ++ rest) (sym none) ∙ is ∙ ap (λ (l : List ℕ). l ++ end) none')) ends, refl)
end_or_block before [] (u ∷ us) front rest whole end none these ends is =
    inr (u, these.0 ++ end, subst (λ (l : List ℕ). IsBlock before u (these.0 ++ end) l) (sym (ap (λ (l : List ℕ). l ++ rest) (sym none) ∙ is)) (block_more before u these.0 end whole these.1))
end_or_block before (t ∷ ts) [] front rest whole end these none ends is =
    let block : IsBlock before t (these.0 ++ rest) (front ++ rest) = block_more before t these.0 rest front these.1 in
    absurd (block_is_no_end before t (these.0 ++ rest) (front ++ rest) block (subst IsEnd (sym (is ∙ ap (λ (l : List ℕ). l ++ end) none)) ends))
end_or_block before (t ∷ ts) (u ∷ us) front rest whole end these those ends is =
    let other : IsBlock before u (those.0 ++ end) (front ++ rest) = subst (λ (l : List ℕ). IsBlock before u (those.0 ++ end) l) (sym is) (block_more before u those.0 end whole those.1) in
    let same = block_once before t u (these.0 ++ rest) (those.0 ++ end) (front ++ rest) (block_more before t these.0 rest front these.1) other in
    elim (end_or_block (digest_after before t) ts us these.0 rest those.0 end these.2 (subst (λ (v : List ℕ). AreBlocks (digest_after before v) us those.0) (sym same.0) those.2) ends same.1) [
      | inl ended ↦ inl (ended.0, λ i. same.0 i ∷ ended.1 i)
      | inr block ↦ inr block
    ]

-- a file decodes to at most one list of texts
pub decodes_once : (ts us : Texts) (file : List ℕ) → DecodesTo ts file → DecodesTo us file → ts ≡ us
decodes_once ts us file one other =
    elim (end_or_block first_digest ts us one.front one.end other.front other.end one.are other.are other.ends (sym one.split ∙ other.split)) [
      | inl ended ↦ ended.1
      | inr block ↦ absurd (block_is_no_end (chain first_digest ts) block.0 block.1 one.end block.2 one.ends)
    ]

-- if neither an end nor a block follows, the file is damaged
pub is_damaged : (bytes : List ℕ) (vs : List (Vec ℕ Global)) (digest rest : List ℕ) → ReadSoFar bytes vs digest rest → (IsEnd rest → ⊥)
    → ((text after : List ℕ) → IsBlock digest text after rest → ⊥) → (count : ℕ) → count ≡ length vs → IsDamaged count (length bytes - length rest) bytes
is_damaged bytes vs digest rest so_far no_end no_block count is = record {
  texts = texts_of vs;
  front = so_far.front;
  rest = rest;
  split = so_far.split;
  are = so_far.are;
  count_is = is ∙ sym (length-map vs (λ text. text.items));
  at_is = omega (arith, ap length so_far.split, length-append so_far.front rest);
  no_end = no_end;
  no_block = λ text after block. no_block text after (subst (λ (d : List ℕ). IsBlock d text after rest) (sym so_far.digest_is) block);
}

pub damaged_does_not_decode : DamagedFilesDoNotDecode
damaged_does_not_decode count at file damaged texts decodes =
    elim (end_or_block first_digest damaged.texts texts damaged.front damaged.rest decodes.front decodes.end damaged.are decodes.are decodes.ends (sym damaged.split ∙ decodes.split)) [
      | inl ended ↦ damaged.no_end ended.0
      | inr block ↦ damaged.no_block block.0 block.1 block.2
    ]

-- whatever a crash leaves of a log decodes to its texts
pub log_decodes : {D : Type 0} (seen : D → List ℕ) (may_leave : D → List ℕ → Type 0) (texts : Texts) (disk : D) (k : ℕ) (digest : List ℕ)
    → Persists seen may_leave texts disk k digest → (c : List ℕ) → may_leave disk c → DecodesTo texts c
log_decodes seen may_leave texts disk k digest persists c now =
    subst (DecodesTo texts) (sym (persists.durable c now ∙ persists.file)) (decodes_closed texts persists.front persists.after persists.are)

-- a file that was read decodes to its texts
pub reading_decodes : (file : List ℕ) (reading : Reading) → IsDecodedFrom file reading → DecodesTo (texts_of reading.texts.items) file
reading_decodes file reading is = record { front = is.front; end = is.end; split = is.split; are = is.are; ends = is.ends }
