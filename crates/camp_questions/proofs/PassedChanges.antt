-- Labels that commute past changes, unchanged or moving to another line.
use Rattle.camp_questions.proofs.Words.{◌≡◌, ◌<◌, ◌≤◌, ◌+◌, ◌-◌, ℕ, List, [], ◌∷◌, ◌++◌, length, take, drop, get_or, refl, sym, ap, ◌∙◌, subst, inl, inr, arith, drop-drop, drop_all, drop_more, length-take-le, take-append-drop, Edit, Named, Hunk, drop-append-le, AddsToContext, AddsAll, commute, ContextedPatch, bare, InRange, IsInRange, SameKey, PrimitivesCommute, Commute, at_line, path_of, HunkCommutesPast, hunk_at, greatest_reach}
use Rattle.camp_questions.specs.Inside.Moving.{HunkMovesBefore}

-- adding the later part of a list and then the earlier part
pub add_before : (first rest : List Named) (x y z : ContextedPatch) → AddsAll rest x y → AddsAll first y z → AddsAll (first ++ rest) x z
add_before [] rest x y z behind before = subst (AddsAll rest x) (sym before) behind
add_before (p ∷ first) rest x y z behind before =
    (before.0, add_before first rest x y before.0 behind before.1, before.2)

-- a list from an index on, in three parts
in_parts : (changes : List Named) (left stop from : ℕ) → left ≤ length changes → stop ≤ left → from ≤ stop → drop from changes ≡ take (stop - from) (drop from changes) ++ (drop stop (take left changes) ++ drop left changes)
in_parts changes left stop from within past before =
    let long : length (take left changes) ≡ left = length-take-le left changes within in
    let sum : from + (stop - from) ≡ stop = omega (arith, before) in
    let behind : drop stop changes ≡ drop stop (take left changes) ++ drop left changes = ap (drop stop) (sym (take-append-drop left changes)) ∙ drop-append-le stop (take left changes) (drop left changes) (omega (arith, long, past)) in
    let rest : drop (stop - from) (drop from changes) ≡ drop stop changes = drop-drop (stop - from) from changes ∙ ap (λ n. drop n changes) sum in
    sym (take-append-drop (stop - from) (drop from changes)) ∙ ap (λ l. take (stop - from) (drop from changes) ++ l) (rest ∙ behind)

-- some changes have been added, some were passed, and some are to be added before these
pub more_added : (changes : List Named) (left stop from : ℕ) (x seen passed next : ContextedPatch) → left ≤ length changes → stop ≤ left → from ≤ stop → AddsAll (drop left changes) x seen → AddsAll (drop stop (take left changes)) seen passed → AddsAll (take (stop - from) (drop from changes)) passed next → AddsAll (drop from changes) x next
more_added changes left stop from x seen passed next within past before added passes more =
    subst (λ l. AddsAll l x next) (sym (in_parts changes left stop from within past before))
    (add_before (take (stop - from) (drop from changes)) (drop stop (take left changes) ++ drop left changes) x passed next
    (add_before (drop stop (take left changes)) (drop left changes) x seen passed added passes) more)

-- at first none was passed
pub none_added : (changes : List Named) (n : ℕ) (x y : ContextedPatch) → n ≡ length changes → y ≡ x → AddsAll (drop n changes) x y
none_added changes n x y whole same =
    subst (λ l. AddsAll l x y) (sym (drop_all n changes (omega (arith, whole)))) same

-- one more is added before those that were added
pub one_more_added : (changes : List Named) (i at : ℕ) (a : Named) (x y z : ContextedPatch) → i + 1 ≡ at → i < length changes → a ≡ get_or changes i a → AddsAll (drop at changes) x y → AddsToContext a y z → AddsAll (drop i changes) x z
one_more_added changes i at a x y z follows within is added adds =
    let here : drop i changes ≡ a ∷ drop at changes = drop_more changes i a within ∙ (λ k. sym is k ∷ drop (follows k) changes) in
    subst (λ l. AddsAll l x z) (sym here) (y, added, adds)

-- a patch without a context that commutes with a change passes it
pub swaps_by : (a p p' behind : Named) → Commute a p p' behind → AddsToContext a (bare p) (bare p')
swaps_by a p p' behind swap =
    commute (λ y w. w.front) (record { a' = a; a'' = behind; passed = []; past_context = (refl, refl); past_patch = swap; context = refl })

-- a patch with a hunk is given by the line of its hunk
pub at_own_line : (patch : Named) (hunk : Edit) → patch.prim ≡ Hunk hunk → patch ≡ hunk_at patch hunk hunk.line
at_own_line patch hunk is =
    λ i. record { name = patch.name; place = patch.place; inverse = patch.inverse; prim = is i }

-- a change to another file
pub passes_elsewhere : (change patch : Named) (hunk : Edit) (line : ℕ) → ¬ (SameKey change patch) → ¬ (path_of change.prim ≡ hunk.path) → InRange change.prim → IsInRange (at_line line hunk) → HunkMovesBefore change patch hunk line line
passes_elsewhere change patch hunk line apart other own range = (
  change,
  record {
    anywhere = record { apart = apart; change = inl (record { paths = other; second = refl; first = refl }); second = refl; first = refl };
    ranges = (own, range, range, own);
  },
)

-- a hunk of the same file
pub passes_hunk : (change patch : Named) (other hunk : Edit) (line next : ℕ) → ¬ (SameKey change patch) → change.prim ≡ Hunk other → IsInRange other → IsInRange (at_line line hunk) → HunkCommutesPast other hunk line next → HunkMovesBefore change patch hunk line next
passes_hunk change patch other hunk line next apart is own range passes =
    let behind : Named = record { name = change.name; place = change.place; inverse = change.inverse; prim = Hunk passes.behind } in (
      behind,
      record {
        anywhere = record {
          apart = apart;
          change = subst (λ p. PrimitivesCommute p (Hunk (at_line line hunk)) (Hunk (at_line next hunk)) (Hunk passes.behind)) (sym is) passes.change;
          second = refl;
          first = refl;
        };
        ranges = (subst InRange (sym is) own, range, passes.second, passes.first);
      },
    )

-- the hunk is below it
pub above_passes : (other hunk : Edit) (line gap : ℕ) → other.path ≡ hunk.path → IsInRange other → IsInRange (at_line line hunk) → other.line ≡ line + length hunk.old + gap → 0 < gap → line + length hunk.new + gap + length other.old + length other.new ≤ greatest_reach → HunkCommutesPast other hunk line line
above_passes other hunk line gap path own range stands between within = record {
  behind = at_line (line + length hunk.new + gap) other;
  change = inr (inr (record {
    h = other;
    k = at_line line hunk;
    gap = gap;
    is_p = refl;
    is_q = refl;
    path = path;
    stands = stands;
    passes = inl between;
    second = refl;
    first = refl;
  }));
  second = range;
  first = record { counted = omega (arith, range.counted); changes = own.changes; within = within };
}

-- a label without a context is its patch, and moves with it
pub label_moved : (changes : List Named) (stop line : ℕ) (x moved : ContextedPatch) (patch : Named) (hunk : Edit) → x.context ≡ [] → patch ≡ x.patch → moved ≡ bare (hunk_at x.patch hunk line) → AddsAll (drop stop changes) (bare patch) (bare (hunk_at patch hunk line)) → AddsAll (drop stop changes) x moved
label_moved changes stop line x moved patch hunk none is comes added =
    let own : bare patch ≡ x = λ i. record { context = sym none i; patch = is i } in
    let there : bare (hunk_at patch hunk line) ≡ moved = ap (λ p. bare (hunk_at p hunk line)) is ∙ sym comes in
    subst (λ y. AddsAll (drop stop changes) y moved) own (subst (AddsAll (drop stop changes) (bare patch)) there added)

-- at first a hunk is at its own line
pub at_first : (changes : List Named) (n line : ℕ) (patch : Named) (hunk : Edit) → n ≡ length changes → line ≡ hunk.line → patch.prim ≡ Hunk hunk → AddsAll (drop n changes) (bare patch) (bare (hunk_at patch hunk line))
at_first changes n line patch hunk whole own is =
    none_added changes n (bare patch) (bare (hunk_at patch hunk line)) whole (ap (λ l. bare (hunk_at patch hunk l)) own ∙ ap bare (sym (at_own_line patch hunk is)))

pub in_range_there : (hunk : Edit) (line : ℕ) → line ≡ hunk.line → IsInRange hunk → IsInRange (at_line line hunk)
in_range_there hunk line own range = subst (λ l. IsInRange (at_line l hunk)) (sym own) range

-- the end of a prefix of some changes
pub ends_within : (changes : List Named) (left stop : ℕ) → left ≤ length changes → stop ≤ length (take left changes) → stop ≤ left
ends_within changes left stop within past =
    let long : length (take left changes) ≡ left = length-take-le left changes within in omega (arith, long, past)
