-- Two labelled primitives are equal or not.
use Rattle.camp_ctx.proofs.Words.{◌≡◌, ℕ, List, ap, inl, inr, nat_cmp_total, nat_cmp, IsAntisymmetric, slice_cmp-IsAntisymmetric, nat_cmp-IsAntisymmetric, Lines, label_of, Named, label_total, label_ties, same_named, same_hunk, Decided, decided_by, same_or_not}
use Rattle.std.proofs.lemmas.Cmp.{nat_list_cmp_total}
use Rattle.std.specs.Cmp.Lexicographic.{slice_cmp, lists_total}
use Rattle.camp_prim.specs.Hunks.{Edit}
use Rattle.camp_prim.specs.declared.primitives.Primitive.{Primitive}
use Rattle.camp_prim.specs.declared.primitives.Primitive.TheVariants.{Add, Remove, Hunk}

bytes_tie : IsAntisymmetric (slice_cmp nat_cmp)
bytes_tie = slice_cmp-IsAntisymmetric nat_cmp-IsAntisymmetric

pub bytes_or_not : (a b : List ℕ) → Decided (a ≡ b)
bytes_or_not = same_or_not (slice_cmp nat_cmp) nat_list_cmp_total bytes_tie

lines_or_not : (a b : Lines) → Decided (a ≡ b)
lines_or_not = same_or_not (slice_cmp (slice_cmp nat_cmp)) (lists_total nat_list_cmp_total) (slice_cmp-IsAntisymmetric bytes_tie)

pub both_or_not : {A B : Type 0} → Decided A → Decided B → Decided (A × B)
both_or_not (inl a) (inl b) = inl (a, b)
both_or_not (inl a) (inr n) = inr (λ c. n c.1)
both_or_not (inr n) d = inr (λ c. n c.0)

edit_or_not : (h k : Edit) → Decided (h ≡ k)
edit_or_not h k =
    decided_by (λ e i. record { path = e.0.0 i; line = e.0.1 i; old = e.1.0 i; new = e.1.1 i }) (λ e. ((ap (λ x. x.path) e, ap (λ x. x.line) e), (ap (λ x. x.old) e, ap (λ x. x.new) e))) (both_or_not (both_or_not (bytes_or_not h.path k.path) (same_or_not nat_cmp nat_cmp_total nat_cmp-IsAntisymmetric h.line k.line)) (both_or_not (lines_or_not h.old k.old) (lines_or_not h.new k.new)))

primitive_or_not : (p q : Primitive) → Decided (p ≡ q)
primitive_or_not (Add a) (Add b) = decided_by (ap Add) (λ e. cc) (bytes_or_not a b)
primitive_or_not (Add a) (Remove b) = inr (λ e. cc)
primitive_or_not (Add a) (Hunk h) = inr (λ e. cc)
primitive_or_not (Remove a) (Add b) = inr (λ e. cc)
primitive_or_not (Remove a) (Remove b) = decided_by (ap Remove) (λ e. cc) (bytes_or_not a b)
primitive_or_not (Remove a) (Hunk h) = inr (λ e. cc)
primitive_or_not (Hunk h) (Add b) = inr (λ e. cc)
primitive_or_not (Hunk h) (Remove b) = inr (λ e. cc)
primitive_or_not (Hunk h) (Hunk k) = decided_by (ap Hunk) (same_hunk h k) (edit_or_not h k)

pub named_or_not : (p q : Named) → Decided (p ≡ q)
named_or_not p q =
    decided_by (λ e. same_named p q e.0 e.1) (λ e. (ap label_of e, ap (λ x. x.prim) e)) (both_or_not (same_or_not _ label_total label_ties (label_of p) (label_of q)) (primitive_or_not p.prim q.prim))
