use Rattle.camp_base.proofs.Words.{◌≡◌, ℕ, List, length, drop, ◌++◌, ◌-◌, replicate, sym, ap, refl, IsTrue, drop-replicate, take_at, is_name}
use Rattle.camp_base.specs.Inside.NameFields.{IsPadded, padded}
use Rattle.camp_base.proofs.names.Name.new.Goals as goal

-- bytes of a name copied to the front of 40 zeros
copied_in : (bytes copied : List ℕ) → copied ≡ bytes → IsTrue (is_name bytes) → IsPadded (record { buffer = copied ++ drop (length bytes) (replicate 40 0); len = length bytes })
copied_in bytes copied same form =
    let zeros = drop-replicate {X = ℕ} (length bytes) 40 0 in
    let front = take_at {A = ℕ} bytes (replicate (40 - length bytes) 0) (length bytes) refl in
    rw (same, zeros) (record { form = rw front form; padding = ap padded front })

pub invariant_of-result : goal.invariant_of-result
invariant_of-result c = copied_in _ _ c.copy_from_slice.ensures.after (sym c.if-not-is_name.ensures)
