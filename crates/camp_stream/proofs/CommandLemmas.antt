-- Values that are read one after another, and commands that are written and read.
use Rattle.std.proofs.Common.{◌≡◌, ℕ, suc, ◌+◌, ◌-◌, ◌<◌, ◌≤◌, List, [], ◌∷◌, ◌++◌, Option, None, Some, Ok, Err, refl, sym, ap, ◌∙◌, append_assoc, append-nil, arith}
use Rattle.camp_stream.specs.Commands.{FailsToRead, ReadResult, many, with_others}
use Rattle.camp_base.specs.Results.{◌>>=◌}
use Rattle.camp_stream.specs.declared.commands.ReadError.{ReadError}
use Rattle.camp_stream.specs.declared.commands.ReadError.TheVariants as error

-- values that were read before others
abbrev pub after_others : {A : Type 0} → List A → ReadResult (List A) → ReadResult (List A)
after_others front reading = reading >>= λ found. Ok (front ++ found.0, found.1)

regroup : {A : Type 0} (front : List A) (value : A) (rest : List ℕ) (others : ReadResult (List A))
    → after_others front (with_others (Some value) rest others) ≡ after_others (front ++ value ∷ []) others
regroup front value rest (Ok found) = ap (λ (values : List _). Ok (values, found.1)) (sym (append_assoc front (value ∷ []) found.0))
regroup front value rest (Err fault) = refl

-- one more value was read
pub one_more : {A : Type 0} (read : List ℕ → ReadResult (Option A)) (front : List A) (count index : ℕ) (bytes : List ℕ) (value : A) (rest : List ℕ) (total : ReadResult (List A))
    → index < count → read bytes ≡ Ok (Some value, rest)
    → after_others front (many read (count - index) bytes) ≡ total → after_others (front ++ value ∷ []) (many read (count - (index + 1)) rest) ≡ total
unfolding many
one_more read front count index bytes value rest total lt is so_far =
    let left : count - index ≡ suc (count - (index + 1)) = omega arith in
    let one : after_others front (many read (count - index) bytes) ≡ after_others (front ++ value ∷ []) (many read (count - (index + 1)) rest) =
    rw (left, is) (regroup front value rest (many read (count - (index + 1)) rest)) in
    sym one ∙ so_far

-- the value that was read next is not there
pub none_more : {A : Type 0} (read : List ℕ → ReadResult (Option A)) (front : List A) (count index : ℕ) (bytes rest : List ℕ) (total : ReadResult (List A))
    → index < count → read bytes ≡ Ok (None, rest)
    → after_others front (many read (count - index) bytes) ≡ total → total ≡ Ok (front, rest)
unfolding many
none_more read front count index bytes rest total lt is so_far =
    let left : count - index ≡ suc (count - (index + 1)) = omega arith in
    let one : after_others front (many read (count - index) bytes) ≡ Ok (front, rest) =
    rw (left, is) (ap (λ (values : List _). Ok (values, rest)) (append-nil front)) in
    sym so_far ∙ one

-- reading the next value fails
pub fails_there : {A : Type 0} (problem : ReadError) (read : List ℕ → ReadResult (Option A)) (front : List A) (count index : ℕ) (bytes : List ℕ) (total : ReadResult (List A))
    → index < count → FailsToRead problem (read bytes)
    → after_others front (many read (count - index) bytes) ≡ total → FailsToRead problem total
unfolding many
fails_there error.Memory read front count index bytes total lt is so_far = tt
fails_there (error.Fault fault) read front count index bytes total lt is so_far =
    let left : count - index ≡ suc (count - (index + 1)) = omega arith in
    let one : after_others front (many read (count - index) bytes) ≡ Err fault = rw (left, is) refl in
    sym so_far ∙ one

-- as many as may be were read
pub all_read : {A : Type 0} (read : List ℕ → ReadResult (Option A)) (front : List A) (count index : ℕ) (bytes : List ℕ) (total : ReadResult (List A))
    → count ≤ index → after_others front (many read (count - index) bytes) ≡ total → total ≡ Ok (front, bytes)
unfolding many
all_read read front count index bytes total le so_far =
    let left : count - index ≡ 0 = omega arith in
    let one : after_others front (many read (count - index) bytes) ≡ Ok (front, bytes) =
    rw left (ap (λ (values : List _). Ok (values, bytes)) (append-nil front)) in
    sym so_far ∙ one
