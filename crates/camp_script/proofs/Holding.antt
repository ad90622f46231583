-- Facts about the value that reading gives, if it gives one.
use Rattle.camp_script.proofs.Common.{◌≡◌, Bool, true, false, cond, refl, Result, Ok, Err, IfOk, ◌>>=◌, LineFault}

pub record Holds {A : Type 0} (P : A → Type 0) (r : Result A LineFault) : Type 0 where
  pub value : IfOk r P

pub fails : {A : Type 0} {P : A → Type 0} {fault : LineFault} → Holds P (Err fault)
fails = record { value = tt }

pub bind : {A B : Type 0} (P : A → Type 0) (Q : B → Type 0) (r : Result A LineFault) (next : A → Result B LineFault) → Holds P r → ((x : A) → P x → Holds Q (next x)) → Holds Q (r >>= next)
bind P Q (Ok x) next h k = k x h.value
bind P Q (Err e) next h k = record { value = tt }

pub either : {A : Type 0} (P : A → Type 0) (b : Bool) (x y : Result A LineFault) → (b ≡ true → Holds P x) → (b ≡ false → Holds P y) → Holds P (cond b x y)
either P true x y f g = f refl
either P false x y f g = g refl

pub anything : {A : Type 0} (r : Result A LineFault) → Holds (λ x. Unit {0}) r
anything (Ok x) = record { value = tt }
anything (Err e) = record { value = tt }

-- after a value of which nothing needs to be known
pub behind : {A B : Type 0} (Q : B → Type 0) (r : Result A LineFault) (next : A → Result B LineFault) → ((x : A) → Holds Q (next x)) → Holds Q (r >>= next)
behind Q r next k = bind (λ x. Unit {0}) Q r next (anything r) (λ x h. k x)
