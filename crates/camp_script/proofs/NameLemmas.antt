-- Reads names word by word.
use Rattle.camp_script.proofs.Common.{◌>>=◌, name_at, names_at, LineFault, ScriptFault, Line, Memory, ◌≡◌, ◌≢◌, ℕ, List, [], ◌∷◌, ◌++◌, refl, sym, ap, subst, ◌∙◌, append_assoc, append-nil, Result, Ok, Err, IsFaultFirst, IsFaultOf}

-- reading the words gives the names that are read, followed by those of the rest
abbrev pub NamesFrom : ℕ → List (List ℕ) → List (List ℕ) → List (List ℕ) → Type 0
NamesFrom line words done rest = names_at line words ≡ (names_at line rest >>= λ names. Ok (done ++ names))

same : (r : Result (List (List ℕ)) LineFault) → r ≡ (r >>= λ names. Ok names)
same (Ok names) = refl
same (Err fault) = refl

pub nothing_named : (line : ℕ) (words : List (List ℕ)) → NamesFrom line words [] words
nothing_named line words = same (names_at line words)

joined : (done : List (List ℕ)) (name : List ℕ) (r : Result (List (List ℕ)) LineFault) → ((r >>= λ names. Ok (name ∷ names)) >>= λ names. Ok (done ++ names)) ≡ (r >>= λ names. Ok ((done ++ name ∷ []) ++ names))
joined done name (Ok names) = ap Ok (sym (append_assoc done (name ∷ []) names))
joined done name (Err fault) = refl

pub one_named : (line : ℕ) (words done rest more : List (List ℕ)) (word name : List ℕ) → NamesFrom line words done rest → rest ≡ word ∷ more → name_at line word ≡ Ok name → NamesFrom line words (done ++ name ∷ []) more
one_named line words done rest more word name so is named =
    so ∙ ap (λ (ws : List (List ℕ)). names_at line ws >>= λ names. Ok (done ++ names)) is
    ∙ ap (λ (r : Result (List ℕ) LineFault). (r >>= λ name. names_at line more >>= λ names. Ok (name ∷ names)) >>= λ names. Ok (done ++ names)) named
    ∙ joined done name (names_at line more)

first_fault : (line : ℕ) (words done more : List (List ℕ)) (word : List ℕ) (fault : LineFault) → NamesFrom line words done (word ∷ more) → name_at line word ≡ Err fault → names_at line words ≡ Err fault
first_fault line words done more word fault so is =
    so ∙ ap (λ (r : Result (List ℕ) LineFault). (r >>= λ name. names_at line more >>= λ names. Ok (name ∷ names)) >>= λ names. Ok (done ++ names)) is

pub fault_named : (line : ℕ) (words done rest more : List (List ℕ)) (word : List ℕ) (fault : ScriptFault) → NamesFrom line words done rest → rest ≡ word ∷ more → IsFaultFirst fault (name_at line word) → fault ≢ Memory → IsFaultFirst fault (names_at line words)
fault_named line words done rest more word (Line fault) so is told other = first_fault line words done more word fault (subst (NamesFrom line words done) is so) told
fault_named line words done rest more word Memory so is told other = absurd (other refl)

pub all_named : (line : ℕ) (words done rest : List (List ℕ)) → NamesFrom line words done rest → rest ≡ [] → names_at line words ≡ Ok done
all_named line words done rest so is = so ∙ ap (λ (ws : List (List ℕ)). names_at line ws >>= λ names. Ok (done ++ names)) is ∙ ap Ok (append-nil done)

-- a fault of a line is a fault of the reading
pub is_fault_of : {A : Type 0} (fault : ScriptFault) (reading : Result A LineFault) → IsFaultFirst fault reading → IsFaultOf fault reading
is_fault_of (Line fault) reading is = is
is_fault_of Memory reading is = tt
