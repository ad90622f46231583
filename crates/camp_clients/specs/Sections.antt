-- Sections of calls: each answer is given at a prefix of the history, and the next one at a prefix that begins with
-- that one.
use Rattle.std.specs.Prelude.{◌≡◌, ℕ, List, [], ◌∷◌}
use Rattle.camp_history.specs.Opening as opening

-- the most sections of a run: an opening, and one for each client
abbrev pub most_run_sections : ℕ
most_run_sections = 64

-- the most lost compare-exchanges of a call over a head
abbrev pub most_run_tries : ℕ
most_run_tries = opening.most_tries

-- a section: each answer was given at a prefix of the history; `Says` relates the answer to that prefix and to the
-- prefix of the answer before it. `first` is the prefix before the section, and `last` that of its last answer
abbrev pub Section : {Prefix Call Answer : Type 0} → (Prefix → Call → Answer → Prefix → Type 0)
    → Prefix → List Call → List Answer → Prefix → Type 0
Section Says first [] [] last = first ≡ last
Section Says first [] (answer ∷ answers) last = ⊥
Section Says first (call ∷ calls) [] last = ⊥
Section {Prefix} Says first (call ∷ calls) (answer ∷ answers) last =
    (next : Prefix) × Says first call answer next × Section Says next calls answers last
