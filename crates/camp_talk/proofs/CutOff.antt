-- The lines that are waited for, and the fault that is kept.
use Rattle.std.proofs.lemmas.Bool.{and_from, and_left, and_right, not_from_false, not_from_true}
use Rattle.std.specs.Prelude.{◌&&◌}
use Rattle.camp_talk.proofs.Words.{◌≡◌, ◌∙◌, ℕ, Bool, true, false, true≢false, cond, List, Some, not, ap, ◌==◌, ◌⊎◌, eqb-true, inl, inr, refl, sym, first_of, LineFault}
use Rattle.camp_talk.specs.Diagnostics.{Diagnostic, advanced, begins_command, cut_off, fault_diagnostic, fault_found, is_consequence, is_recovering, is_unknown, line_at, may_be, may_record, own_fault_diagnostic, recovery_of_line}
use Rattle.camp_talk.specs.Laws.{FaultsAreDescribed, IsCutOff, IsLineOf, IsNextLine, IsOfItsOwn, RecoveryFollowsCutOff}
use Rattle.camp_talk.specs.declared.recovery.Recovery.{Recovery}
use Rattle.camp_talk.specs.declared.recovery.Recovery.TheVariants.{Nothing}
use Rattle.camp_script.specs.declared.faults.FaultKind.{FaultKind}
use Rattle.camp_why.proofs.Seeing.{are_seen}
use Rattle.camp_why.specs.Hints.{hint}

by_tests : (first is : Bool) (some : Recovery) → is_recovering (cond (first && is) some Nothing) ≡ true → (first ≡ true) × (is ≡ true)
by_tests true true some waits = (refl, refl)
by_tests true false some waits = absurd (true≢false (sym waits))
by_tests false is some waits = absurd (true≢false (sym waits))

-- lines are waited for after a first line that is a record, or may be
after_first : (number : ℕ) (kind : FaultKind) (line : List ℕ) → is_recovering (cut_off number kind line) ≡ true
    → ((number == 1) ≡ true) × (may_record kind line ≡ true)
after_first number kind line waits = by_tests (number == 1) (may_record kind line) (recovery_of_line line) waits

parts : (waits unknown is : Bool) → (waits && (unknown && not is)) ≡ true → (waits ≡ true) × (unknown ≡ true) × (is ≡ false)
parts true true false e = (refl, refl, refl)
parts waits unknown is e = absurd (true≢false (sym e))

fails : (waits unknown is : Bool) → (waits ≡ false) ⊎ ((unknown ≡ false) ⊎ (is ≡ true)) → (waits && (unknown && not is)) ≡ false
fails waits unknown is (inl e) = and_left waits (unknown && not is) e
fails waits unknown is (inr (inl e)) = and_right waits (unknown && not is) (and_left unknown (not is) e)
fails waits unknown is (inr (inr e)) = and_right waits (unknown && not is) (and_right unknown (not is) (not_from_true is e))

-- whether a fault is the consequence of another, by its parts
is_line : (before : Diagnostic) (kind : FaultKind) (line : List ℕ) → IsLineOf before kind line → is_consequence before.recovery kind line ≡ true
is_line before kind line taken = and_from _ _ taken.0 (and_from _ _ taken.1 (not_from_false _ taken.2))

is_own : (before : Diagnostic) (kind : FaultKind) (line : List ℕ) → IsOfItsOwn before kind line → is_consequence before.recovery kind line ≡ false
is_own before kind line own = fails (may_be before.recovery line) (is_unknown kind) (begins_command line) own

module _ (diagnostic : Diagnostic) (before : ℕ) (fault : LineFault) (lines : List (List ℕ)) where
  -- the diagnostic, by whether the fault is the consequence of another
  abbrev By : Bool → Diagnostic
  By comes = cond comes (advanced diagnostic (first_of lines)) (own_fault_diagnostic before fault lines)

  abbrev Waits : Diagnostic → Type 0
  Waits now = IsCutOff before fault lines now ⊎ IsNextLine diagnostic fault lines now

  waits_by : (comes : Bool) → is_consequence diagnostic.recovery fault.kind (first_of lines) ≡ comes → is_recovering (By comes).recovery ≡ true → Waits (By comes)
  waits_by true comes waits =
      inr (record {
        taken = parts (may_be diagnostic.recovery (first_of lines)) (is_unknown fault.kind) (begins_command (first_of lines)) comes;
        is = refl;
      })
  waits_by false own waits =
      let both = after_first fault.line fault.kind (first_of lines) waits in
      let is_first = eqb-true fault.line 1 both.0 in
      inl (record {
        first = is_first;
        is = both.1;
        keeps = ap (λ (number : ℕ). Some (fault_found before fault (line_at number lines))) is_first;
        awaits = ap (λ b. cond (b && may_record fault.kind (first_of lines)) (recovery_of_line (first_of lines)) Nothing) both.0
            ∙ ap (λ b. cond b (recovery_of_line (first_of lines)) Nothing) both.1;
      })

  described_by : (comes : Bool) → is_consequence diagnostic.recovery fault.kind (first_of lines) ≡ comes → fault_diagnostic diagnostic before fault lines ≡ By comes
  described_by comes is = ap By is

pub recovery_follows : RecoveryFollowsCutOff
recovery_follows diagnostic before fault lines waits =
    waits_by diagnostic before fault lines (is_consequence diagnostic.recovery fault.kind (first_of lines)) refl waits

pub faults_described : FaultsAreDescribed
faults_described = record {
  own = λ diagnostic before fault lines own. record {
    hint = hint fault.kind (line_at fault.line lines);
    is_true = are_seen.reported fault.kind (line_at fault.line lines);
    keeps = ap (λ (d : Diagnostic). d.failed)
        (described_by diagnostic before fault lines false (is_own diagnostic fault.kind (first_of lines) own));
  };
  line = λ diagnostic before fault lines taken.
      described_by diagnostic before fault lines true (is_line diagnostic fault.kind (first_of lines) taken);
}
