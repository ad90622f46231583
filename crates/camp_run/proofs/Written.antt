-- The text that is prepared and then written is the result of a run.
use Rattle.std.proofs.Common.{◌≡◌, ℕ, ◌≤◌, Bool, List, [], ◌∷◌, Option, Result, Ok, Err, MatchResult, Vec}
use Rattle.camp_run.proofs.Words.{ap, count_by, subst, sym, ◌∙◌, All, AllByRecursion, All-cons, All-nil, Fault, is_writing, Call, Reply, lists_of}
use Rattle.std.specs.Io.KnownBytes.{Appends}
use Rattle.camp_script.specs.Outputs.{output_text}
use Rattle.camp_script.specs.Writing.{AppendsProperPrefix}
use Rattle.camp_run.specs.Inputs.{ReadsAs}
use Rattle.camp_run.specs.Outputs.{IsOutput, RunRelation, if_wanted}
use Rattle.camp_run.specs.Runs.{Runs}
use Rattle.camp_run.specs.declared.faults.RunFault.{RunFault}
use Rattle.camp_run.specs.declared.faults.RunFault.TheVariants.{Write}

module _ (Relates : RunRelation) (wants_history : Bool) (remaining rest old new : Option (List ℕ)) (script : List (List Call)) (text lent : List ℕ) where
  pub written : (result : Result (Unit {0}) RunFault) → ReadsAs remaining rest (Ok script) → IsOutput Relates wants_history script text → lent ≡ text
      → MatchResult result (λ _. Appends old new lent) (λ why. (why ≡ Write) × AppendsProperPrefix old new lent)
      → Runs Relates wants_history remaining rest old result new
  written (Ok done) reads is same says = (text, record { script = script; reads = reads; is_output = is }, subst (Appends old new) same says)
  written (Err why) reads is same says =
      subst (λ fault. Runs Relates wants_history remaining rest old (Err fault) new) (sym says.0)
      (text, record { script = script; reads = reads; is_output = is }, subst (AppendsProperPrefix old new) same says.1)

-- the result of a script, and its text
module _ (Relates : RunRelation) (wants_history : Bool) (script sections : List (List Call))
    (answers lent_answers : List (List (Result Reply Fault))) (history lent_history : List (ℕ × Call)) (text : List ℕ) where
  pub prepared : sections ≡ script → Relates sections answers history
      → lent_answers ≡ answers → lent_history ≡ history
      → text ≡ output_text lent_answers (if_wanted wants_history lent_history)
      → IsOutput Relates wants_history script text
  prepared are relates same_answers same_history is_text = record {
    answers = answers;
    history = history;
    relates = subst (λ sections. Relates sections answers history) are relates;
    is_text = is_text ∙ ap (λ a. output_text a (if_wanted wants_history lent_history)) same_answers
        ∙ ap (λ h. output_text answers (if_wanted wants_history h)) same_history;
  }

-- sections of a script are within its limits, lent as vectors too
pub lent_within : {Z : Type 0} (sections : List (Vec Call Z))
    → AllByRecursion (λ section. count_by is_writing section ≤ 65_536) (lists_of sections)
    → All (λ section. count_by is_writing section.items ≤ 65_536) sections
lent_within [] within = All-nil (λ section. count_by is_writing section.items ≤ 65_536)
lent_within (section ∷ sections) within =
    All-cons (λ section. count_by is_writing section.items ≤ 65_536) section sections within.0
    (lent_within sections within.1)
