-- A record that is written and read again.
use Rattle.camp_uses.proofs.Words.{◌≡◌, ℕ, List, [], ◌∷◌, ◌++◌, append-nil, Result, Ok, sym, ap, ◌∙◌, subst, arith, Call, Primitive, ReadsBack, call_text, CanBeInScript, script_of, LineFault}
use Rattle.camp_call.specs.declared.calls.Call.TheVariants as call

-- a text is read as one script
pub same_script : (one two : List (List Call)) (read : Result (List (List Call)) LineFault) → read ≡ Ok one → read ≡ Ok two → one ≡ two
same_script one two read first second = cc

pub record_reads_back : ReadsBack → (branch name : List ℕ) (changes : List Primitive) (text : List ℕ) (script : List (List Call)) → CanBeInScript (call.Record branch name changes) → text ≡ call_text (call.Record branch name changes) → script_of text ≡ Ok script → script ≡ (call.Record branch name changes ∷ []) ∷ []
record_reads_back back branch name changes text script stands written read =
    let it = call.Record branch name changes in
    let whole = back ((it ∷ []) ∷ []) (record {
      calls = ((stands tt, tt), tt);
      limits = record { has_opening = omega arith; sections_within = omega arith; writes_within = (omega arith, tt) };
    }) in
    same_script script ((it ∷ []) ∷ []) (script_of text) read (ap script_of (written ∙ sym (append-nil (call_text it ++ []) ∙ append-nil (call_text it))) ∙ whole)

-- a call that records changes, written and read again
pub shown_reads_back : ReadsBack → (asked : Call) (to name : List ℕ) (changes : List Primitive) (text : List ℕ) (script : List (List Call)) → asked ≡ call.Record to name changes → CanBeInScript asked → text ≡ call_text asked → script_of text ≡ Ok script → script ≡ (call.Record to name changes ∷ []) ∷ []
shown_reads_back back asked to name changes text script is stands written read =
    record_reads_back back to name changes text script (subst CanBeInScript is stands) (written ∙ ap call_text is) read
