-- The text of one call is read as just that call.
use Rattle.std.proofs.Common.{◌≡◌, ◌≢◌, ℕ, List, [], ◌∷◌, ◌++◌, map, sym, ◌∙◌, ap, subst, Result, Ok, Err, IfSome, Option, None, Some, Vec, Global, option_to_list}
use Rattle.std.specs.List.{AllByRecursion}
use Rattle.std.proofs.lemmas.List.{map-append}
use Rattle.std.proofs.lemmas.Option.{none-some, same_Some}
use Rattle.camp_call.specs.declared.calls.Call.{Call}
use Rattle.camp_script.specs.Canonical.{IsScriptCall, call_text}
use Rattle.camp_script.specs.Reading.{script_of}
use Rattle.camp_script.specs.SingleCalls.{IsOnlyCallOf}
use Rattle.camp_script.specs.declared.faults.LineFault.{LineFault}
use Rattle.camp_script.proofs.CalledLines.{text_reads}
use Rattle.camp_script.proofs.Writable.{read_is_writable}

abbrev first_call : Call → Result (List (List Call)) LineFault → Call
first_call c (Ok []) = c
first_call c (Ok ([] ∷ sections)) = c
first_call c (Ok ((x ∷ calls) ∷ sections)) = x
first_call c (Err fault) = c

-- no two such calls have one text
pub one_call : (c d : Call) → IsScriptCall c → IsScriptCall d → call_text c ≡ call_text d → c ≡ d
one_call c d can could same = ap (first_call c) (sym (text_reads c can) ∙ ap script_of same ∙ text_reads d could)

abbrev sections_in : Result (List (List Call)) LineFault → List (List Call)
sections_in (Ok sections) = sections
sections_in (Err fault) = []

-- reading the text of a call as a script
read_alone : (text : List ℕ) (sections : List (List Call)) (call : Call) → script_of text ≡ Ok sections → IsScriptCall call → call_text call ≡ text → sections ≡ (call ∷ []) ∷ []
read_alone text sections call reads can is = ap sections_in (sym reads ∙ ap script_of (sym is) ∙ text_reads call can)

pub is_only : (text : List ℕ) (sections : List (List Call)) (found : Option Call) → script_of text ≡ Ok sections
    → ((call : Call) → sections ≡ (call ∷ []) ∷ [] → found ≡ Some call) → IfSome found (λ call. AllByRecursion (AllByRecursion IsScriptCall) sections → IsScriptCall call)
    → IsOnlyCallOf text found
is_only text sections None reads alone stand = λ call can is. none-some call (alone call (read_alone text sections call reads can is))
is_only text sections (Some call) reads alone stand = (
  stand (read_is_writable text sections reads).calls,
  λ other can is. same_Some call other (alone other (read_alone text sections other reads can is)),
)

pub is_none : (text : List ℕ) → ((sections : List (List Call)) → script_of text ≢ Ok sections) → IsOnlyCallOf text None
is_none text none = λ call can is. none ((call ∷ []) ∷ []) (ap script_of (sym is) ∙ text_reads call can)

last_holds : {A : Type 0} (P : A → Type 0) (xs : List A) (x : A) → AllByRecursion P (xs ++ x ∷ []) → P x
last_holds P [] x all = all.0
last_holds P (y ∷ xs) x all = last_holds P xs x all.1

abbrev items_of : List (Vec Call Global) → List (List Call)
items_of sections = map (λ section. section.items) sections

-- the last call of the last section
pub popped : (sections rest : List (Vec Call Global)) (last : Vec Call Global) (others : List Call) (found : Option Call) → sections ≡ rest ++ last ∷ [] → last.items ≡ others ++ option_to_list found
    → IfSome found (λ call. AllByRecursion (AllByRecursion IsScriptCall) (items_of sections) → IsScriptCall call)
popped sections rest last others None splits ends = tt
popped sections rest last others (Some call) splits ends = λ can.
    let all : AllByRecursion IsScriptCall last.items =
    last_holds (AllByRecursion IsScriptCall) (items_of rest) last.items (
    subst (λ (l : List (List Call)). AllByRecursion (AllByRecursion IsScriptCall) l) (ap items_of splits ∙ map-append (λ (section : Vec Call Global). section.items) rest (last ∷ [])) can
    ) in
    last_holds IsScriptCall others call (subst (λ (l : List Call). AllByRecursion IsScriptCall l) ends all)
