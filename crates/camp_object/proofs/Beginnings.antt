-- Lemmas on lists that begin one another.
use Rattle.std.proofs.Common.{◌≡◌, ◌+◌, ◌-◌, ◌≤◌, List, [], ◌++◌, length, take, take_at, refl, sym, ◌∙◌, ap, arith}
use Rattle.std.proofs.Math.Seq.{take-append-add}
use Rattle.std.proofs.lemmas.List.{append_assoc, append-nil, length-append, nil_from_length}
use Rattle.camp_object.specs.Histories.{IsBeginning}

pub begins_self : {Entry : Type 0} (list : List Entry) → IsBeginning list list
begins_self list = record { rest = []; makes = append-nil list }

pub begins_append : {Entry : Type 0} (beginning rest : List Entry) → IsBeginning beginning (beginning ++ rest)
begins_append beginning rest = record { rest = rest; makes = refl }

pub begins_through : {Entry : Type 0} {one two three : List Entry} → IsBeginning one two → IsBeginning two three → IsBeginning one three
begins_through {one = one} {two = two} {three = three} first second =
    record { rest = first.rest ++ second.rest; makes = sym (append_assoc one first.rest second.rest) ∙ ap (λ list. list ++ second.rest) first.makes ∙ second.makes }

pub begins_longer : {Entry : Type 0} {beginning whole : List Entry} (rest : List Entry) → IsBeginning beginning whole → IsBeginning beginning (whole ++ rest)
begins_longer {whole = whole} rest begins = begins_through begins (begins_append whole rest)

pub length-beginning : {Entry : Type 0} {beginning whole : List Entry} → IsBeginning beginning whole → length beginning ≤ length whole
length-beginning {beginning = beginning} {whole = whole} begins =
    let parts : length (beginning ++ begins.rest) ≡ length whole = ap length begins.makes in
    omega (arith, length-append beginning begins.rest)

-- a prefix with no fewer entries is the whole
pub begins_whole : {Entry : Type 0} (beginning whole : List Entry) → IsBeginning beginning whole → length whole ≤ length beginning → beginning ≡ whole
begins_whole beginning whole begins short =
    let none : begins.rest ≡ [] = nil_from_length begins.rest (omega (arith, length-append beginning begins.rest, ap length begins.makes)) in
    sym (append-nil beginning) ∙ ap (λ rest. beginning ++ rest) (sym none) ∙ begins.makes

-- of two prefixes of a list the shorter is a prefix of the longer
pub begins_shorter : {Entry : Type 0} (one two whole : List Entry) → IsBeginning one whole → IsBeginning two whole → length one ≤ length two → IsBeginning one two
begins_shorter one two whole first second short =
    let left = length two - length one in
    let all : length one + left ≡ length two = omega arith in
    record { rest = take left first.rest; makes = sym (take-append-add one first.rest left) ∙ (λ i. take (all i) ((first.makes ∙ sym second.makes) i)) ∙ take_at two second.rest (length two) refl }
