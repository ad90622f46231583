-- Commands that are written are read.
use Rattle.std.proofs.Common.{◌≡◌, ℕ, zero, suc, ◌≤◌, false, ◌==◌, List, [], ◌∷◌, ◌++◌, length, Option, None, Some, Ok, refl, sym, ap, subst, ◌∙◌, ⊎_elim, append_assoc, append-nil, length-append, arith}
use Rattle.std.specs.List.{AllByRecursion, flat_map}
use Rattle.std.proofs.lemmas.Bool.{cases_Bool, cond-false, eqb-false, eqb-true}
use Rattle.camp_base.specs.Signs.{newline}
use Rattle.camp_stream.proofs.ItemLemmas.{items_back}
use Rattle.camp_stream.specs.CommandTexts.{IsWritableIfAny, CommandsComeBack, IsWritableInside, StreamsComeBack, stream_command_bytes, stream_text, IsWritableBlob, IsWritableCommit, IsWritableReset, IsWritableTag, blob_text, change_item, file_change_bytes, commit_text, contents_text, data_item_bytes, description_text, merge_text, optional_item, reset_text, tag_text}
use Rattle.camp_stream.specs.CommandValues.{BlobValue, ChangeValue, CommandValue, CommitValue, ResetValue, TagValue, BlobCommand, CheckpointCommand, CommitCommand, DeleteEntries, DeleteEntry, DoneCommand, FeatureCommand, OptionCommand, ProgressCommand, ResetCommand, SetEntry, TagCommand}
use Rattle.camp_stream.specs.Commands.{ReadResult, as_command, blank_if, blob_at, change_if, changes_at, command_at, command_from, commit_at, data_at, data_if, first_item, item_if_wanted, located, many, mark_if, merges_at, must_be_wanted, next_command, optional, optional_text, stream_at, unless_done, required, reset_at, short_command, tag_at, text_if, with_others}
use Rattle.camp_base.specs.Results.{◌>>=◌}
use Rattle.camp_stream.specs.StreamItems.{IsWritable, ItemAndRest, item_at, item_text}
use Rattle.camp_stream.specs.StreamValues.{ItemValue, Bare, Blank, Data, Mark, Text}
use Rattle.camp_stream.specs.declared.items.BareItem.TheVariants.{Blob, Checkpoint, Done}
use Rattle.camp_stream.specs.declared.items.TextItem.{TextItem}
use Rattle.camp_stream.specs.declared.items.TextItem.TheVariants as text

-- ---- what was written is read

-- an item is not empty
some_byte : (bytes : List ℕ) (found : ItemAndRest) → item_at bytes ≡ Ok found → (length bytes == 0) ≡ false
some_byte [] found is = absurd cc
some_byte (byte ∷ bytes) found is =
    ⊎_elim (λ zero. absurd (omega (arith, eqb-true (length (byte ∷ bytes)) 0 zero))) (λ other. other) (cases_Bool (length (byte ∷ bytes) == 0))

first_back : (item : ItemValue) (rest : List ℕ) → IsWritable item → first_item (item_text item ++ rest) ≡ Ok (item, rest)
unfolding first_item
first_back item rest can = ap (located (item_text item ++ rest)) (items_back item rest can)

-- an item that was written is read where it is wanted, and left where it is not
optional_back : {A : Type 0} (wanted : ItemValue → Option A) (item : ItemValue) (value : Option A) (rest : List ℕ) → IsWritable item → wanted item ≡ value
    → optional wanted (item_text item ++ rest) ≡ item_if_wanted value (item_text item ++ rest) rest
unfolding optional
optional_back wanted item value rest can is =
    let bytes : List ℕ = item_text item ++ rest in
    cond-false (length bytes == 0) _ _ (some_byte bytes (item, rest) (items_back item rest can))
    ∙ ap (λ (found : ReadResult ItemValue). found >>= λ found. item_if_wanted (wanted found.0) bytes found.1) (first_back item rest can)
    ∙ ap (λ (o : Option _). item_if_wanted o bytes rest) is

required_back : {A : Type 0} (wanted : ItemValue → Option A) (item : ItemValue) (value : A) (rest : List ℕ) → IsWritable item → wanted item ≡ Some value
    → required wanted (item_text item ++ rest) ≡ Ok (value, rest)
unfolding required
required_back wanted item value rest can is =
    let bytes : List ℕ = item_text item ++ rest in
    ap (λ (found : ReadResult ItemValue). found >>= λ found. must_be_wanted (wanted found.0) bytes found.1) (first_back item rest can)
    ∙ ap (λ (o : Option _). must_be_wanted o bytes rest) is

-- nothing that is wanted is at the front of these bytes
abbrev Skips : {A : Type 0} → (ItemValue → Option A) → List ℕ → Type 0
Skips wanted bytes = optional wanted bytes ≡ Ok (None, bytes)

-- an item that is not wanted
skips_item : {A : Type 0} (wanted : ItemValue → Option A) (item : ItemValue) (rest : List ℕ) → IsWritable item → wanted item ≡ None → Skips wanted (item_text item ++ rest)
skips_item wanted item rest can is = optional_back wanted item None rest can is

-- an item that may be there and is not wanted, before others that are not
skips_optional : {A : Type 0} (wanted : ItemValue → Option A) (item : List ℕ → ItemValue) (line : Option (List ℕ)) (rest : List ℕ)
    → IsWritableIfAny item line → ((text : List ℕ) → wanted (item text) ≡ None) → Skips wanted rest → Skips wanted (optional_item item line ++ rest)
skips_optional wanted item None rest can is skips = skips
skips_optional wanted item (Some text) rest can is skips = skips_item wanted (item text) rest can (is text)

-- an item that may be there is read back
line_back : (wanted : ItemValue → Option (List ℕ)) (item : List ℕ → ItemValue) (line : Option (List ℕ)) (rest : List ℕ)
    → IsWritableIfAny item line → ((text : List ℕ) → wanted (item text) ≡ Some text) → Skips wanted rest
    → optional wanted (optional_item item line ++ rest) ≡ Ok (line, rest)
line_back wanted item None rest can is skips = skips
line_back wanted item (Some text) rest can is skips = optional_back wanted (item text) (Some text) rest can (is text)

-- an empty line is skipped
blank_back : (rest : List ℕ) → optional blank_if (newline ∷ rest) ≡ Ok (Some tt, rest)
blank_back rest = optional_back blank_if Blank (Some tt) rest tt refl

-- an empty line is nothing that is wanted
skips_blank : {A : Type 0} (wanted : ItemValue → Option A) (rest : List ℕ) → wanted Blank ≡ None → Skips wanted (newline ∷ rest)
skips_blank wanted rest is = skips_item wanted Blank rest tt is

data_back : (bytes rest : List ℕ) → IsWritable (Data bytes) → data_at (data_item_bytes bytes ++ rest) ≡ Ok (bytes, rest)
unfolding data_at
data_back bytes rest can =
    ap data_at (append_assoc (item_text (Data bytes)) (newline ∷ []) rest)
    ∙ ap (λ (found : ReadResult (List ℕ)). found >>= λ found. optional blank_if found.1 >>= λ blank. Ok (found.0, blank.1))
    (required_back data_if (Data bytes) bytes (newline ∷ rest) can refl)
    ∙ ap (λ (blank : ReadResult (Option (Unit {0}))). blank >>= λ blank. Ok (bytes, blank.1)) (blank_back rest)

skips_data : {A : Type 0} (wanted : ItemValue → Option A) (bytes rest : List ℕ) → IsWritable (Data bytes) → wanted (Data bytes) ≡ None → Skips wanted (data_item_bytes bytes ++ rest)
skips_data wanted bytes rest can is =
    subst (Skips wanted) (sym (append_assoc (item_text (Data bytes)) (newline ∷ []) rest)) (skips_item wanted (Data bytes) (newline ∷ rest) can is)

-- values that were written are read back
many_back : {A : Type 0} (read : List ℕ → ReadResult (Option A)) (write : A → List ℕ) (Can : A → Type 0)
    → ((value : A) (rest : List ℕ) → Can value → read (write value ++ rest) ≡ Ok (Some value, rest))
    → (values : List A) (rest : List ℕ) (count : ℕ) → AllByRecursion Can values → length values ≤ count → read rest ≡ Ok (None, rest)
    → many read count (flat_map write values ++ rest) ≡ Ok (values, rest)
unfolding many
many_back read write Can back [] rest zero can fits ends = refl
many_back read write Can back [] rest (suc count) can fits ends = rw ends refl
many_back read write Can back (value ∷ values) rest zero can fits ends = absurd (omega (arith, fits))
many_back read write Can back (value ∷ values) rest (suc count) can fits ends =
    ap (many read (suc count)) (append_assoc (write value) (flat_map write values) rest)
    ∙ ap (λ (found : ReadResult (Option _)). found >>= λ found. with_others found.0 found.1 (many read count found.1)) (back value (flat_map write values ++ rest) can.0)
    ∙ ap (λ (more : ReadResult (List _)). more >>= λ more. Ok (value ∷ more.0, more.1)) (many_back read write Can back values rest count can.1 (omega (arith, fits)) ends)

-- at least a byte is written for each
enough : {A : Type 0} (write : A → List ℕ) → ((value : A) → 1 ≤ length (write value)) → (values : List A) (rest : List ℕ) → length values ≤ length (flat_map write values ++ rest)
enough write some [] rest = omega arith
enough write some (value ∷ values) rest =
    omega (
      arith,
      some value,
      enough write some values rest,
      length-append (write value ++ flat_map write values) rest,
      length-append (write value) (flat_map write values),
      length-append (flat_map write values) rest,
    )

-- ---- the parts of commands

merges_back : (merges : List (List ℕ)) (rest : List ℕ) → AllByRecursion (λ parent. IsWritable (Text text.Merge parent)) merges
    → Skips (text_if text.Merge) rest → merges_at (flat_map merge_text merges ++ rest) ≡ Ok (merges, rest)
unfolding merges_at
merges_back merges rest can skips =
    many_back (optional_text text.Merge) merge_text (λ parent. IsWritable (Text text.Merge parent))
    (λ parent rest can. optional_back (text_if text.Merge) (Text text.Merge parent) (Some parent) rest can refl)
    merges rest (length (flat_map merge_text merges ++ rest)) can
    (enough merge_text (λ parent. omega arith) merges rest) skips

wanted_change : (change : ChangeValue) → change_if (change_item change) ≡ Some change
wanted_change (SetEntry mode content path) = refl
wanted_change (DeleteEntry path) = refl
wanted_change DeleteEntries = refl

change_has_byte : (change : ChangeValue) → 1 ≤ length (file_change_bytes change)
change_has_byte (SetEntry mode content path) = omega arith
change_has_byte (DeleteEntry path) = omega arith
change_has_byte DeleteEntries = omega arith

changes_back : (changes : List ChangeValue) (rest : List ℕ) → AllByRecursion (λ change. IsWritable (change_item change)) changes
    → Skips change_if rest → changes_at (flat_map file_change_bytes changes ++ rest) ≡ Ok (changes, rest)
unfolding changes_at
changes_back changes rest can skips =
    many_back (optional change_if) file_change_bytes (λ change. IsWritable (change_item change))
    (λ change rest can. optional_back change_if (change_item change) (Some change) rest can (wanted_change change))
    changes rest (length (flat_map file_change_bytes changes ++ rest)) can
    (enough file_change_bytes change_has_byte changes rest) skips

skips_merges : {A : Type 0} (wanted : ItemValue → Option A) (merges : List (List ℕ)) (rest : List ℕ) → AllByRecursion (λ parent. IsWritable (Text text.Merge parent)) merges
    → ((parent : List ℕ) → wanted (Text text.Merge parent) ≡ None) → Skips wanted rest → Skips wanted (flat_map merge_text merges ++ rest)
skips_merges wanted [] rest can is skips = skips
skips_merges wanted (parent ∷ merges) rest can is skips =
    subst (Skips wanted) (sym (append_assoc (merge_text parent) (flat_map merge_text merges) rest))
    (skips_item wanted (Text text.Merge parent) (flat_map merge_text merges ++ rest) can.0 (is parent))

skips_changes : {A : Type 0} (wanted : ItemValue → Option A) (changes : List ChangeValue) (rest : List ℕ) → AllByRecursion (λ change. IsWritable (change_item change)) changes
    → ((change : ChangeValue) → wanted (change_item change) ≡ None) → Skips wanted rest → Skips wanted (flat_map file_change_bytes changes ++ rest)
skips_changes wanted [] rest can is skips = skips
skips_changes wanted (change ∷ changes) rest can is skips =
    subst (Skips wanted) (sym (append_assoc (file_change_bytes change) (flat_map file_change_bytes changes) rest))
    (skips_item wanted (change_item change) (flat_map file_change_bytes changes ++ rest) can.0 (is change))

no_text_change : (item : TextItem) (change : ChangeValue) → text_if item (change_item change) ≡ None
no_text_change item (SetEntry mode content path) = refl
no_text_change item (DeleteEntry path) = refl
no_text_change item DeleteEntries = refl

-- ---- commands

commit_by_parts : (reference : List ℕ) (mark id author : Option (List ℕ)) (committer : List ℕ) (encoding : Option (List ℕ)) (message : List ℕ) (from : Option (List ℕ)) (merges : List (List ℕ)) (changes : List ChangeValue) (b0 b1 b2 b3 b4 b5 b6 b7 b8 b9 rest : List ℕ)
    → optional mark_if b0 ≡ Ok (mark, b1) → optional_text text.OriginalOid b1 ≡ Ok (id, b2) → optional_text text.Author b2 ≡ Ok (author, b3)
    → required (text_if text.Committer) b3 ≡ Ok (committer, b4) → optional_text text.Encoding b4 ≡ Ok (encoding, b5) → data_at b5 ≡ Ok (message, b6)
    → optional_text text.From b6 ≡ Ok (from, b7) → merges_at b7 ≡ Ok (merges, b8) → changes_at b8 ≡ Ok (changes, b9) → optional blank_if b9 ≡ Ok (Some tt, rest)
    → commit_at reference b0 ≡ Ok (record { reference = reference; mark = mark; original_oid = id; author = author; committer = committer; encoding = encoding; message = message; from = from; merges = merges; changes = changes }, rest)
unfolding commit_at
commit_by_parts reference mark id author committer encoding message from merges changes b0 b1 b2 b3 b4 b5 b6 b7 b8 b9 rest e0 e1 e2 e3 e4 e5 e6 e7 e8 e9 =
    rw (e0, e1, e2, e3, e4, e5, e6, e7, e8, e9) refl

tag_by_parts : (name : List ℕ) (mark : Option (List ℕ)) (from : List ℕ) (id tagger : Option (List ℕ)) (message : List ℕ) (b0 b1 b2 b3 b4 rest : List ℕ)
    → optional mark_if b0 ≡ Ok (mark, b1) → required (text_if text.From) b1 ≡ Ok (from, b2) → optional_text text.OriginalOid b2 ≡ Ok (id, b3)
    → optional_text text.Tagger b3 ≡ Ok (tagger, b4) → data_at b4 ≡ Ok (message, rest)
    → tag_at name b0 ≡ Ok (record { name = name; mark = mark; from = from; original_oid = id; tagger = tagger; message = message }, rest)
unfolding tag_at
tag_by_parts name mark from id tagger message b0 b1 b2 b3 b4 rest e0 e1 e2 e3 e4 = rw (e0, e1, e2, e3, e4) refl

blob_by_parts : (mark id : Option (List ℕ)) (content : List ℕ) (b0 b1 b2 rest : List ℕ)
    → optional mark_if b0 ≡ Ok (mark, b1) → optional_text text.OriginalOid b1 ≡ Ok (id, b2) → data_at b2 ≡ Ok (content, rest)
    → blob_at b0 ≡ Ok (record { mark = mark; original_oid = id; content = content }, rest)
unfolding blob_at
blob_by_parts mark id content b0 b1 b2 rest e0 e1 e2 = rw (e0, e1, e2) refl

reset_by_parts : (reference : List ℕ) (from : Option (List ℕ)) (b0 b1 rest : List ℕ)
    → optional_text text.From b0 ≡ Ok (from, b1) → optional blank_if b1 ≡ Ok (Some tt, rest)
    → reset_at reference b0 ≡ Ok (record { reference = reference; from = from }, rest)
unfolding reset_at
reset_by_parts reference from b0 b1 rest e0 e1 = rw (e0, e1) refl

commit_back : (commit : CommitValue) (rest : List ℕ) → IsWritableCommit commit
    → commit_at commit.reference (optional_item Mark commit.mark ++ (optional_item (Text text.OriginalOid) commit.original_oid ++ (optional_item (Text text.Author) commit.author ++ (item_text (Text text.Committer commit.committer) ++ (optional_item (Text text.Encoding) commit.encoding ++ (data_item_bytes commit.message ++ (optional_item (Text text.From) commit.from ++ (flat_map merge_text commit.merges ++ (flat_map file_change_bytes commit.changes ++ newline ∷ rest)))))))))
    ≡ Ok (commit, rest)
commit_back commit rest can =
    let b9 : List ℕ = newline ∷ rest in
    let b8 : List ℕ = flat_map file_change_bytes commit.changes ++ b9 in
    let b7 : List ℕ = flat_map merge_text commit.merges ++ b8 in
    let b6 : List ℕ = optional_item (Text text.From) commit.from ++ b7 in
    let b5 : List ℕ = data_item_bytes commit.message ++ b6 in
    let b4 : List ℕ = optional_item (Text text.Encoding) commit.encoding ++ b5 in
    let b3 : List ℕ = item_text (Text text.Committer commit.committer) ++ b4 in
    let b2 : List ℕ = optional_item (Text text.Author) commit.author ++ b3 in
    let b1 : List ℕ = optional_item (Text text.OriginalOid) commit.original_oid ++ b2 in
    let b0 : List ℕ = optional_item Mark commit.mark ++ b1 in
    let no_id : Skips (text_if text.OriginalOid) b2 =
    skips_optional (text_if text.OriginalOid) (Text text.Author) commit.author b3 can.author (λ t. refl)
    (skips_item (text_if text.OriginalOid) (Text text.Committer commit.committer) b4 can.committer refl) in
    let no_mark : Skips mark_if b1 =
    skips_optional mark_if (Text text.OriginalOid) commit.original_oid b2 can.original_oid (λ t. refl)
    (skips_optional mark_if (Text text.Author) commit.author b3 can.author (λ t. refl)
    (skips_item mark_if (Text text.Committer commit.committer) b4 can.committer refl)) in
    let no_merge : Skips (text_if text.Merge) b8 =
    skips_changes (text_if text.Merge) commit.changes b9 can.changes (no_text_change text.Merge) (skips_blank (text_if text.Merge) rest refl) in
    let no_from : Skips (text_if text.From) b7 =
    skips_merges (text_if text.From) commit.merges b8 can.merges (λ t. refl)
    (skips_changes (text_if text.From) commit.changes b9 can.changes (no_text_change text.From) (skips_blank (text_if text.From) rest refl)) in
    commit_by_parts commit.reference commit.mark commit.original_oid commit.author commit.committer commit.encoding commit.message commit.from commit.merges commit.changes
    b0 b1 b2 b3 b4 b5 b6 b7 b8 b9 rest
    (line_back mark_if Mark commit.mark b1 can.mark (λ t. refl) no_mark)
    (line_back (text_if text.OriginalOid) (Text text.OriginalOid) commit.original_oid b2 can.original_oid (λ t. refl) no_id)
    (line_back (text_if text.Author) (Text text.Author) commit.author b3 can.author (λ t. refl) (skips_item (text_if text.Author) (Text text.Committer commit.committer) b4 can.committer refl))
    (required_back (text_if text.Committer) (Text text.Committer commit.committer) commit.committer b4 can.committer refl)
    (line_back (text_if text.Encoding) (Text text.Encoding) commit.encoding b5 can.encoding (λ t. refl) (skips_data (text_if text.Encoding) commit.message b6 can.message refl))
    (data_back commit.message b6 can.message)
    (line_back (text_if text.From) (Text text.From) commit.from b7 can.from (λ t. refl) no_from)
    (merges_back commit.merges b8 can.merges no_merge)
    (changes_back commit.changes b9 can.changes (skips_blank change_if rest refl))
    (blank_back rest)

tag_back : (tag : TagValue) (rest : List ℕ) → IsWritableTag tag
    → tag_at tag.name (optional_item Mark tag.mark ++ (item_text (Text text.From tag.from) ++ (optional_item (Text text.OriginalOid) tag.original_oid ++ (optional_item (Text text.Tagger) tag.tagger ++ (data_item_bytes tag.message ++ rest)))))
    ≡ Ok (tag, rest)
tag_back tag rest can =
    let b4 : List ℕ = data_item_bytes tag.message ++ rest in
    let b3 : List ℕ = optional_item (Text text.Tagger) tag.tagger ++ b4 in
    let b2 : List ℕ = optional_item (Text text.OriginalOid) tag.original_oid ++ b3 in
    let b1 : List ℕ = item_text (Text text.From tag.from) ++ b2 in
    let b0 : List ℕ = optional_item Mark tag.mark ++ b1 in
    tag_by_parts tag.name tag.mark tag.from tag.original_oid tag.tagger tag.message b0 b1 b2 b3 b4 rest
    (line_back mark_if Mark tag.mark b1 can.mark (λ t. refl) (skips_item mark_if (Text text.From tag.from) b2 can.from refl))
    (required_back (text_if text.From) (Text text.From tag.from) tag.from b2 can.from refl)
    (line_back (text_if text.OriginalOid) (Text text.OriginalOid) tag.original_oid b3 can.original_oid (λ t. refl)
    (skips_optional (text_if text.OriginalOid) (Text text.Tagger) tag.tagger b4 can.tagger (λ t. refl) (skips_data (text_if text.OriginalOid) tag.message rest can.message refl)))
    (line_back (text_if text.Tagger) (Text text.Tagger) tag.tagger b4 can.tagger (λ t. refl) (skips_data (text_if text.Tagger) tag.message rest can.message refl))
    (data_back tag.message rest can.message)

blob_back : (blob : BlobValue) (rest : List ℕ) → IsWritableBlob blob
    → blob_at (optional_item Mark blob.mark ++ (optional_item (Text text.OriginalOid) blob.original_oid ++ (data_item_bytes blob.content ++ rest)))
    ≡ Ok (blob, rest)
blob_back blob rest can =
    let b2 : List ℕ = data_item_bytes blob.content ++ rest in
    let b1 : List ℕ = optional_item (Text text.OriginalOid) blob.original_oid ++ b2 in
    let b0 : List ℕ = optional_item Mark blob.mark ++ b1 in
    blob_by_parts blob.mark blob.original_oid blob.content b0 b1 b2 rest
    (line_back mark_if Mark blob.mark b1 can.mark (λ t. refl)
    (skips_optional mark_if (Text text.OriginalOid) blob.original_oid b2 can.original_oid (λ t. refl) (skips_data mark_if blob.content rest can.content refl)))
    (line_back (text_if text.OriginalOid) (Text text.OriginalOid) blob.original_oid b2 can.original_oid (λ t. refl) (skips_data (text_if text.OriginalOid) blob.content rest can.content refl))
    (data_back blob.content rest can.content)

reset_back : (reset : ResetValue) (rest : List ℕ) → IsWritableReset reset
    → reset_at reset.reference (optional_item (Text text.From) reset.from ++ newline ∷ rest) ≡ Ok (reset, rest)
reset_back reset rest can =
    let b1 : List ℕ = newline ∷ rest in
    reset_by_parts reset.reference reset.from (optional_item (Text text.From) reset.from ++ b1) b1 rest
    (line_back (text_if text.From) (Text text.From) reset.from b1 can.from (λ t. refl) (skips_blank (text_if text.From) rest refl))
    (blank_back rest)

regroup_blob : (i m o d rest : List ℕ) → (i ++ m ++ o ++ d) ++ rest ≡ i ++ (m ++ (o ++ (d ++ rest)))
regroup_blob i m o d rest = simp append_assoc

regroup_tag : (i m f o t d rest : List ℕ) → (i ++ m ++ f ++ o ++ t ++ d) ++ rest ≡ i ++ (m ++ (f ++ (o ++ (t ++ (d ++ rest)))))
regroup_tag i m f o t d rest = simp append_assoc

regroup_reset : (i f n rest : List ℕ) → (i ++ f ++ n) ++ rest ≡ i ++ (f ++ (n ++ rest))
regroup_reset i f n rest = simp append_assoc

regroup_commit : (i m o a k e d f ms cs n rest : List ℕ)
    → (i ++ (m ++ o ++ a ++ k ++ e ++ d) ++ (f ++ ms ++ cs ++ n)) ++ rest ≡ i ++ (m ++ (o ++ (a ++ (k ++ (e ++ (d ++ (f ++ (ms ++ (cs ++ (n ++ rest))))))))))
regroup_commit i m o a k e d f ms cs n rest = simp append_assoc

-- the command that begins with an item that was written
from_item : (item : ItemValue) (rest : List ℕ) → IsWritable item → command_at (item_text item ++ rest) ≡ command_from item (item_text item ++ rest) rest
unfolding command_at
from_item item rest can = ap (λ (found : ReadResult ItemValue). found >>= λ found. command_from found.0 (item_text item ++ rest) found.1) (first_back item rest can)

short_back : (command : CommandValue) (rest : List ℕ) → short_command command (newline ∷ rest) ≡ Ok (command, rest)
unfolding short_command
short_back command rest = ap (λ (blank : ReadResult (Option (Unit {0}))). blank >>= λ blank. Ok (command, blank.1)) (blank_back rest)

short_item_back : (item : ItemValue) (command : CommandValue) (rest : List ℕ) → IsWritable item
    → ((bytes : List ℕ) → command_from item bytes (newline ∷ rest) ≡ short_command command (newline ∷ rest))
    → command_at ((item_text item ++ newline ∷ []) ++ rest) ≡ Ok (command, rest)
short_item_back item command rest can is =
    ap command_at (append_assoc (item_text item) (newline ∷ []) rest)
    ∙ from_item item (newline ∷ rest) can
    ∙ is (item_text item ++ newline ∷ rest)
    ∙ short_back command rest

pub commands_back : CommandsComeBack
unfolding blob_text commit_text contents_text description_text reset_text tag_text
commands_back (BlobCommand blob) rest can =
    let m : List ℕ = optional_item Mark blob.mark in
    let o : List ℕ = optional_item (Text text.OriginalOid) blob.original_oid in
    let d : List ℕ = data_item_bytes blob.content in
    ap command_at (regroup_blob (item_text (Bare Blob)) m o d rest)
    ∙ from_item (Bare Blob) (m ++ (o ++ (d ++ rest))) tt
    ∙ ap (as_command BlobCommand) (blob_back blob rest can)
commands_back (CommitCommand commit) rest can =
    let m : List ℕ = optional_item Mark commit.mark in
    let o : List ℕ = optional_item (Text text.OriginalOid) commit.original_oid in
    let a : List ℕ = optional_item (Text text.Author) commit.author in
    let k : List ℕ = item_text (Text text.Committer commit.committer) in
    let e : List ℕ = optional_item (Text text.Encoding) commit.encoding in
    let d : List ℕ = data_item_bytes commit.message in
    let f : List ℕ = optional_item (Text text.From) commit.from in
    let ms : List ℕ = flat_map merge_text commit.merges in
    let cs : List ℕ = flat_map file_change_bytes commit.changes in
    let i : ItemValue = Text text.Commit commit.reference in
    ap command_at (regroup_commit (item_text i) m o a k e d f ms cs (newline ∷ []) rest)
    ∙ from_item i (m ++ (o ++ (a ++ (k ++ (e ++ (d ++ (f ++ (ms ++ (cs ++ newline ∷ rest))))))))) can.reference
    ∙ ap (as_command CommitCommand) (commit_back commit rest can)
commands_back (ResetCommand reset) rest can =
    let f : List ℕ = optional_item (Text text.From) reset.from in
    let i : ItemValue = Text text.Reset reset.reference in
    ap command_at (regroup_reset (item_text i) f (newline ∷ []) rest)
    ∙ from_item i (f ++ newline ∷ rest) can.reference
    ∙ ap (as_command ResetCommand) (reset_back reset rest can)
commands_back (TagCommand tag) rest can =
    let m : List ℕ = optional_item Mark tag.mark in
    let f : List ℕ = item_text (Text text.From tag.from) in
    let o : List ℕ = optional_item (Text text.OriginalOid) tag.original_oid in
    let t : List ℕ = optional_item (Text text.Tagger) tag.tagger in
    let d : List ℕ = data_item_bytes tag.message in
    let i : ItemValue = Text text.Tag tag.name in
    ap command_at (regroup_tag (item_text i) m f o t d rest)
    ∙ from_item i (m ++ (f ++ (o ++ (t ++ (d ++ rest))))) can.name
    ∙ ap (as_command TagCommand) (tag_back tag rest can)
commands_back (ProgressCommand line) rest can = short_item_back (Text text.Progress line) (ProgressCommand line) rest can (λ bytes. refl)
commands_back (FeatureCommand line) rest can = from_item (Text text.Feature line) rest can
commands_back (OptionCommand line) rest can = from_item (Text text.Option line) rest can
commands_back CheckpointCommand rest can = short_item_back (Bare Checkpoint) CheckpointCommand rest tt (λ bytes. refl)
commands_back DoneCommand rest can = from_item (Bare Done) rest tt

-- a command is not empty
has_byte : (bytes : List ℕ) (found : CommandValue × List ℕ) → command_at bytes ≡ Ok found → (length bytes == 0) ≡ false
unfolding command_at first_item
has_byte [] found is = absurd cc
has_byte (byte ∷ bytes) found is =
    ⊎_elim (λ zero. absurd (omega (arith, eqb-true (length (byte ∷ bytes)) 0 zero))) (λ other. other) (cases_Bool (length (byte ∷ bytes) == 0))

next_back : (command : CommandValue) (rest : List ℕ) → IsWritableInside command → next_command (stream_command_bytes command ++ rest) ≡ Ok (Some command, rest)
unfolding next_command
next_back command rest can =
    let bytes : List ℕ = stream_command_bytes command ++ rest in
    let back : command_at bytes ≡ Ok (command, rest) = commands_back command rest can.0 in
    cond-false (length bytes == 0) _ _ (has_byte bytes (command, rest) back)
    ∙ ap (λ (found : ReadResult CommandValue). found >>= λ found. Ok (unless_done found.0, found.1)) back
    ∙ ap (λ (o : Option CommandValue). Ok (o, rest)) can.1

command_has_byte : (command : CommandValue) → IsWritableInside command → 1 ≤ length (stream_command_bytes command)
command_has_byte command can =
    let back : command_at (stream_command_bytes command) ≡ Ok (command, []) =
    ap command_at (sym (append-nil (stream_command_bytes command))) ∙ commands_back command [] can.0 in
    omega (arith, eqb-false (length (stream_command_bytes command)) 0 (has_byte (stream_command_bytes command) (command, []) back))

enough_commands : (commands : List CommandValue) → AllByRecursion IsWritableInside commands → length commands ≤ length (stream_text commands)
enough_commands [] can = omega arith
enough_commands (command ∷ commands) can =
    omega (arith, command_has_byte command can.0, enough_commands commands can.1, length-append (stream_command_bytes command) (stream_text commands))

pub streams_back : StreamsComeBack
unfolding stream_at next_command
streams_back commands can =
    let whole : stream_text commands ++ [] ≡ stream_text commands = append-nil (stream_text commands) in
    ap (many next_command (length (stream_text commands))) (sym whole)
    ∙ many_back next_command stream_command_bytes IsWritableInside next_back commands [] (length (stream_text commands)) can (enough_commands commands can) refl
