-- A table is valid UTF-8: its header, and the rows of all files.
use Rattle.std.proofs.Common.{◌≡◌, ◌∙◌, ap, sym, refl, subst, ℕ, zero, suc, ◌+◌, ◌*◌, List, [], ◌∷◌, ◌++◌, append_assoc, length, take, drop, map, flat_map, All, Bool, true, false, Option, Some, None, Result, Ok, Err, arith, drop-drop}
use Rattle.std.specs.Prelude.{nat_lt, nat_le, ◌==◌, ◌&&◌, if◌then◌else◌, codes, bytes_eq, filter_map, option_map, not, IsUtf8}
use Rattle.std.specs.Char.{digit_value}
use Rattle.std.specs.List.{list_all, list_any}
use Rattle.std.specs.Str.{byte}
use Rattle.std.proofs.lemmas.Bool.Decides.{nat_tests}
use Rattle.std.proofs.lemmas.List.Elements.{All-nil, All-cons, All-head, All-tail}
use Rattle.std.proofs.lemmas.Str.{IsUtf8-nil}
use Rattle.dcm_lemmas.proofs.Lists.{bytes_same}
use Rattle.dcm_lemmas.proofs.Options.{some_is}
use Rattle.dcm_lemmas.proofs.Truth.{and_both, and_parts}
use Rattle.dcm_base.specs.declared.tag.Tag.{Tag}
use Rattle.dcm_base.specs.declared.vr.Vr.{Vr}
use Rattle.dcm_base.specs.declared.dictionary.Dictionary.TheVariants.{Standard}
use Rattle.dcm_base.specs.declared.fault.EditRefusal.{EditRefusal}
use Rattle.dcm_base.specs.declared.fault.EditRefusal.TheVariants.{BadOption, UnknownTag}
use Rattle.dcm_base.specs.declared.fault.WordFault.TheVariants.{UnknownTool}
use Rattle.dcm_base.specs.Lines.ReadValue.{digit, number_in, hex_number, tag_of_text}
use Rattle.dcm_base.specs.Tables.Dictionary.{keyword_in, known_vr_in}
use Rattle.dcm_base.proofs.DumpsBack.DigitNumbers.{bind_some, if_some}
use Rattle.dcm_files.specs.declared.memory.MemSystem.{MemSystem}
use Rattle.dcm_names.specs.Names.{names_of}
use Rattle.dcm_value.proofs.Displays.DecodedAsBefore.{low}
use Rattle.dcm_table.specs.declared.quoted.TextForm.{TextForm}
use Rattle.dcm_table.specs.Columns.{header_by, header_known, header_of}
use Rattle.dcm_table.specs.Laws.{is_valid_form}
use Rattle.dcm_table.specs.Parts.{Part, some_bytes, SpellsParts}
use Rattle.dcm_table.specs.Row.{comma, newline, header_cell}
use Rattle.dcm_table.proofs.ValidTexts.{quoted_valid}
use Rattle.dcm_table_words.specs.declared.usage.TableUsage.{TableUsage}
use Rattle.dcm_table_words.specs.declared.usage.TableUsage.TheVariants.{InColumn, NumberOfColumns, AtWord}
use Rattle.dcm_edits.specs.EditWords.{or_refuse}
use Rattle.dcm_edits.specs.TagWords.{tag_called, tag_named}
use Rattle.dcm_table_words.specs.declared.saying.Tool.TheVariants.{Table as a_table}
use Rattle.dcm_table_words.specs.Table as words
use Rattle.dcm_each.specs.Each.{listed_path}
use Rattle.dcm_each.specs.InMemory.{file_of}
use Rattle.dcm_tables.specs.Table.{header_bytes}
use Rattle.dcm_tables.specs.TableInMemory.{Rows, no_rows, and_rows, AllCome, FileComes, ListedComes, ListComes, NameComes, TableOutcome, TableComesBy, tags_of}
use Rattle.dcm_tables.specs.TableProgram.{column_of, form_of}
use Rattle.dcm_tables.proofs.RowBytes.{rows_valid}
use Rattle.dcm_text_laws.specs.Laws.{HoldsBytes, TableIsUtf8}
use Rattle.dcm_text_laws.proofs.Keywords.{keyword_low}
use Rattle.dcm_text_laws.proofs.Lines.{both}
use Rattle.dcm_text_laws.proofs.Names.{IsOpened, file_opened, listed_opened, text_bytes}
use Rattle.dcm_value.proofs.Displays.DecodedUtf8.{low_utf8}

-- ---- rows

-- each text of the rows is valid
abbrev pub ValidRows : Rows → Type 0
ValidRows rows = (text : List ℕ) → SpellsParts rows.parts text → IsUtf8 text

-- what spells parts and others spells these and then those
pub split : (ps qs : List Part) (text : List ℕ) → SpellsParts (ps ++ qs) text
    → (a b : List ℕ) × (text ≡ a ++ b) × SpellsParts ps a × SpellsParts qs b
split [] qs text h = ([], text, refl, refl, h)
split (p ∷ ps) qs text (first, rest, is, one, more) =
    let q = split ps qs rest more in
    (first ++ q.0, q.1, is ∙ ap (λ (x : List ℕ). first ++ x) q.2 ∙ sym (append_assoc first q.0 q.1), (first, q.0, refl, one, q.3), q.4)

no_text : (rows : Rows) → rows.parts ≡ [] → ValidRows rows
no_text rows e text h = subst IsUtf8 (sym (subst (λ (ps : List Part). SpellsParts ps text) e h)) IsUtf8-nil

pub none_valid : (rows : Rows) → rows ≡ no_rows → ValidRows rows
none_valid rows e = no_text rows (ap (λ (r : Rows). r.parts) e)

and_valid : (first later rows : Rows) → rows ≡ and_rows first later → ValidRows first → ValidRows later → ValidRows rows
and_valid first later rows e f g = subst ValidRows (sym e)
    (λ text h. let q = split first.parts later.parts text h in subst IsUtf8 (sym q.2) (both (f q.0 q.3) (g q.1 q.4)))

all_valid : {X : Type 0} (Comes : X → Rows → Type 0) → ((x : X) (rows : Rows) → Comes x rows → ValidRows rows) → (xs : List X) (rows : Rows) → AllCome Comes xs rows → ValidRows rows
all_valid Comes each [] rows e = none_valid rows e
all_valid Comes each (x ∷ xs) rows (first, later, one, more, is) = and_valid first later rows is (each x first one) (all_valid Comes each xs later more)

module _ (s : MemSystem) (h : HoldsBytes s) (columns : List Tag) (form : TextForm) (valid : is_valid_form form ≡ true) where
  pub file_valid : (name : List ℕ) (o : Option (List ℕ)) (rows : Rows) → ((bytes : List ℕ) → o ≡ Some bytes → IsOpened name bytes) → FileComes columns form name o rows → ValidRows rows
  file_valid name None rows f e = no_text rows (ap (λ (r : Rows). r.parts) e)
  file_valid name (Some bytes) rows f (cells, end, row, e) =
      let is = f bytes refl in
      subst ValidRows (sym e) (λ text spelled. rows_valid columns form name bytes cells end text valid (text_bytes name is.named) is.are row spelled)

  listed_valid : (name : List ℕ) (rows : Rows) → ListedComes s columns form name rows → ValidRows rows
  listed_valid name rows = file_valid name (file_of s name (listed_path name)) rows (λ bytes e. listed_opened s name bytes h e)

  list_valid : (path : List ℕ) (o : Option (List ℕ)) (rows : Rows) → ListComes s columns form path o rows → ValidRows rows
  list_valid path None rows e = no_text rows (ap (λ (r : Rows). r.parts) e)
  list_valid path (Some bytes) rows y = all_valid (ListedComes s columns form) listed_valid (names_of bytes true) rows y

  name_valid : (name : words.Name) (rows : Rows) → NameComes s columns form name rows → ValidRows rows
  name_valid (words.file path) rows = file_valid path (file_of s path path) rows (λ bytes e. file_opened s path bytes h e)
  name_valid (words.list path) rows = list_valid path (file_of s path path) rows

-- ---- numbers of columns

digit_low : (c d : ℕ) → digit 16 c ≡ Some d → low c ≡ true
digit_low c d p =
    let q = if_some (nat_lt (digit_value c) 16) (Some (digit_value c)) d p in
    below c q.0
  where
    below : (c : ℕ) → nat_lt (digit_value c) 16 ≡ true → nat_lt c 128 ≡ true
    below c e = grind (arith, nat_tests)

number_low : (so_far : ℕ) (cs : List ℕ) (n : ℕ) → number_in 16 so_far cs ≡ Some n → list_all low cs ≡ true
number_low so_far [] n p = refl
number_low so_far (c ∷ cs) n p =
    let w = bind_some (digit 16 c) _ n p in
    and_both (low c) (list_all low cs) (digit_low c w.0 w.1) (number_low (so_far * 16 + w.0) cs n w.2)

hex_low : (cs : List ℕ) (n : ℕ) → hex_number 4 cs ≡ Some n → list_all low cs ≡ true
hex_low cs n p = number_low 0 cs n (if_some (length cs == 4) (number_in 16 0 cs) n p).1

all_cut : (n : ℕ) (cs : List ℕ) → list_all low (take n cs) ≡ true → list_all low (drop n cs) ≡ true → list_all low cs ≡ true
all_cut zero cs e f = f
all_cut (suc n) [] e f = refl
all_cut (suc n) (c ∷ cs) e f =
    let w = and_parts (low c) (list_all low (take n cs)) e in
    and_both (low c) (list_all low cs) w.0 (all_cut n cs w.1 f)

same_low : (cs sign : List ℕ) → bytes_eq cs sign ≡ true → list_all low sign ≡ true → list_all low cs ≡ true
same_low cs sign e f = subst (λ (x : List ℕ). list_all low x ≡ true) (sym (bytes_same cs sign e)) f

four_true : (a b c d : Bool) → (a && b && c && d) ≡ true → (b ≡ true) × (c ≡ true) × (d ≡ true)
four_true true true true true e = (refl, refl, refl)
four_true true true true false e = cc
four_true true true false d e = cc
four_true true false c d e = cc
four_true false b c d e = cc

-- the number of a tag is ASCII
tag_low : (w : List ℕ) (t : Tag) → tag_of_text w ≡ Some t → list_all low w ≡ true
tag_low w t p =
    let q = if_some _ _ t p in
    let signs = four_true (length w == 11) (bytes_eq (take 1 w) (codes "(")) (bytes_eq (take 1 (drop 5 w)) (codes ",")) (bytes_eq (drop 10 w) (codes ")")) q.0 in
    let g = bind_some (hex_number 4 (take 4 (drop 1 w))) _ t q.1 in
    let e = bind_some (hex_number 4 (take 4 (drop 6 w))) _ t g.2 in
    let last : list_all low (drop 10 w) ≡ true = same_low (drop 10 w) (codes ")") signs.2 refl in
    let element : list_all low (drop 6 w) ≡ true = all_cut 4 (drop 6 w) (hex_low (take 4 (drop 6 w)) e.0 e.1) (subst (λ (x : List ℕ). list_all low x ≡ true) (sym (drop-drop 4 6 w)) last) in
    let sign : list_all low (drop 5 w) ≡ true = all_cut 1 (drop 5 w) (same_low (take 1 (drop 5 w)) (codes ",") signs.1 refl) (subst (λ (x : List ℕ). list_all low x ≡ true) (sym (drop-drop 1 5 w)) element) in
    let group : list_all low (drop 1 w) ≡ true = all_cut 4 (drop 1 w) (hex_low (take 4 (drop 1 w)) g.0 g.1) (subst (λ (x : List ℕ). list_all low x ≡ true) (sym (drop-drop 4 1 w)) sign) in
    all_cut 1 w (same_low (take 1 w) (codes "(") signs.0 refl) group

-- ---- columns that words give

abbrev pub LowNumber : Option (List ℕ) → Type 0
LowNumber None = Unit {0}
LowNumber (Some number) = list_all low number ≡ true

abbrev pub LowColumn : words.Column → Type 0
LowColumn c = LowNumber c.number

ok_is : {A E : Type 0} (x y : A) → (let r : Result A E = Ok x in r ≡ Ok y) → x ≡ y
ok_is x y e = cc

named_is : (refusal : EditRefusal) (o : Option Tag) (t : Tag) → or_refuse refusal o ≡ Ok t → o ≡ Some t
named_is refusal None t e = absurd cc
named_is refusal (Some u) t e = ap Some (ok_is u t e)

named_low : (w : List ℕ) (t : Tag) → tag_named w ≡ Ok t → LowNumber (words.number_of w)
named_low [] t e = absurd cc
named_low (b ∷ w) t e = by (b == byte "(") e
  where
    by : (c : Bool) → (if c then or_refuse BadOption (tag_of_text (b ∷ w)) else or_refuse UnknownTag (tag_called (b ∷ w))) ≡ Ok t
        → LowNumber (if c then Some (b ∷ w) else None)
    by true e = tag_low (b ∷ w) t (named_is BadOption (tag_of_text (b ∷ w)) t e)
    by false e = tt

column_low : (w : List ℕ) (c : words.Column) → words.column_of w ≡ Ok c → LowColumn c
column_low w c e = by (tag_named w) refl e
  where
    by : (r : Result Tag EditRefusal) → tag_named w ≡ r
        → (let column : Result words.Column EditRefusal = elim r [ Ok tag ↦ Ok (record { tag = tag; number = words.number_of w }) | Err refusal ↦ Err refusal ] in column ≡ Ok c)
        → LowColumn c
    by (Ok t) is e = subst LowColumn (ok_is _ c e) (named_low w t is)
    by (Err refusal) is e = absurd cc

one_more : (n : ℕ) (r : Result words.Column EditRefusal) (q : Result (List words.Column) TableUsage) (cs : List words.Column)
    → ((c : words.Column) → r ≡ Ok c → LowColumn c) → ((others : List words.Column) → q ≡ Ok others → All LowColumn others)
    → (let all : Result (List words.Column) TableUsage = elim r [ Err refusal ↦ Err (InColumn refusal (n + 1)) | Ok c ↦ elim q [ Ok cs ↦ Ok (c ∷ cs) | Err u ↦ Err u ] ] in all ≡ Ok cs)
    → All LowColumn cs
one_more n (Err x) q cs f g e = absurd cc
one_more n (Ok c) (Err u) cs f g e = absurd cc
one_more n (Ok c) (Ok others) cs f g e = subst (All LowColumn) (ok_is _ cs e) (All-cons LowColumn c others (f c refl) (g others refl))

columns_low : (n : ℕ) (ws : List (List ℕ)) (cs : List words.Column) → words.columns_after n ws ≡ Ok cs → All LowColumn cs
columns_low n [] cs e = subst (All LowColumn) (ok_is [] cs e) (All-nil LowColumn)
columns_low n (w ∷ ws) cs e =
    one_more n (words.column_of w) (words.columns_after (n + 1) ws) cs (column_low w) (λ others p. columns_low (n + 1) ws others p) e

-- ---- the columns of the table that words mean

within_stay : (cs out : List words.Column) → words.within_limit cs ≡ Ok out → cs ≡ out
within_stay cs out e = by (nat_le 1 (length cs) && nat_le (length cs) words.COLUMN_LIMIT) e
  where
    by : (t : Bool) → (if t then Ok cs else Err NumberOfColumns) ≡ Ok out → cs ≡ out
    by true e = ok_is cs out e
    by false e = cc

meant_low : (said : List words.Saying) (cs : List words.Column) → words.columns_meant said ≡ Ok cs → All LowColumn cs
meant_low said cs e = by (words.columns_after 0 (filter_map words.column_said said)) refl e
  where
    by : (r : Result (List words.Column) TableUsage) → words.columns_after 0 (filter_map words.column_said said) ≡ r
        → (let within : Result (List words.Column) TableUsage = elim r [ Ok cs ↦ words.within_limit cs | Err u ↦ Err u ] in within ≡ Ok cs) → All LowColumn cs
    by (Ok read) p e = subst (All LowColumn) (within_stay read cs e) (columns_low 0 (filter_map words.column_said said) read p)
    by (Err u) p e = absurd cc

named_columns : (said : List words.Saying) (columns : List words.Column) (t : words.Table) (r : Result (List words.Name) TableUsage)
    → (let named : Result words.Table TableUsage = elim r [
      | Err u ↦ Err u
      | Ok names ↦ Ok (record {
        columns = columns;
        has_header = not (list_any words.is_no_header said);
        texts = words.texts_said said;
        names = names;
      })
    ] in named ≡ Ok t) → columns ≡ t.columns
named_columns said columns t (Err u) e = cc
named_columns said columns t (Ok names) e = ap (λ (t : words.Table). t.columns) (ok_is _ t e)

said_columns : (said : List words.Saying) (t : words.Table) → words.table_said said ≡ Ok t → words.columns_meant said ≡ Ok t.columns
said_columns said t e = by (words.refused 2 said) (words.columns_meant said) e
  where
    by : (u : Option TableUsage) (r : Result (List words.Column) TableUsage)
        → (let table : Result words.Table TableUsage = elim u [ Some u ↦ Err u | None ↦ elim r [ Ok columns ↦ words.table_with said columns | Err u ↦ Err u ] ] in table ≡ Ok t) → r ≡ Ok t.columns
    by (Some u) r e = cc
    by None (Err u) e = cc
    by None (Ok columns) e = ap Ok (named_columns said columns t (words.names_meant (words.names_in said)) e)

pub table_low : (ws : List (List ℕ)) (t : words.Table) → words.meant_table ws ≡ Ok t → All LowColumn t.columns
unfolding words.meant_table
table_low [] t e = absurd cc
table_low (tool ∷ ws) t e = by (bytes_eq tool (codes "dcm2csv")) e
  where
    by : (b : Bool) → (if b then words.table_said (words.sayings a_table ws) else Err (AtWord UnknownTool 1)) ≡ Ok t → All LowColumn t.columns
    by true e = meant_low (words.sayings a_table ws) t.columns (said_columns (words.sayings a_table ws) t e)
    by false e = absurd cc

-- ---- the header

keyword_utf8 : (tag : Tag) → IsUtf8 (keyword_in Standard tag)
keyword_utf8 tag = low_utf8 (keyword_in Standard tag) (keyword_low Standard tag)

known_utf8 : (tag : Tag) (number : List ℕ) (o : Option Vr) → list_all low number ≡ true → IsUtf8 (header_by (header_known o number) tag)
known_utf8 tag number (Some vr) h = keyword_utf8 tag
known_utf8 tag number None h = low_utf8 number h

column_utf8 : (tag : Tag) (o : Option (List ℕ)) → LowNumber o → IsUtf8 (header_of (column_of (record { tag = tag; number = o })))
column_utf8 tag None h = keyword_utf8 tag
column_utf8 tag (Some number) h = known_utf8 tag number (known_vr_in Standard tag) h

columns_utf8 : (cs : List words.Column) → All LowColumn cs → IsUtf8 (flat_map header_cell (map column_of cs))
columns_utf8 [] h = IsUtf8-nil
columns_utf8 (c ∷ cs) h =
    both (both (low_utf8 comma refl) (quoted_valid (header_of (column_of c)) (column_utf8 c.tag c.number (All-head LowColumn c cs h))))
    (columns_utf8 cs (All-tail LowColumn c cs h))

pub header_utf8 : (has_header : Bool) (cs : List words.Column) → All LowColumn cs → IsUtf8 (header_bytes has_header (map column_of cs))
header_utf8 false cs h = IsUtf8-nil
header_utf8 true cs h = both (quoted_valid (codes "File") (low_utf8 (codes "File") refl)) (both (columns_utf8 cs h) (low_utf8 newline refl))

-- ---- tables

outcome_utf8 : (s : MemSystem) (t : words.Table) (o : TableOutcome) (parts : List Part) (text : List ℕ) → HoldsBytes s → is_valid_form (form_of t.texts) ≡ true
    → All LowColumn t.columns → TableComesBy s (Ok t) o → o.parts ≡ Some parts → SpellsParts parts text → IsUtf8 text
outcome_utf8 s t o parts text h valid named (rows, come, e) is spelled =
    let same : some_bytes (header_bytes t.has_header (map column_of t.columns)) ∷ rows.parts ≡ parts = some_is _ _ (sym (ap (λ (o : TableOutcome). o.parts) e) ∙ is) in
    let (first, rest, whole, one, more) = subst (λ (ps : List Part). SpellsParts ps text) (sym same) spelled in
    subst IsUtf8 (sym whole)
    (both (subst IsUtf8 (sym one) (header_utf8 t.has_header t.columns named))
    (all_valid (NameComes s (tags_of t) (form_of t.texts)) (name_valid s h (tags_of t) (form_of t.texts) valid) t.names rows come rest more))

pub table_utf8 : TableIsUtf8
table_utf8 ws s t o parts text h meant valid comes is spelled =
    outcome_utf8 s t o parts text h valid (table_low ws t meant) (subst (λ (r : Result words.Table TableUsage). TableComesBy s r o) meant comes) is spelled
