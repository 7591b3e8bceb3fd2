-- What stands written of several files is valid UTF-8 at each time.
use Rattle.std.proofs.Common.{◌≡◌, ap, sym, refl, subst, arith, ◌⊎◌, inl, inr, ℕ, zero, suc, List, [], ◌∷◌, ◌++◌, true, Option, Some, None}
use Rattle.std.specs.Prelude.{IsUtf8}
use Rattle.std.proofs.lemmas.Str.{IsUtf8-nil}
use Rattle.dcm_base.specs.declared.dictionary.Dictionary.{Dictionary}
use Rattle.dcm_base.specs.declared.mode.Mode.{Mode}
use Rattle.dcm_base.specs.declared.syntax.Syntax.{Syntax}
use Rattle.dcm_base.specs.declared.tag.Tag.{Tag}
use Rattle.dcm_base.specs.Tables.Number.{AreBytes}
use Rattle.dcm_files.specs.declared.memory.MemSystem.{MemSystem}
use Rattle.dcm_names.specs.Names.{names_of}
use Rattle.dcm_table.specs.declared.quoted.TextForm.{TextForm}
use Rattle.dcm_table.specs.Laws.{is_valid_form}
use Rattle.dcm_table.specs.Parts.{Part, SpellsParts}
use Rattle.dcm_table_words.specs.Table as words
use Rattle.dcm_words.specs.Words.{Job, dump_decoded}
use Rattle.dcm_cli.specs.Answer.{Sure}
use Rattle.dcm_each.specs.Each.{listed_path}
use Rattle.dcm_each.specs.InMemory.{file_of}
use Rattle.dcm_dumps.specs.Dumps.{next_number}
use Rattle.dcm_dumps.specs.DumpsInMemory as dumps
use Rattle.dcm_dumps.specs.DumpsInMemory.{Place, Showing, Texts, at_first, showing}
use Rattle.dcm_tables.specs.TableInMemory as tables
use Rattle.dcm_tables.specs.TableInMemory.{Rows, tags_of}
use Rattle.dcm_tables.specs.TableProgram.{form_of}
use Rattle.dcm_text_laws.specs.Laws.{DumpsEndStands, DumpsSoFarAreUtf8, HoldsBytes, TableEndStands, TableSoFarIsUtf8}
use Rattle.dcm_text_laws.specs.Standing.{AllRowsStand, AllStand, FileStands, ListRowsStand, ListStands, ListedRowStands, ListedStands, NameRowsStand, NameStands, RowStands, so_far, unopened, whole}
use Rattle.dcm_text_laws.proofs.Dumps as of_dumps
use Rattle.dcm_text_laws.proofs.Dumps.{heading_utf8}
use Rattle.dcm_text_laws.proofs.Lines.{both}
use Rattle.dcm_text_laws.proofs.Names.{IsOpened, file_opened, listed_opened, shown_utf8}
use Rattle.dcm_text_laws.proofs.Runs.{sure_utf8}
use Rattle.dcm_text_laws.proofs.Tables as of_tables
use Rattle.dcm_text_laws.proofs.Tables.{LowColumn, ValidRows, header_utf8, split, table_low}

-- ---- dumps

abbrev Valid : {X : Type 0} → (Place → X → List ℕ → Place → Type 0) → Type 0
Valid {X} Stands = (from : Place) (x : X) (text : List ℕ) (to : Place) → Stands from x text to → IsUtf8 text

all_valid : {X : Type 0} (Stands : Place → X → List ℕ → Place → Type 0) → Valid Stands → (from : Place) (xs : List X) (text : List ℕ) (to : Place) → AllStand Stands from xs text to → IsUtf8 text
all_valid Stands each from [] text to y = subst IsUtf8 (sym y.0) IsUtf8-nil
all_valid Stands each from (x ∷ xs) text to (inl y) = subst IsUtf8 (sym y.0) IsUtf8-nil
all_valid Stands each from (x ∷ xs) text to (inr (mid, first, later, one, more, is)) = subst IsUtf8 (sym is) (both (each from x first mid one) (all_valid Stands each mid xs later to more))

-- bytes of a beginning
front_bytes : (front rest : List ℕ) → AreBytes (front ++ rest) → AreBytes front
front_bytes [] rest h i = omega arith
front_bytes (b ∷ front) rest h zero = h zero
front_bytes (b ∷ front) rest h (suc i) = front_bytes front rest (λ j. h (suc j)) i

module _ (s : MemSystem) (h : HoldsBytes s) (shown : Showing) (d : Dictionary) (mode : Mode) (bare : Option Syntax) (is_job : shown.job ≡ dump_decoded d mode bare) where
  out_valid : (front out : List ℕ) → AreBytes front → (out ≡ []) ⊎ Sure shown.job front out → IsUtf8 out
  out_valid front out are (inl none) = subst IsUtf8 (sym none) IsUtf8-nil
  out_valid front out are (inr sure) = sure_utf8 d mode bare front out are (subst (λ (job : Job). Sure job front out) is_job sure)

  file_valid : (from : Place) (name : List ℕ) (held : Option (List ℕ)) (text : List ℕ) (to : Place) → ((bytes : List ℕ) → held ≡ Some bytes → IsOpened name bytes) → FileStands shown from name held text to → IsUtf8 text
  file_valid from name held text to opens (whole t comes is) = subst IsUtf8 (sym is) (of_dumps.file_valid s h shown d mode bare is_job from name held t to opens comes)
  file_valid from name held text to opens (so_far bytes front rest out held_is cut stands is place) =
      let o = opens bytes held_is in
      let are : AreBytes front = front_bytes front rest (subst AreBytes cut o.are) in
      subst IsUtf8 (sym is) (both (heading_utf8 from.is_first (next_number from.number) shown.total name (shown_utf8 name o.named o.short)) (out_valid front out are stands))
  file_valid from name held text to opens (unopened none place) = subst IsUtf8 (sym none) IsUtf8-nil

  listed_valid : Valid (ListedStands s shown)
  listed_valid from name text to = file_valid from name (file_of s name (listed_path name)) text to (λ bytes e. listed_opened s name bytes h e)

  list_valid : (from : Place) (held : Option (List ℕ)) (text : List ℕ) (to : Place) → ListStands s shown from held text to → IsUtf8 text
  list_valid from None text to y = subst IsUtf8 (sym y.0) IsUtf8-nil
  list_valid from (Some bytes) text to y = all_valid (ListedStands s shown) listed_valid from (names_of bytes true) text to y

  name_valid : Valid (NameStands s shown)
  name_valid from (words.file path) text to = file_valid from path (file_of s path path) text to (λ bytes e. file_opened s path bytes h e)
  name_valid from (words.list path) text to = list_valid from (file_of s path path) text to

pub dumps_so_far : DumpsSoFarAreUtf8
dumps_so_far ws s asked d mode bare text h meant is_job (last, stand) =
    all_valid (NameStands s (showing asked)) (name_valid s h (showing asked) d mode bare is_job) at_first asked.names text last stand

-- ---- the end of dumps

abbrev Ends : {X : Type 0} → (Place → X → Texts → Place → Type 0) → (Place → X → List ℕ → Place → Type 0) → Type 0
Ends {X} Comes Stands = (from : Place) (x : X) (t : Texts) (to : Place) → Comes from x t to → Stands from x t.text to

all_end : {X : Type 0} (Comes : Place → X → Texts → Place → Type 0) (Stands : Place → X → List ℕ → Place → Type 0) → Ends Comes Stands
    → (from : Place) (xs : List X) (t : Texts) (to : Place) → dumps.AllCome Comes from xs t to → AllStand Stands from xs t.text to
all_end Comes Stands each from [] t to y = (ap (λ (u : Texts). u.text) y.0, y.1)
all_end Comes Stands each from (x ∷ xs) t to (mid, first, later, one, more, is) =
    inr (mid, first.text, later.text, each from x first mid one, all_end Comes Stands each mid xs later to more, ap (λ (u : Texts). u.text) is)

module _ (s : MemSystem) (h : Showing) where
  listed_end : Ends (dumps.ListedComes s h) (ListedStands s h)
  listed_end from name t to y = whole t y refl

  list_end : (from : Place) (path : List ℕ) (held : Option (List ℕ)) (t : Texts) (to : Place) → dumps.ListComes s h from path held t to → ListStands s h from held t.text to
  list_end from path None t to y = (ap (λ (u : Texts). u.text) y.0, y.1)
  list_end from path (Some bytes) t to y = all_end (dumps.ListedComes s h) (ListedStands s h) listed_end from (names_of bytes true) t to y

  name_end : Ends (dumps.NameComes s h) (NameStands s h)
  name_end from (words.file path) t to y = whole t y refl
  name_end from (words.list path) t to y = list_end from path (file_of s path path) t to y

pub dumps_end : DumpsEndStands
dumps_end s asked t (last, come) = (last, all_end (dumps.NameComes s (showing asked)) (NameStands s (showing asked)) (name_end s (showing asked)) at_first asked.names t last come)

-- ---- tables

abbrev ValidParts : List Part → Type 0
ValidParts parts = (text : List ℕ) → SpellsParts parts text → IsUtf8 text

no_parts : (parts : List Part) → parts ≡ [] → ValidParts parts
no_parts parts e text h = subst IsUtf8 (sym (subst (λ (ps : List Part). SpellsParts ps text) e h)) IsUtf8-nil

both_parts : (first later parts : List Part) → parts ≡ first ++ later → ValidParts first → ValidParts later → ValidParts parts
both_parts first later parts e f g text h =
    let q = split first later text (subst (λ (ps : List Part). SpellsParts ps text) e h) in
    subst IsUtf8 (sym q.2) (both (f q.0 q.3) (g q.1 q.4))

rows_valid : {X : Type 0} (Stands : X → List Part → Type 0) → ((x : X) (parts : List Part) → Stands x parts → ValidParts parts) → (xs : List X) (parts : List Part) → AllRowsStand Stands xs parts → ValidParts parts
rows_valid Stands each [] parts e = no_parts parts e
rows_valid Stands each (x ∷ xs) parts (first, later, one, more, is) = both_parts first later parts is (each x first one) (rows_valid Stands each xs later more)

module _ (s : MemSystem) (h : HoldsBytes s) (columns : List Tag) (form : TextForm) (valid : is_valid_form form ≡ true) where
  row_valid : (name : List ℕ) (held : Option (List ℕ)) (parts : List Part) → ((bytes : List ℕ) → held ≡ Some bytes → IsOpened name bytes) → RowStands columns form name held parts → ValidParts parts
  row_valid name held parts opens (inl none) = no_parts parts none
  row_valid name held parts opens (inr (rows, comes, is)) = subst ValidParts (sym is) (of_tables.file_valid s h columns form valid name held rows opens comes)

  listed_row_valid : (name : List ℕ) (parts : List Part) → ListedRowStands s columns form name parts → ValidParts parts
  listed_row_valid name parts = row_valid name (file_of s name (listed_path name)) parts (λ bytes e. listed_opened s name bytes h e)

  list_rows_valid : (held : Option (List ℕ)) (parts : List Part) → ListRowsStand s columns form held parts → ValidParts parts
  list_rows_valid None parts e = no_parts parts e
  list_rows_valid (Some bytes) parts y = rows_valid (ListedRowStands s columns form) listed_row_valid (names_of bytes true) parts y

  name_rows_valid : (name : words.Name) (parts : List Part) → NameRowsStand s columns form name parts → ValidParts parts
  name_rows_valid (words.file path) parts = row_valid path (file_of s path path) parts (λ bytes e. file_opened s path bytes h e)
  name_rows_valid (words.list path) parts = list_rows_valid (file_of s path path) parts

pub table_so_far : TableSoFarIsUtf8
table_so_far ws s t parts text h meant valid (rows, stand, is) spelled =
    let (first, rest, cut, one, more) = subst (λ (ps : List Part). SpellsParts ps text) is spelled in
    subst IsUtf8 (sym cut)
    (both (subst IsUtf8 (sym one) (header_utf8 t.has_header t.columns (table_low ws t meant)))
    (rows_valid (NameRowsStand s (tags_of t) (form_of t.texts)) (name_rows_valid s h (tags_of t) (form_of t.texts) valid) t.names rows stand rest more))

-- ---- the end of tables

all_rows_end : {X : Type 0} (Comes : X → Rows → Type 0) (Stands : X → List Part → Type 0) → ((x : X) (rows : Rows) → Comes x rows → Stands x rows.parts)
    → (xs : List X) (rows : Rows) → tables.AllCome Comes xs rows → AllRowsStand Stands xs rows.parts
all_rows_end Comes Stands each [] rows y = ap (λ (r : Rows). r.parts) y
all_rows_end Comes Stands each (x ∷ xs) rows (first, later, one, more, is) =
    (first.parts, later.parts, each x first one, all_rows_end Comes Stands each xs later more, ap (λ (r : Rows). r.parts) is)

module _ (s : MemSystem) (columns : List Tag) (form : TextForm) where
  listed_row_end : (name : List ℕ) (rows : Rows) → tables.ListedComes s columns form name rows → ListedRowStands s columns form name rows.parts
  listed_row_end name rows y = inr (rows, y, refl)

  list_rows_end : (path : List ℕ) (held : Option (List ℕ)) (rows : Rows) → tables.ListComes s columns form path held rows → ListRowsStand s columns form held rows.parts
  list_rows_end path None rows y = ap (λ (r : Rows). r.parts) y
  list_rows_end path (Some bytes) rows y = all_rows_end (tables.ListedComes s columns form) (ListedRowStands s columns form) listed_row_end (names_of bytes true) rows y

  name_rows_end : (name : words.Name) (rows : Rows) → tables.NameComes s columns form name rows → NameRowsStand s columns form name rows.parts
  name_rows_end (words.file path) rows y = inr (rows, y, refl)
  name_rows_end (words.list path) rows y = list_rows_end path (file_of s path path) rows y

pub table_end : TableEndStands
table_end s t rows come =
    (rows.parts, all_rows_end (tables.NameComes s (tags_of t) (form_of t.texts)) (NameRowsStand s (tags_of t) (form_of t.texts)) (name_rows_end s (tags_of t) (form_of t.texts)) t.names rows come, refl)
