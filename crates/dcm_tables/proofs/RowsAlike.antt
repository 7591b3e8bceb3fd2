-- Rows one after another: what names come to is one, and there is always one.
use Rattle.std.proofs.Common.{◌≡◌, ◌∙◌, ap, sym, refl, ℕ, List, [], ◌∷◌, ◌++◌, append_assoc, true, Option, Some, None}
use Rattle.std.specs.Prelude.{Result, Ok, Err}
use Rattle.std.proofs.lemmas.List.{append-nil}
use Rattle.dcm_lemmas.proofs.Numbers.{max_assoc, max_none, none_max}
use Rattle.dcm_base.specs.declared.tag.Tag.{Tag}
use Rattle.dcm_files.specs.declared.memory.MemSystem.{MemSystem}
use Rattle.dcm_names.specs.Names.{names_of}
use Rattle.dcm_table.specs.declared.quoted.TextForm.{TextForm}
use Rattle.dcm_table_words.specs.declared.usage.TableUsage.{TableUsage}
use Rattle.dcm_table_words.specs.Table as table_words
use Rattle.dcm_each.specs.Each.{listed_path}
use Rattle.dcm_tables.specs.TableProgram.{form_of}
use Rattle.dcm_tables.specs.TableInMemory.{Rows, no_rows, and_rows, AllCome, file_of, unopened, row_with, FileComes, ListedComes, ListComes, NameComes, TableOutcome, refused, tabled, tags_of, TableComesBy, TableComes}
use Rattle.dcm_tables.proofs.OneRow.{one_row, some_row}

-- ---- rows

pub rows_assoc : (a b c : Rows) → and_rows (and_rows a b) c ≡ and_rows a (and_rows b c)
rows_assoc a b c = λ i. record { parts = append_assoc a.parts b.parts c.parts i; lines = append_assoc a.lines b.lines c.lines i; status = max_assoc a.status b.status c.status i }

pub rows_none : (a : Rows) → and_rows a no_rows ≡ a
rows_none a = λ i. record { parts = append-nil a.parts i; lines = append-nil a.lines i; status = max_none a.status i }

pub none_rows : (a : Rows) → and_rows no_rows a ≡ a
none_rows a = λ i. record { parts = a.parts; lines = a.lines; status = none_max a.status i }

pub both_rows : {a b c d : Rows} → a ≡ b → c ≡ d → and_rows a c ≡ and_rows b d
both_rows e f = λ i. and_rows (e i) (f i)

-- ---- one after another

module _ {X : Type 0} (Comes : X → Rows → Type 0) where
  -- those of the first ones, and those of the others
  pub record Split (xs ys : List X) (rows : Rows) : Type 0 where
    pub first : Rows
    pub later : Rows
    pub of_first : AllCome Comes xs first
    pub of_later : AllCome Comes ys later
    pub whole : rows ≡ and_rows first later

  pub split : (xs ys : List X) (rows : Rows) → AllCome Comes (xs ++ ys) rows → Split xs ys rows
  split [] ys rows come = record { first = no_rows; later = rows; of_first = refl; of_later = come; whole = sym (none_rows rows) }
  split (x ∷ xs) ys rows come =
      let s = split xs ys come.1 come.3 in
      record {
        first = and_rows come.0 s.first;
        later = s.later;
        of_first = (come.0, s.first, come.2, s.of_first, refl);
        of_later = s.of_later;
        whole = come.4 ∙ both_rows refl s.whole ∙ sym (rows_assoc come.0 s.first s.later);
      }

  module _ (one : (x : X) (a b : Rows) → Comes x a → Comes x b → a ≡ b) where
    pub all_one : (xs : List X) (a b : Rows) → AllCome Comes xs a → AllCome Comes xs b → a ≡ b
    all_one [] a b p q = p ∙ sym q
    all_one (x ∷ xs) a b p q = p.4 ∙ both_rows (one x p.0 q.0 p.2 q.2) (all_one xs p.1 q.1 p.3 q.3) ∙ sym q.4

  module _ (some : (x : X) → (rows : Rows) × Comes x rows) where
    pub all_some : (xs : List X) → (rows : Rows) × AllCome Comes xs rows
    all_some [] = (no_rows, refl)
    all_some (x ∷ xs) = let a = some x in let b = all_some xs in (and_rows a.0 b.0, (a.0, b.0, a.1, b.1, refl))

-- ---- one file

module _ (columns : List Tag) (form : TextForm) where
  pub one_file : (name : List ℕ) (file : Option (List ℕ)) (a b : Rows) → FileComes columns form name file a → FileComes columns form name file b → a ≡ b
  one_file name None a b p q = p ∙ sym q
  one_file name (Some bytes) a b p q =
      let one = one_row columns bytes p.0 q.0 p.1 q.1 p.2 q.2 in
      p.3 ∙ (λ i. row_with form name (one.0 i) (one.1 i)) ∙ sym q.3

  pub some_file : (name : List ℕ) (file : Option (List ℕ)) → (rows : Rows) × FileComes columns form name file rows
  some_file name None = (unopened name, refl)
  some_file name (Some bytes) = let row = some_row columns bytes in (row_with form name row.0 row.1, (row.0, row.1, row.2, refl))

  module _ (s : MemSystem) where
    one_listed : (name : List ℕ) (a b : Rows) → ListedComes s columns form name a → ListedComes s columns form name b → a ≡ b
    one_listed name a b p q = one_file name (file_of s name (listed_path name)) a b p q

    some_listed : (name : List ℕ) → (rows : Rows) × ListedComes s columns form name rows
    some_listed name = some_file name (file_of s name (listed_path name))

    one_list : (path : List ℕ) (file : Option (List ℕ)) (a b : Rows) → ListComes s columns form path file a → ListComes s columns form path file b → a ≡ b
    one_list path None a b p q = p ∙ sym q
    one_list path (Some bytes) a b p q = all_one (ListedComes s columns form) one_listed (names_of bytes true) a b p q

    some_list : (path : List ℕ) (file : Option (List ℕ)) → (rows : Rows) × ListComes s columns form path file rows
    some_list path None = (unopened path, refl)
    some_list path (Some bytes) = all_some (ListedComes s columns form) some_listed (names_of bytes true)

    pub one_name : (name : table_words.Name) (a b : Rows) → NameComes s columns form name a → NameComes s columns form name b → a ≡ b
    one_name (table_words.file path) a b p q = one_file path (file_of s path path) a b p q
    one_name (table_words.list path) a b p q = one_list path (file_of s path path) a b p q

    pub some_name : (name : table_words.Name) → (rows : Rows) × NameComes s columns form name rows
    some_name (table_words.file path) = some_file path (file_of s path path)
    some_name (table_words.list path) = some_list path (file_of s path path)

-- ---- a table

one_by : (s : MemSystem) (meant : Result table_words.Table TableUsage) (a b : TableOutcome) → TableComesBy s meant a → TableComesBy s meant b → a ≡ b
one_by s (Err u) a b p q = p ∙ sym q
one_by s (Ok t) a b p q =
    p.2 ∙ ap (tabled t) (all_one (NameComes s (tags_of t) (form_of t.texts)) (one_name (tags_of t) (form_of t.texts) s) t.names p.0 q.0 p.1 q.1) ∙ sym q.2

pub one_table : (words : List (List ℕ)) (s : MemSystem) (a b : TableOutcome) → TableComes words s a → TableComes words s b → a ≡ b
one_table words s a b p q = one_by s (table_words.meant_table words) a b p q

some_by : (s : MemSystem) (meant : Result table_words.Table TableUsage) → (o : TableOutcome) × TableComesBy s meant o
some_by s (Err u) = (refused u, refl)
some_by s (Ok t) =
    let rows = all_some (NameComes s (tags_of t) (form_of t.texts)) (some_name (tags_of t) (form_of t.texts) s) t.names in
    (tabled t rows.0, (rows.0, rows.1, refl))

pub some_table : (words : List (List ℕ)) (s : MemSystem) → (o : TableOutcome) × TableComes words s o
some_table words s = some_by s (table_words.meant_table words)
