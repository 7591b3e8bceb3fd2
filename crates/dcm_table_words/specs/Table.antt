-- What the words of dcm2csv mean.
use Rattle.std.specs.Prelude.{ℕ, ◌+◌, List, [], ◌∷◌, length, Option, Some, None, Result}
use Rattle.std.specs.Prelude.{Ok, Err, Bool, true, false, ◌||◌}
use Rattle.std.specs.Prelude.{◌&&◌, not, ◌==◌, nat_le, nat_lt, if◌then◌else◌, codes, bytes_eq, filter_map}
use Rattle.std.specs.Prelude.{count_by, fold}
use Rattle.std.specs.List.{list_any}
use Rattle.std.specs.Str.{byte}
use Rattle.dcm_base.specs.declared.tag.Tag.{Tag}
use Rattle.dcm_base.specs.declared.fault.WordFault.{WordFault}
use Rattle.dcm_base.specs.declared.fault.WordFault.TheVariants.{UnknownTool, UnknownOption, BadOptionValue}
use Rattle.dcm_base.specs.declared.fault.EditRefusal.{EditRefusal}
use Rattle.dcm_table_words.specs.declared.plan.Texts.{Texts}
use Rattle.dcm_table_words.specs.declared.plan.Texts.TheVariants.{Escaped, AsTheyAre, Characters}
use Rattle.dcm_table_words.specs.declared.usage.TableUsage.{TableUsage}
use Rattle.dcm_table_words.specs.declared.usage.TableUsage.TheVariants.{AtWord, InColumn, NumberOfColumns, WrongPaths}
use Rattle.dcm_table_words.specs.declared.usage.TableUsage.TheVariants.{StandardTwice}
use Rattle.dcm_table_words.specs.declared.saying.Tool.{Tool}
use Rattle.dcm_table_words.specs.declared.saying.Tool.TheVariants as tools
use Rattle.dcm_edits.specs.TagWords.{tag_named, begins_number}

-- a column: the tag whose values it shows, and the number by which it was given, where it was not by a keyword
pub record Column : Type 0 where
  pub tag : Tag
  pub number : Option (List ℕ)

-- a file, or a list of files
pub data Name : Type 0 where
  file : List ℕ → Name
  list : List ℕ → Name

-- the table that words mean
pub record Table : Type 0 where
  pub columns : List Column
  pub has_header : Bool
  pub texts : Texts
  pub names : List Name

-- ---- what words say

pub data Saying : Type 0 where
  -- a column or an element, and an option that wants one where no word comes after it
  column : List ℕ → Saying
  no_column : Saying
  no_header as_is decoded : Saying
  name : Name → Saying
  unknown : Saying

-- whether a word has the form of an option
abbrev pub is_option : ℕ → Bool
is_option c = c == byte "-" || c == byte "+"

-- a word that has the form of no known option; one alone is standard input
abbrev pub other_word : List ℕ → Saying
other_word [] = name (file [])
other_word (c ∷ cs) =
    if bytes_eq (c ∷ cs) (codes "-") then name (file (c ∷ cs))
    else if is_option c then unknown
    else if c == byte "@" then name (list cs)
    else name (file (c ∷ cs))

abbrev pub word_says : List ℕ → Saying
word_says w = if bytes_eq w (codes "+nh") then no_header else if bytes_eq w (codes "+by") then as_is
    else if bytes_eq w (codes "+u8") then decoded else other_word w

-- the word after which a column comes, or an element that a dump shows, whatever it is
abbrev pub has_value : Tool → List ℕ → Bool
has_value tools.Table w = bytes_eq w (codes "-k")
has_value tools.Dump w = bytes_eq w (codes "+P")

abbrev pub sayings : Tool → List (List ℕ) → List Saying
sayings tool [] = []
sayings tool (w ∷ []) = elim (has_value tool w) [ true ↦ no_column ∷ [] | false ↦ word_says w ∷ [] ]
sayings tool (w ∷ v ∷ words) =
    elim (has_value tool w) [ true ↦ column v ∷ sayings tool words | false ↦ word_says w ∷ sayings tool (v ∷ words) ]

-- how many words say it
abbrev pub width : Saying → ℕ
width (column w) = 2
width _ = 1

-- ---- the first refusal of a word

abbrev pub word_fault : Saying → Option WordFault
word_fault no_column = Some BadOptionValue
word_fault unknown = Some UnknownOption
word_fault _ = None

-- of words of which the first is that of this number
abbrev pub refused : ℕ → List Saying → Option TableUsage
refused n [] = None
refused n (s ∷ others) =
    elim (word_fault s) [ Some fault ↦ Some (AtWord fault n) | None ↦ refused (n + width s) others ]

-- ---- columns

-- the number by which a word names a tag, where it does not name it by a keyword
abbrev pub number_of : List ℕ → Option (List ℕ)
number_of w = if begins_number w then Some w else None

-- a number of any tag, or a keyword of the whole dictionary
abbrev pub column_of : List ℕ → Result Column EditRefusal
column_of w = elim (tag_named w) [ Ok tag ↦ Ok (record { tag = tag; number = number_of w }) | Err refusal ↦ Err refusal ]

abbrev pub column_said : Saying → Option (List ℕ)
column_said (column w) = Some w
column_said _ = None

-- so many columns are before these; the first refusal is that of the first column that has one
abbrev pub columns_after : ℕ → List (List ℕ) → Result (List Column) TableUsage
columns_after n [] = Ok []
columns_after n (w ∷ words) = elim (column_of w) [
  | Err refusal ↦ Err (InColumn refusal (n + 1))
  | Ok c ↦ elim (columns_after (n + 1) words) [ Ok cs ↦ Ok (c ∷ cs) | Err u ↦ Err u ]
]

-- the most columns of a table
abbrev pub COLUMN_LIMIT : ℕ
COLUMN_LIMIT = 64

abbrev pub within_limit : List Column → Result (List Column) TableUsage
within_limit cs = if nat_le 1 (length cs) && nat_le (length cs) COLUMN_LIMIT then Ok cs else Err NumberOfColumns

abbrev pub columns_meant : List Saying → Result (List Column) TableUsage
columns_meant said = elim (columns_after 0 (filter_map column_said said)) [ Ok cs ↦ within_limit cs | Err u ↦ Err u ]

-- ---- names

abbrev pub name_said : Saying → Option Name
name_said (name m) = Some m
name_said _ = None

abbrev pub names_in : List Saying → List Name
names_in said = filter_map name_said said

abbrev pub path_of : Name → List ℕ
path_of (file path) = path
path_of (list path) = path

abbrev pub is_empty_word : List ℕ → Bool
is_empty_word [] = true
is_empty_word (c ∷ cs) = false

abbrev pub is_empty_name : Name → Bool
is_empty_name m = is_empty_word (path_of m)

-- standard input, as a file or as a list
abbrev pub is_standard : Name → Bool
is_standard m = bytes_eq (path_of m) (codes "-")

-- there is a name, none is empty, and standard input is named once at most
abbrev pub names_meant : List Name → Result (List Name) TableUsage
names_meant [] = Err WrongPaths
names_meant (m ∷ ms) = if list_any is_empty_name (m ∷ ms) then Err WrongPaths
    else if nat_lt 1 (count_by is_standard (m ∷ ms)) then Err StandardTwice
    else Ok (m ∷ ms)

-- ---- the table

abbrev pub is_no_header : Saying → Bool
is_no_header no_header = true
is_no_header _ = false

-- how texts are written after a word that may say it
abbrev pub texts_after : Texts → Saying → Texts
texts_after texts as_is = AsTheyAre
texts_after texts decoded = Characters
texts_after texts _ = texts

-- the last of such words counts
abbrev pub texts_said : List Saying → Texts
texts_said said = fold texts_after Escaped said

abbrev pub table_with : List Saying → List Column → Result Table TableUsage
table_with said columns = elim (names_meant (names_in said)) [
  | Err u ↦ Err u
  | Ok names ↦ Ok (record {
    columns = columns;
    has_header = not (list_any is_no_header said);
    texts = texts_said said;
    names = names;
  })
]

abbrev pub table_said : List Saying → Result Table TableUsage
table_said said = elim (refused 2 said) [
  | Some u ↦ Err u
  | None ↦ elim (columns_meant said) [ Ok columns ↦ table_with said columns | Err u ↦ Err u ]
]

-- the table that the words of a command line mean, or the first refusal; the tool's name is word 1
unfoldable pub meant_table : List (List ℕ) → Result Table TableUsage
meant_table [] = Err (AtWord UnknownTool 1)
meant_table (tool ∷ words) =
    if bytes_eq tool (codes "dcm2csv") then table_said (sayings tools.Table words) else Err (AtWord UnknownTool 1)
