-- What a function made of the words of dcm2csv.
use Rattle.std.specs.Prelude.{◌≡◌, ◌<◌, ◌≤◌, ℕ, List, [], ◌∷◌, map, drop, length}
use Rattle.std.specs.Prelude.{Option, Some, None, Result, Ok, Err, Bool, true, false}
use Rattle.dcm_table_words.specs.declared.column.TableColumn.{TableColumn}
use Rattle.dcm_table_words.specs.declared.plan.Name.{Name}
use Rattle.dcm_table_words.specs.declared.plan.Name.TheVariants as names
use Rattle.dcm_table_words.specs.declared.plan.NameWords.{NameWords}
use Rattle.dcm_table_words.specs.declared.plan.TablePlan.{TablePlan}
use Rattle.dcm_table_words.specs.declared.usage.TableUsage.{TableUsage}
use Rattle.dcm_table_words.specs.Table as spec
use Rattle.dcm_table_words.specs.Columns.{column_as}
use Rattle.dcm_table_words.specs.declared.saying.Saying.{Saying}
use Rattle.dcm_table_words.specs.Said.{said_as, sayings_of}
use Rattle.std.specs.Borrow.{Bor}

abbrev pub name_as : Name → spec.Name
name_as (names.File path) = spec.file path.now
name_as (names.List path) = spec.list path.now

-- the words from a place on say this first, and then what those from a later place on say
pub record SaysIn (s : spec.Saying) (next at : ℕ) (n : NameWords) : Type 0 where
  pub said : sayings_of n.tool (drop at n.words.now) ≡ s ∷ sayings_of n.tool (drop next n.words.now)
  pub later : at < next
  pub within : next ≤ length n.words.now

abbrev pub SaidIn : Option (Saying × ℕ) → (at : ℕ) → NameWords → Type 0
SaidIn None at n = sayings_of n.tool (drop at n.words.now) ≡ []
SaidIn (Some s) at n = SaysIn (said_as s.0) s.1 at n

-- the names among words, and among those from a place on
abbrev pub names_from : NameWords → ℕ → List spec.Name
names_from n place = spec.names_in (sayings_of n.tool (drop place n.words.now))

abbrev pub names_as : NameWords → List spec.Name
names_as n = spec.names_in (sayings_of n.tool n.words.now)

-- the first of them, with the place of the others, which comes later
pub record Names (m : spec.Name) (next : ℕ) (n : NameWords) (place : ℕ) : Type 0 where
  pub names : names_from n place ≡ m ∷ names_from n next
  pub later : place < next
  pub within : next ≤ length n.words.now

abbrev pub FirstName : Option (Name × ℕ) → NameWords → (place : ℕ) → Type 0
FirstName None n place = names_from n place ≡ []
FirstName (Some m) n place = Names (name_as m.0) m.1 n place

abbrev pub GivesColumns : {A : Type 0} → (A → List TableColumn) → Result A TableUsage
    → Result (List spec.Column) TableUsage → Type 0
GivesColumns items (Ok cs) meant = meant ≡ Ok (map column_as (items cs))
GivesColumns items (Err u) meant = meant ≡ Err u

-- what a function said of names
abbrev pub PassesNames : Result (Unit {0}) TableUsage → List spec.Name → Type 0
PassesNames (Ok u) ms = spec.names_meant ms ≡ Ok ms
PassesNames (Err u) ms = spec.names_meant ms ≡ Err u

abbrev pub table_as : TablePlan → spec.Table
table_as p = record {
  columns = map column_as p.columns.items;
  has_header = p.has_header;
  texts = p.texts;
  names = names_as p.names;
}

-- what a function returned is what the words mean
abbrev pub GivesTable : Result TablePlan TableUsage → Result spec.Table TableUsage → Type 0
GivesTable (Ok p) meant = meant ≡ Ok (table_as p)
GivesTable (Err u) meant = meant ≡ Err u
