-- The columns of a table.
use Rattle.std.specs.Prelude.{ℕ, List, map, fold, if◌then◌else◌, Option, Some, None}
use Rattle.dcm_base.specs.declared.tag.Tag.{Tag}
use Rattle.dcm_base.specs.declared.vr.Vr.{Vr}
use Rattle.dcm_base.specs.declared.dictionary.Dictionary.TheVariants.{Standard}
use Rattle.dcm_base.specs.Tables.Dictionary.{keyword_in, known_vr_in}
use Rattle.dcm_base.specs.Tables.Tag.{below}
use Rattle.dcm_table.specs.declared.column.Column.{Column}
use Rattle.dcm_table.specs.declared.column.Columns.{Columns}
use Rattle.dcm_table.specs.declared.column.Header.{Header}
use Rattle.dcm_table.specs.declared.column.Header.TheVariants.{Keyword, Given}

-- the columns of a table at most
abbrev pub COLUMNS_LIMIT : ℕ
COLUMNS_LIMIT = 64

abbrev pub header_by : Header → Tag → List ℕ
header_by Keyword tag = keyword_in Standard tag
header_by (Given number) tag = number

-- the header of a column: its keyword, or a number that the dictionary lacks as it was given
abbrev pub header_of : Column → List ℕ
header_of c = header_by c.header c.tag

-- the column of a number that was given so
abbrev pub header_known : Option Vr → List ℕ → Header
header_known (Some vr) number = Keyword
header_known None number = Given number

abbrev pub column_of_number : Tag → List ℕ → Column
column_of_number tag number = record { tag = tag; header = header_known (known_vr_in Standard tag) number }

abbrev pub list_of : Columns → List Column
list_of c = c.list.items

abbrev pub tags_of : Columns → List Tag
tags_of c = map (λ (x : Column). x.tag) (list_of c)

abbrev pub greater : Tag → Tag → Tag
greater a b = if below a b then b else a

-- the lowest tag
abbrev pub LOWEST : Tag
LOWEST = record { group = 0; element = 0 }

-- the greatest tag of these
abbrev pub greatest_of : List Tag → Tag
greatest_of tags = fold greater LOWEST tags
