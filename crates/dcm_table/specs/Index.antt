-- Where the columns of a tag are.
use Rattle.std.specs.Prelude.{ℕ, suc, List, [], ◌∷◌, ◌+◌, get_or, set, min, max, nat_le, nat_lt, Bool, true, false}
use Rattle.std.specs.Prelude.{◌&&◌, ◌||◌, not, if◌then◌else◌}
use Rattle.dcm_base.specs.declared.tag.Tag.{Tag}
use Rattle.dcm_base.specs.Tables.Spread.{spread}
use Rattle.dcm_base.specs.Tables.Tag.{tag_number}
use Rattle.dcm_head.specs.declared.head.Head.{Head}
use Rattle.dcm_stream.specs.Skip.{is_open}
use Rattle.dcm_table.specs.declared.index.Span.{Span}
use Rattle.dcm_table.specs.declared.index.Index.{Index}
use Rattle.dcm_table.specs.Cell.{Cell, open_value, open_too_long}
use Rattle.dcm_table.specs.TableSink.{Slot, opens_setting}

-- no column
abbrev pub NONE : Span
NONE = record { first = 255; after = 0 }

-- the columns of both, and those between
abbrev pub both : Span → Span → Span
both a b = record { first = min a.first b.first; after = max a.after b.after }

-- whether a column is one of a run
abbrev pub is_in : Span → ℕ → Bool
is_in span column = nat_le span.first column && nat_lt column span.after

-- whether a run is of no column
abbrev pub is_empty : Span → Bool
is_empty span = nat_le span.after span.first

-- the place of a tag, of 256
abbrev pub place_of : Tag → ℕ
place_of tag = spread (tag_number tag) 8

abbrev pub span_of : Index → Tag → Span
span_of index tag = get_or index.spans (place_of tag) NONE

-- one more column
abbrev pub added : Index → Tag → (column : ℕ) → Index
added index tag column = record index {
  spans = set index.spans (place_of tag) (both (span_of index tag) (record { first = column; after = column + 1 }));
}

-- whether each of these columns, of which the first has this number, is where its tag is said to be
abbrev pub has_each : Index → ℕ → List Slot → Bool
has_each index column [] = true
has_each index column (c ∷ slots) = is_in (span_of index c.0) column && has_each index (suc column) slots

-- whether bytes of a value and its end change a cell
abbrev pub is_busy : Cell → Bool
is_busy (open_value vr shown s bytes) = true
is_busy open_too_long = true
is_busy _ = false

-- whether of these columns, of which the first has this number, those that are busy are all in a run
abbrev pub holds_busy : Span → ℕ → List Slot → Bool
holds_busy span column [] = true
holds_busy span column (c ∷ slots) = (is_in span column || not (is_busy c.1)) && holds_busy span (suc column) slots

-- whether an element with its whole value changes no cell: no value is on its way, and it is within another element, or
-- no column has its tag and it sets nothing
abbrev pub passes_by : (is_setting : Bool) → (busy : Span) → (depth : ℕ) → Index → Head → Bool
passes_by is_setting busy depth index head =
    (not is_setting && is_empty busy)
    && (is_open depth || (is_empty (span_of index head.tag) && not (opens_setting head.tag head.vr head.length)))

-- of these columns, of which the first has this number, those of a run are changed
abbrev pub changed_in : (Slot → Slot) → Span → ℕ → List Slot → List Slot
changed_in f span column [] = []
changed_in f span column (c ∷ slots) = (if is_in span column then f c else c) ∷ changed_in f span (suc column) slots
