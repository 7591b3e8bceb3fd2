-- What is written and reported of a row is that of its settled cells.
use Rattle.std.proofs.Common.{◌≡◌, ◌∙◌, ap, sym, refl, ℕ, List, [], ◌∷◌, ◌++◌, Bool, Some, None}
use Rattle.std.specs.Prelude.{flat_map, option_to_list, ◌&&◌, ◌||◌, not, if◌then◌else◌}
use Rattle.std.specs.List.{list_any}
use Rattle.dcm_base.specs.declared.tag.Tag.{Tag}
use Rattle.dcm_base.specs.Tables.Tag.{same_tag}
use Rattle.dcm_names.specs.NamedLines.{too_long_line, unknown_lines}
use Rattle.dcm_table.specs.declared.ending.RowEnd.{RowEnd}
use Rattle.dcm_table.specs.declared.ending.RowEnd.TheVariants.{Whole, Decided, Refused}
use Rattle.dcm_table.specs.declared.quoted.TextForm.{TextForm}
use Rattle.dcm_text.specs.declared.sets.Sets.{Sets}
use Rattle.dcm_table.specs.Cell.{Cell, missing, open_value, open_too_long, whole, too_long, not_shown, is_too_long}
use Rattle.dcm_table.specs.Parts.{Part, some_bytes}
use Rattle.dcm_table.specs.Quoted.{quoted, text_in}
use Rattle.dcm_table.specs.Row.{cell_parts, cells_parts, comma, newline, reported_after, row_parts}
use Rattle.dcm_table.specs.Shown.{settled, settled_slots}
use Rattle.dcm_table.specs.TableSink.{Slot}
use Rattle.dcm_tables.specs.Rows.{end_lines, file_lines, file_status, long_status, long_tags, unknown_told}

-- ---- what is written

parts_settled : (form : TextForm) (sets : Sets) (c : Cell) → cell_parts form sets (settled c) ≡ cell_parts form sets c
parts_settled form sets missing = refl
parts_settled form sets (open_value vr shown s bytes) = refl
parts_settled form sets open_too_long = refl
parts_settled form sets (whole shown value) = refl
parts_settled form sets too_long = refl
parts_settled form sets not_shown = refl

cells_settled : (form : TextForm) (slots : List Slot) → cells_parts form (settled_slots slots) ≡ cells_parts form slots
cells_settled form [] = refl
cells_settled form (c ∷ slots) = (λ i. (some_bytes comma ∷ parts_settled form c.2 c.1 i) ++ cells_settled form slots i)

pub row_settled : (form : TextForm) (name : List ℕ) (slots : List Slot) → row_parts form name (settled_slots slots) ≡ row_parts form name slots
row_settled form name slots = ap (λ (parts : List Part). some_bytes (quoted (text_in form name)) ∷ (parts ++ some_bytes newline ∷ [])) (cells_settled form slots)

-- ---- what is reported

long_settled : (c : Cell) → is_too_long (settled c) ≡ is_too_long c
long_settled missing = refl
long_settled (open_value vr shown s bytes) = refl
long_settled open_too_long = refl
long_settled (whole shown value) = refl
long_settled too_long = refl
long_settled not_shown = refl

any_settled : (t : Tag) (slots : List Slot) → list_any (λ (b : Slot). same_tag b.0 t) (settled_slots slots) ≡ list_any (λ (b : Slot). same_tag b.0 t) slots
any_settled t [] = refl
any_settled t (c ∷ slots) = either (same_tag c.0 t) _ _ (any_settled t slots)
  where
    either : (b x y : Bool) → x ≡ y → (b || x) ≡ (b || y)
    either b x y e = ap (λ (z : Bool). b || z) e

reported_settled : (before : List Slot) (c : Slot) → reported_after (settled_slots before) (c.0, settled c.1, c.2) ≡ reported_after before c
reported_settled before c = (λ i. if long_settled c.1 i && not (any_settled c.0 before i) then Some c.0 else None)

settled_more : (before : List Slot) (c : Slot) → settled_slots (before ++ c ∷ []) ≡ settled_slots before ++ (c.0, settled c.1, c.2) ∷ []
settled_more [] c = refl
settled_more (b ∷ before) c = ap (λ (x : List Slot). (b.0, settled b.1, b.2) ∷ x) (settled_more before c)

tags_settled : (before slots : List Slot) → long_tags (settled_slots before) (settled_slots slots) ≡ long_tags before slots
tags_settled before [] = refl
tags_settled before (c ∷ slots) =
    (λ i. option_to_list (reported_settled before c i) ++ long_tags (sym (settled_more before c) i) (settled_slots slots))
    ∙ ap (λ (x : List Tag). option_to_list (reported_after before c) ++ x) (tags_settled (before ++ c ∷ []) slots)

pub lines_settled : (form : TextForm) (name : List ℕ) (slots : List Slot) (unknown : Bool) (end : RowEnd) → file_lines form name (settled_slots slots) unknown end ≡ file_lines form name slots unknown end
lines_settled form name slots unknown end = ap (λ (tags : List Tag). flat_map (too_long_line name) tags ++ unknown_lines name (unknown_told form unknown) ++ end_lines name end) (tags_settled [] slots)

pub status_settled : (slots : List Slot) (end : RowEnd) → file_status (settled_slots slots) end ≡ file_status slots end
status_settled slots Whole = ap long_status (tags_settled [] slots)
status_settled slots Decided = ap long_status (tags_settled [] slots)
status_settled slots (Refused stop) = refl
