-- The values of a row are bytes, where the file is.
use Rattle.std.proofs.Common.{◌≡◌, ◌∙◌, ap, sym, subst, refl, ℕ, ◌-◌, List, [], ◌∷◌, length, drop, Bool, true, false}
use Rattle.std.specs.Prelude.{nat_le, if◌then◌else◌, IsUtf8}
use Rattle.dcm_base.specs.declared.tag.Tag.{Tag}
use Rattle.dcm_base.specs.declared.vr.Vr.{Vr}
use Rattle.dcm_base.specs.declared.syntax.Coding.{Coding}
use Rattle.dcm_base.specs.declared.syntax.Syntax.{Syntax}
use Rattle.dcm_base.specs.Tables.Number.{AreBytes}
use Rattle.dcm_base.specs.Tables.Syntax.{Little}
use Rattle.dcm_base.specs.Tables.Tag.{same_tag}
use Rattle.dcm_base.specs.Tree.Front.{Front, front, OpenTree, nothing_open, open_leaf, open_sequence, open_fragments}
use Rattle.dcm_base.specs.Tree.Tree.{Trees, no_tree, leaf, sequence, fragments}
use Rattle.dcm_base.specs.Bytes.Spelling.{Spells, SpellsFront, after}
use Rattle.dcm_base.specs.File.MetaReads.{Meta, MetaReads, begins}
use Rattle.dcm_base.specs.Reading.Reads.{INPUT_LIMIT, Reads, ended}
use Rattle.dcm_base.specs.Reading.Stop.{Bar, Stop, complete, refused}
use Rattle.dcm_base.proofs.DataSets.Whole.{trees_same, at_end_NoElement}
use Rattle.dcm_base.proofs.DumpsBack.Parts.{Bytes-take, Bytes-drop}
use Rattle.dcm_base.proofs.DumpsBack.Texts.{Bytes, bytes_of}
use Rattle.dcm_head.specs.MetaReading.{Says, meta_finished}
use Rattle.dcm_head.proofs.HeadReading.State.{described}
use Rattle.dcm_head.proofs.HeadReading.Answers.{told}
use Rattle.dcm_head.proofs.MetaGroups.OneMeta.{one_meta}
use Rattle.dcm_sinks.proofs.ReadBack.Sources.{a_byte, bytes_parts}
use Rattle.dcm_editor.proofs.ReadBack.BytesRead.{HoldsBytes, trees_read}
use Rattle.dcm_table.specs.declared.ending.RowEnd.{RowEnd}
use Rattle.dcm_table.specs.declared.quoted.TextForm.{TextForm}
use Rattle.dcm_table.specs.Cell.{Cell, missing, open_value, open_too_long, whole, too_long, not_shown, CELL_LIMIT, is_shown, shown_vr}
use Rattle.dcm_table.specs.Laws.{AllHoldBytes, HoldsBytes as CellHolds, is_valid_form}
use Rattle.dcm_table.specs.Meta.{META_SYNTAX}
use Rattle.dcm_table.specs.Parts.{SpellsParts}
use Rattle.dcm_table.specs.Row.{row_parts}
use Rattle.dcm_table.specs.Shown.{Held, cell_or, front_cell, leaf_cell, meta_cell, meta_slots, open_cell, slots_with, trees_cell}
use Rattle.dcm_table.specs.TableSink.{Slot}
use Rattle.dcm_table.proofs.ValidRows.{row_valid}
use Rattle.dcm_cli.specs.Answer.{set_at}
use Rattle.dcm_cli.specs.Pass.{head_read}
use Rattle.dcm_cli.proofs.Passes.MetaHeads.{group_spelled}
use Rattle.dcm_tables.specs.RowOf.{ShowsMeta, no_group, of_group, RowOf, of_meta, of_set}
use Rattle.dcm_tables.proofs.MetaShown.{shown}

-- ---- cells

if_holds : (b : Bool) (c d : Cell) → CellHolds c → CellHolds d → CellHolds (if b then c else d)
if_holds true c d h k = h
if_holds false c d h k = k

leaf_holds : (s : Syntax) (tag : Tag) (vr : Vr) (value : List ℕ) → Bytes value → CellHolds (leaf_cell s tag vr value)
leaf_holds s tag vr value h = by_test (is_shown (shown_vr s tag vr)) refl
  where
    by_test : (t : Bool) → is_shown (shown_vr s tag vr) ≡ t → CellHolds (if t then (if nat_le (length value) CELL_LIMIT then whole (shown_vr s tag vr) value else too_long) else not_shown)
    by_test true e = if_holds (nat_le (length value) CELL_LIMIT) (whole (shown_vr s tag vr) value) too_long (e, λ i. a_byte value i h) tt
    by_test false e = tt

trees_hold : (t : Trees) (s : Syntax) (column : Tag) → HoldsBytes t → CellHolds (trees_cell s column t)
unfolding trees_cell
trees_hold no_tree s column h = tt
trees_hold (leaf tag vr value rest) s column h = if_holds (same_tag tag column) (leaf_cell s tag vr value) (trees_cell (after s tag vr value) column rest) (leaf_holds s tag vr value h.0) (trees_hold rest (after s tag vr value) column h.1)
trees_hold (sequence tag vr declared items rest) s column h = if_holds (same_tag tag column) not_shown (trees_cell s column rest) tt (trees_hold rest s column h.1)
trees_hold (fragments tag vr values rest) s column h = if_holds (same_tag tag column) not_shown (trees_cell s column rest) tt (trees_hold rest s column h.1)

meta_holds : (t : Trees) (column : Tag) → HoldsBytes t → CellHolds (meta_cell column t)
unfolding meta_cell
meta_holds no_tree column h = tt
meta_holds (leaf tag vr value rest) column h = if_holds (same_tag tag column) (leaf_cell META_SYNTAX tag vr value) (meta_cell column rest) (leaf_holds META_SYNTAX tag vr value h.0) (meta_holds rest column h.1)
meta_holds (sequence tag vr declared items rest) column h = meta_holds rest column h.1
meta_holds (fragments tag vr values rest) column h = meta_holds rest column h.1

open_holds : (o : OpenTree) (column : Tag) → CellHolds (open_cell column o)
open_holds nothing_open column = tt
open_holds (open_leaf tag vr size value) column = if_holds (same_tag tag column) not_shown missing tt tt
open_holds (open_sequence tag vr declared items last) column = if_holds (same_tag tag column) not_shown missing tt tt
open_holds (open_fragments tag vr values last) column = if_holds (same_tag tag column) not_shown missing tt tt

either_holds : (c d : Cell) → CellHolds c → CellHolds d → CellHolds (cell_or c d)
either_holds missing d h k = k
either_holds (open_value vr shown s bytes) d h k = tt
either_holds open_too_long d h k = tt
either_holds (whole vr value) d h k = h
either_holds too_long d h k = tt
either_holds not_shown d h k = tt

front_holds : (s : Syntax) (f : Front) (read : List ℕ) (column : Tag) → SpellsFront s f read → Bytes read → CellHolds (front_cell s column f)
unfolding SpellsFront
front_holds s (front trees o reached closed) read column (others, placed, more, re, cl) h =
    either_holds (trees_cell s column trees) (open_cell column o) (trees_hold trees s column (trees_read s trees read others placed h).0) (open_holds o column)

ended_cell : (s : Syntax) (stop : Stop) (f : Front) (column : Tag) → front_cell s column (ended stop f) ≡ front_cell s column f
ended_cell s complete (front trees o reached closed) column = refl
ended_cell s (refused fault offset) f column = refl

set_holds : (bar : Bar) (s : Syntax) (start : ℕ) (bytes : List ℕ) (f : Front) (stop : Stop) (column : Tag) → Reads bar s start bytes f stop → Bytes bytes → CellHolds (front_cell s column f)
set_holds bar s start bytes f stop column (reached, why, first, said, is) h =
    let read : Bytes first.read = (bytes_parts first.read first.rest (subst Bytes first.parts (Bytes-take (INPUT_LIMIT - start) bytes h))).0 in
    subst CellHolds (sym (ap (front_cell s column) is ∙ ended_cell s stop reached column)) (front_holds s reached first.read column first.spelled read)

-- ---- slots

meta_hold : (columns : List Tag) (elements : Trees) → HoldsBytes elements → AllHoldBytes (meta_slots columns elements)
meta_hold [] elements h = tt
meta_hold (t ∷ columns) elements h = (meta_holds elements t h, meta_hold columns elements h)

slots_hold : (columns : List Tag) (elements : Trees) (s : Syntax) (f : Front) → HoldsBytes elements → ((column : Tag) → CellHolds (front_cell s column f)) → AllHoldBytes (slots_with s f (meta_slots columns elements))
slots_hold [] elements s f h k = tt
slots_hold (t ∷ columns) elements s f h k = (either_holds (meta_cell t elements) (front_cell s t f) (meta_holds elements t h) (k t), slots_hold columns elements s f h k)

-- ---- files

none_holds : (elements : Trees) → elements ≡ no_tree → HoldsBytes elements
none_holds elements e = subst HoldsBytes (sym e) tt

shows_hold : (bytes : List ℕ) (elements : Trees) → ShowsMeta bytes elements → Bytes bytes → HoldsBytes elements
shows_hold bytes elements (no_group none is) h = none_holds elements is
shows_hold bytes elements (of_group group place some reads) h =
    (trees_read Little elements group [] reads.spelled (bytes_parts group reads.rest (subst Bytes reads.parts (Bytes-drop 132 bytes h))).0).0

-- the elements of a head are those that its meta group shows
head_shows : (bytes : List ℕ) (m : Meta) (group : List ℕ) (named : Coding) → MetaReads bytes (begins m group named) → ShowsMeta bytes m.elements
head_shows bytes m group named head =
    let t = told (head_read bytes) bytes (described bytes) in
    let said : Says (meta_finished (head_read bytes)) (begins m group named) = subst (Says (meta_finished (head_read bytes))) (one_meta bytes t.answer (begins m group named) t.reads head) t.said in
    let x = shown (meta_finished (head_read bytes)) bytes refl in
    let here : Spells Little x.elements group = subst (Spells Little x.elements) said.3 x.spelled in
    let same : x.elements ≡ m.elements =
    (trees_same Little x.elements m.elements group [] [] here (group_spelled bytes m group named head).0 (at_end_NoElement Little) (at_end_NoElement Little)).0 in
    subst (ShowsMeta bytes) same x.shows

pub row_holds : (columns : List Tag) (bytes : List ℕ) (cells : Held) (end : RowEnd) → AreBytes bytes → RowOf columns bytes cells end → AllHoldBytes cells.slots
row_holds columns bytes cells end are (of_meta fault offset elements head shows is ends) = subst (λ (held : Held). AllHoldBytes held.slots) (sym is) (meta_hold columns elements (shows_hold bytes elements shows (bytes_of bytes are)))
row_holds columns bytes cells end are (of_set m group coding f stop x is ends) =
    let all : Bytes bytes = bytes_of bytes are in
    subst (λ (held : Held). AllHoldBytes held.slots) (sym is)
    (slots_hold columns m.elements coding.syntax f (shows_hold bytes m.elements (head_shows bytes m group x.head.named x.head.head) all)
    (λ column. set_holds _ coding.syntax (set_at group) (drop (set_at group) bytes) f stop column x.reads (Bytes-drop (set_at group) bytes all)))

pub rows_valid : (columns : List Tag) (form : TextForm) (name bytes : List ℕ) (cells : Held) (end : RowEnd) (text : List ℕ) → is_valid_form form ≡ true → AreBytes name → AreBytes bytes → RowOf columns bytes cells end
    → SpellsParts (row_parts form name cells.slots) text → IsUtf8 text
rows_valid columns form name bytes cells end text valid named are row spelled = row_valid form name cells.slots text valid named (row_holds columns bytes cells end are row) spelled
