-- The cells know whether anything is open.
use Rattle.std.proofs.Common.{◌≡◌, ◌∙◌, ap, refl, ℕ, suc, List, ◌∷◌, length, map, fold, arith, Some, None, Bool, true, false}
use Rattle.std.specs.Prelude.{option_map, if◌then◌else◌}
use Rattle.dcm_base.specs.declared.tag.Tag.{Tag}
use Rattle.dcm_base.specs.declared.vr.Vr.{Vr}
use Rattle.dcm_base.specs.declared.length.Length.{Length}
use Rattle.dcm_base.specs.declared.length.Length.TheVariants.{Known, Undefined}
use Rattle.dcm_base.specs.declared.form.Form.TheVariants.{Value as a_value, Sequence as a_sequence, FragmentList as a_fragment_list}
use Rattle.dcm_base.specs.Tables.Tag.{below}
use Rattle.dcm_base.specs.Tree.Tree.{Trees, no_tree, leaf, sequence, fragments}
use Rattle.dcm_base.specs.Tree.Front.{Front, front, OpenTree, nothing_open, open_leaf, open_sequence, open_fragments}
use Rattle.dcm_base.specs.Tree.Value.{order}
use Rattle.dcm_base.specs.Bytes.Spelling.{is_open}
use Rattle.dcm_base.specs.Steps.Atoms.{Atom, opens, value_byte, closes_leaf, closes_sequence, fragments_then, open_fragment_atoms, end_atoms, ShowTrees, Shows, ShowsOpen}
use Rattle.dcm_sinks.specs.Laws.{StaysShallow}
use Rattle.dcm_sinks.proofs.Dumps.OpenLists.{stays_on, stays_opened, stays_bytes, stays_fragments, stays_same, stays_trees, stays_items}
use Rattle.dcm_stream.specs.Driven.{bars_by}
use Rattle.dcm_stream.specs.Judging.{fault_of}
use Rattle.dcm_stream.specs.declared.token.Bar.TheVariants.{Order}
use Rattle.dcm_table.specs.Cell.{Cell}
use Rattle.dcm_table.specs.Shown.{AllSettled, Held, decided_by, table_bar}
use Rattle.dcm_table.specs.TableSink.{Slot, State, next, slot_step, bar_by, table_bar_of}
use Rattle.dcm_table.proofs.EachSlot.{bytes_taken}
use Rattle.dcm_table.proofs.Inside.{Mark, at, items_inside, item_inside, fragments_inside, fragment_inside}
use Rattle.dcm_table.proofs.RowCells.{held_at}
use Rattle.dcm_text.specs.declared.sets.Sets.{Sets}
use Rattle.dcm_table.specs.InForce.{is_setting}
use Rattle.dcm_table.specs.TableSink.{setting_opened}
use Rattle.dcm_table.proofs.Outside.{filled, filled_settled, marked, on, same_sets, leaf_here, leaf_sets, leaf_state, leaf_settled, list_here, list_state, list_settled, sequence_not_shown, sequence_sets_nothing}

-- the same comes of a row of atoms as of the rest of it, where nothing is open
pub record Passes (g : Mark) (slots : List Slot) (atoms after : List Atom) : Type 0 where
  pub mark : Mark
  pub same : mark.greatest ≡ g.greatest
  pub left : List Slot
  pub comes : fold next (at 0 g slots) atoms ≡ fold next (at 0 mark left) after
  pub settles : AllSettled left

trees_pass : (t : Trees) (g : Mark) (slots : List Slot) (atoms after : List Atom) → ShowTrees t atoms after → AllSettled slots → StaysShallow 0 atoms → Passes g slots atoms after
unfolding ShowTrees
trees_pass no_tree g slots atoms after e settles low = record { mark = g; same = refl; left = slots; comes = ap (fold next (at 0 g slots)) e; settles = settles }
trees_pass (leaf tag vr value rest) g slots atoms after (s, others, fo, is, more) settles low =
    let here : Tag → Cell = leaf_here s tag vr value in
    let to : Tag → Sets → Sets = leaf_sets tag vr value in
    let there = stays_on 0 closes_leaf others (stays_bytes 0 (order s vr value) (closes_leaf ∷ others) (stays_opened 0 a_value tag vr (Known (length value)) s _ fo (stays_same 0 atoms _ is low))) in
    let r = trees_pass rest (marked g tag vr value) (filled here to slots) others after more (filled_settled here to (leaf_settled s tag vr value) slots settles) there in
    record { mark = r.mark; same = r.same; left = r.left; comes = ap (fold next (at 0 g slots)) is ∙ leaf_state g slots s tag vr value others settles ∙ r.comes; settles = r.settles }
trees_pass (sequence tag vr declared items rest) g slots atoms after (s, contents, others, fo, is, inner, more) settles low =
    let here : Tag → Cell = list_here tag in
    let settles' = filled_settled here same_sets (list_settled tag) slots settles in
    let within = stays_opened 0 a_sequence tag vr declared s contents fo (stays_same 0 atoms _ is low) in
    let there = stays_on 1 closes_sequence others (stays_items 1 items contents (closes_sequence ∷ others) inner within) in
    let r = trees_pass rest g (filled here same_sets slots) others after more settles' there in
    record {
      mark = r.mark;
      same = r.same;
      left = r.left;
      comes =
          ap (fold next (at 0 g slots)) is ∙ list_state g slots s tag vr declared contents (sequence_not_shown s tag vr declared fo) (sequence_sets_nothing s tag vr declared fo)
          ∙ items_inside g (filled here same_sets slots) settles' items 1 0 contents (closes_sequence ∷ others) inner within (omega arith) ∙ r.comes;
      settles = r.settles;
    }
trees_pass (fragments tag vr values rest) g slots atoms after (s, others, fo, is, more) settles low =
    let here : Tag → Cell = list_here tag in
    let settles' = filled_settled here same_sets (list_settled tag) slots settles in
    let within = stays_opened 0 a_fragment_list tag vr Undefined s (fragments_then values (closes_sequence ∷ others)) fo (stays_same 0 atoms _ is low) in
    let there = stays_on 1 closes_sequence others (stays_fragments 1 values (closes_sequence ∷ others) within) in
    let r = trees_pass rest g (filled here same_sets slots) others after more settles' there in
    record {
      mark = r.mark;
      same = r.same;
      left = r.left;
      comes =
          ap (fold next (at 0 g slots)) is ∙ list_state g slots s tag vr Undefined (fragments_then values (closes_sequence ∷ others)) refl refl
          ∙ fragments_inside g (filled here same_sets slots) settles' 0 values (closes_sequence ∷ others) (omega arith) ∙ r.comes;
      settles = r.settles;
    }

-- ---- the depth where something is open, and where nothing is

abbrev Tells : State → Tag → Bool → Type 0
Tells t g false = (t.depth ≡ 0) × (t.greatest ≡ g)
Tells t g true = (n : ℕ) × (t.depth ≡ suc n)

deep : (n : ℕ) (g : Mark) (slots : List Slot) (t : State) → t ≡ at (suc n) g slots → Tells t g.greatest true
deep n g slots t e = (n, ap (λ (u : State). u.depth) e)

flat : (g : Mark) (slots : List Slot) (t : State) → t ≡ at 0 g slots → Tells t g.greatest false
flat g slots t e = (ap (λ (u : State). u.depth) e, ap (λ (u : State). u.greatest) e)

at_end : (closed : Bool) (g : Mark) (slots : List Slot) → fold next (at 0 g slots) (end_atoms closed) ≡ at 0 g slots
at_end true g slots = refl
at_end false g slots = refl

open_tells : (o : OpenTree) (closed : Bool) (g : Mark) (slots : List Slot) (atoms : List Atom) → ShowsOpen o (end_atoms closed) atoms → AllSettled slots → StaysShallow 0 atoms
    → Tells (fold next (at 0 g slots) atoms) g.greatest (is_open o)
unfolding ShowsOpen
open_tells nothing_open closed g slots atoms e settles low = flat g slots _ (ap (fold next (at 0 g slots)) e ∙ at_end closed g slots)
open_tells (open_leaf tag vr size value) closed g slots atoms (s, fo, le, is) settles low =
    let opening : Slot → Slot = λ (c : Slot). slot_step c (opens tag vr (Known size) s) in
    let taking : Slot → Slot = λ (c : Slot). fold slot_step c (map value_byte (order s vr value)) in
    (0, ap (λ (u : State). u.depth) (ap (fold next (at 0 g slots)) is ∙ bytes_taken (on 1 g (map opening slots) (setting_opened (is_setting tag vr) None)) (order s vr value)))
open_tells (open_sequence tag vr declared items last) closed g slots atoms (s, contents, others, fo, is, inner, more) settles low =
    let here : Tag → Cell = list_here tag in
    let settles' = filled_settled here same_sets (list_settled tag) slots settles in
    let within = stays_opened 0 a_sequence tag vr declared s contents fo (stays_same 0 atoms _ is low) in
    let last_one = item_inside g (filled here same_sets slots) settles' last 1 0 others more (stays_items 1 items contents others inner within) (omega arith) in
    deep last_one.depth g (filled here same_sets slots) _
    (ap (fold next (at 0 g slots)) is ∙ list_state g slots s tag vr declared contents (sequence_not_shown s tag vr declared fo) (sequence_sets_nothing s tag vr declared fo)
    ∙ items_inside g (filled here same_sets slots) settles' items 1 0 contents others inner within (omega arith) ∙ last_one.comes)
open_tells (open_fragments tag vr values last) closed g slots atoms (s, fo, mi, is) settles low =
    let here : Tag → Cell = list_here tag in
    let settles' = filled_settled here same_sets (list_settled tag) slots settles in
    let last_one = fragment_inside g (filled here same_sets slots) settles' 0 last (omega arith) in
    deep last_one.depth g (filled here same_sets slots) _
    (ap (fold next (at 0 g slots)) is ∙ list_state g slots s tag vr Undefined (fragments_then values (open_fragment_atoms last)) refl refl
    ∙ fragments_inside g (filled here same_sets slots) settles' 0 values (open_fragment_atoms last) (omega arith) ∙ last_one.comes)

by_test : (t : Bool) → option_map fault_of (if t then Some Order else None) ≡ decided_by t
by_test true = refl
by_test false = refl

tells_bar : (b : Bool) (t : State) (g tag : Tag) → Tells t g b → option_map fault_of (bar_by t.depth t.greatest tag) ≡ (if b then None else decided_by (below g tag))
tells_bar false t g tag h =
    ap (λ (d : ℕ). option_map fault_of (bar_by d t.greatest tag)) h.0
    ∙ ap (λ (x : Tag). option_map fault_of (bar_by 0 x tag)) h.1
    ∙ by_test (below g tag)
tells_bar true t g tag h = ap (λ (d : ℕ). option_map fault_of (bar_by d t.greatest tag)) h.1

pub bars_tell : (greatest : Tag) (held : Held) (f : Front) (atoms : List Atom) (tag : Tag) (vr : Vr) (declared : Length) → AllSettled held.slots → StaysShallow 0 atoms → Shows f atoms
    → bars_by table_bar_of next (held_at greatest held) atoms tag vr declared ≡ table_bar greatest f tag vr declared
unfolding Shows
bars_tell greatest held (front trees o r c) atoms tag vr declared settles low (others, shown, more, may, re) =
    let p = trees_pass trees (record { greatest = greatest; unknown = held.unknown }) held.slots atoms others shown settles low in
    ap (λ (t : State). option_map fault_of (bar_by t.depth t.greatest tag)) p.comes
    ∙ tells_bar (is_open o) (fold next (at 0 p.mark p.left) others) p.mark.greatest tag (open_tells o c p.mark p.left others more p.settles (stays_trees 0 trees atoms others shown low))
    ∙ ap (λ (g : Tag). if is_open o then None else decided_by (below g tag)) p.same
