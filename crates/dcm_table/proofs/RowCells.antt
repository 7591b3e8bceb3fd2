-- The cells after what was read of a data set.
use Rattle.std.proofs.Common.{◌≡◌, ◌∙◌, sym, ap, refl, subst, ℕ, suc, List, [], ◌∷◌, length, fold, arith, Option, Bool, true, false}
use Rattle.std.specs.Prelude.{if◌then◌else◌}
use Rattle.dcm_base.specs.declared.tag.Tag.{Tag}
use Rattle.dcm_base.specs.declared.length.Length.TheVariants.{Known, Undefined}
use Rattle.dcm_base.specs.declared.syntax.Syntax.{Syntax}
use Rattle.dcm_base.specs.declared.form.Form.TheVariants.{Value as a_value, Sequence as a_sequence, FragmentList as a_fragment_list}
use Rattle.dcm_base.specs.Tables.Tag.{sequence_end_tag, same_tag}
use Rattle.dcm_base.specs.Tree.Tree.{Trees, no_tree, leaf, sequence, fragments}
use Rattle.dcm_base.specs.Tree.Front.{Front, front, OpenTree, nothing_open, open_leaf, open_sequence, open_fragments}
use Rattle.dcm_base.specs.Tree.Value.{order}
use Rattle.dcm_base.specs.Bytes.Spelling.{TreesAt, ItemsAt, SpellsFront, inside, after, after_trees}
use Rattle.dcm_base.specs.Reading.Reads.{Reads, ended as ended_front}
use Rattle.dcm_base.specs.Reading.Stop.{Bar, Stop, complete, refused}
use Rattle.dcm_table.proofs.EachSlot.{bytes_taken}
use Rattle.dcm_base.specs.Steps.Atoms.{Atom, opens, closes_leaf, closes_sequence, fragments_then, open_fragment_atoms, end_atoms, ShowItems, ShowsOpen, trees_then, items_then, front_atoms, open_atoms}
use Rattle.dcm_base.proofs.DataSets.Shown.{items_shown, trees_shown, open_shown, enclosed_shown}
use Rattle.dcm_sinks.specs.Laws.{StaysShallow}
use Rattle.dcm_sinks.proofs.Dumps.OpenLists.{stays_on, stays_opened, stays_bytes, stays_fragments, stays_same, stays_trees, stays_items}
use Rattle.dcm_text.specs.declared.sets.Sets.{Sets}
use Rattle.dcm_table.specs.Cell.{Cell, missing, not_shown}
use Rattle.dcm_table.specs.InForce.{trees_sets}
use Rattle.dcm_table.specs.Shown.{settled, AllSettled, Held, held_by, held_with, leaf_cell, trees_cell, open_cell, front_cell, settled_slots, slots_with}
use Rattle.dcm_table.specs.TableSink.{Slot, State, next, kept_or}
use Rattle.dcm_table.proofs.Inside.{Mark, at, items_inside, item_inside, fragments_inside, fragment_inside}
use Rattle.dcm_table.proofs.Outside.{filled, filled_settled, filled_twice, filled_same, first_cell, first_sets, same_sets, or_none, leaf_here, leaf_sets, leaf_state, leaf_settled, leaf_cell_settled, leaf_first, leaf_first_sets, list_here, list_state, marked, trees_marked, unknown_marked, on, list_settled, list_first, list_first_sets, sequence_not_shown, sequence_sets_nothing, part_state}
use Rattle.dcm_table.proofs.Settings.{kept_same}

abbrev cells_in : Syntax → Trees → Tag → Cell
cells_in s t column = trees_cell s column t

abbrev sets_in : Trees → Tag → Sets → Sets
sets_in t column z = trees_sets column z t

if_settled : (t : Bool) (c d : Cell) → settled c ≡ c → settled d ≡ d → settled (if t then c else d) ≡ (if t then c else d)
if_settled true c d e h = e
if_settled false c d e h = h

cells_settled : (t : Trees) (s : Syntax) (column : Tag) → settled (trees_cell s column t) ≡ trees_cell s column t
unfolding trees_cell
cells_settled no_tree s column = refl
cells_settled (leaf tag vr value rest) s column = if_settled (same_tag tag column) (leaf_cell s tag vr value) (trees_cell (after s tag vr value) column rest) (leaf_cell_settled s tag vr value) (cells_settled rest (after s tag vr value) column)
cells_settled (sequence tag vr declared items rest) s column = if_settled (same_tag tag column) not_shown (trees_cell s column rest) refl (cells_settled rest s column)
cells_settled (fragments tag vr values rest) s column = if_settled (same_tag tag column) not_shown (trees_cell s column rest) refl (cells_settled rest s column)

all_stay : (slots : List Slot) → filled (λ (t : Tag). missing) same_sets slots ≡ slots
all_stay [] = refl
all_stay (c ∷ slots) =
    ap (λ (x : Cell). (c.0, x, kept_or c.1 c.2 c.2) ∷ filled (λ (t : Tag). missing) same_sets slots) (or_none c.1)
    ∙ ap (λ (z : Sets). (c.0, c.1, z) ∷ filled (λ (t : Tag). missing) same_sets slots) (kept_same c.1 c.2)
    ∙ ap (λ (x : List Slot). c ∷ x) (all_stay slots)

-- after them no more lists are open
trees_low : (t : Trees) (s : Syntax) (b p : List ℕ) (others : List Atom) → TreesAt s t b p → StaysShallow 0 (trees_then s t others) → StaysShallow 0 others
trees_low t s b p others h low = stays_trees 0 t (trees_then s t others) others (trees_shown s t b p others h) low

trees_fill : (t : Trees) (s : Syntax) (g : Mark) (slots : List Slot) (b p : List ℕ) (others : List Atom) → TreesAt s t b p → AllSettled slots → StaysShallow 0 (trees_then s t others)
    → fold next (at 0 g slots) (trees_then s t others) ≡ fold next (at 0 (trees_marked g t) (filled (cells_in s t) (sets_in t) slots)) others
unfolding TreesAt trees_then trees_cell trees_sets trees_marked
trees_fill no_tree s g slots b p others h settles low = ap (λ (x : List Slot). fold next (at 0 g x) others) (sym (all_stay slots))
trees_fill (leaf tag vr value rest) s g slots b p others (b', fo, head, more) settles low =
    let here : Tag → Cell = leaf_here s tag vr value in
    let to : Tag → Sets → Sets = leaf_sets tag vr value in
    let t : Syntax = after s tag vr value in
    let there = stays_on 0 closes_leaf (trees_then t rest others) (stays_bytes 0 (order s vr value) (closes_leaf ∷ trees_then t rest others) (stays_opened 0 a_value tag vr (Known (length value)) s _ fo low)) in
    leaf_state g slots s tag vr value (trees_then t rest others) settles
    ∙ trees_fill rest t (marked g tag vr value) (filled here to slots) b' p others more (filled_settled here to (leaf_settled s tag vr value) slots settles) there
    ∙ ap (λ (x : List Slot). fold next (at 0 (trees_marked (marked g tag vr value) rest) x) others)
    (filled_twice here (cells_in t rest) to (sets_in rest) slots
    ∙ filled_same (first_cell here (cells_in t rest)) (cells_in s (leaf tag vr value rest)) (first_sets here to (sets_in rest)) (sets_in (leaf tag vr value rest))
    (λ (c : Tag). leaf_first s tag vr value c (trees_cell t c rest))
    (λ (c : Tag) (z : Sets). leaf_first_sets s tag vr value c z (sets_in rest c)) slots)
trees_fill (sequence tag vr declared items rest) s g slots b p others (contents, b', fo, head, inner, more) settles low =
    let here : Tag → Cell = list_here tag in
    let behind : List Atom = closes_sequence ∷ trees_then s rest others in
    let atoms : List Atom = items_then (inside s vr) items behind in
    let shown : ShowItems items atoms behind = enclosed_shown (inside s vr) sequence_end_tag declared (ItemsAt (inside s vr) items) contents b' (ShowItems items atoms behind) (λ c d r. items_shown (inside s vr) items c d behind r) inner in
    let within = stays_opened 0 a_sequence tag vr declared s atoms fo low in
    let there = stays_on 1 closes_sequence (trees_then s rest others) (stays_items 1 items atoms behind shown within) in
    let settles' = filled_settled here same_sets (list_settled tag) slots settles in
    list_state g slots s tag vr declared atoms (sequence_not_shown s tag vr declared fo) (sequence_sets_nothing s tag vr declared fo)
    ∙ items_inside g (filled here same_sets slots) settles' items 1 0 atoms behind shown within (omega arith)
    ∙ trees_fill rest s g (filled here same_sets slots) b' p others more settles' there
    ∙ ap (λ (x : List Slot). fold next (at 0 (trees_marked g rest) x) others)
    (filled_twice here (cells_in s rest) same_sets (sets_in rest) slots
    ∙ filled_same (first_cell here (cells_in s rest)) (cells_in s (sequence tag vr declared items rest)) (first_sets here same_sets (sets_in rest)) (sets_in (sequence tag vr declared items rest))
    (λ (c : Tag). list_first tag c (trees_cell s c rest))
    (λ (c : Tag) (z : Sets). list_first_sets tag c z (trees_sets c z rest)) slots)
trees_fill (fragments tag vr values rest) s g slots b p others (contents, b', fo, head, inner, more) settles low =
    let here : Tag → Cell = list_here tag in
    let behind : List Atom = closes_sequence ∷ trees_then s rest others in
    let within = stays_opened 0 a_fragment_list tag vr Undefined s (fragments_then values behind) fo low in
    let there = stays_on 1 closes_sequence (trees_then s rest others) (stays_fragments 1 values behind within) in
    let settles' = filled_settled here same_sets (list_settled tag) slots settles in
    list_state g slots s tag vr Undefined (fragments_then values behind) refl refl
    ∙ fragments_inside g (filled here same_sets slots) settles' 0 values behind (omega arith)
    ∙ trees_fill rest s g (filled here same_sets slots) b' p others more settles' there
    ∙ ap (λ (x : List Slot). fold next (at 0 (trees_marked g rest) x) others)
    (filled_twice here (cells_in s rest) same_sets (sets_in rest) slots
    ∙ filled_same (first_cell here (cells_in s rest)) (cells_in s (fragments tag vr values rest)) (first_sets here same_sets (sets_in rest)) (sets_in (fragments tag vr values rest))
    (λ (c : Tag). list_first tag c (trees_cell s c rest))
    (λ (c : Tag) (z : Sets). list_first_sets tag c z (trees_sets c z rest)) slots)

-- ---- what is open

pub all_settle : (slots : List Slot) → AllSettled slots → settled_slots slots ≡ slots
all_settle [] h = refl
all_settle (c ∷ slots) h = ap (λ (x : Cell). (c.0, x, c.2) ∷ settled_slots slots) h.0 ∙ ap (λ (x : List Slot). c ∷ x) (all_settle slots h.1)

abbrev open_in : OpenTree → Tag → Cell
open_in o column = open_cell column o

at_end : (closed : Bool) (g : Mark) (slots : List Slot) → (fold next (at 0 g slots) (end_atoms closed)).slots ≡ slots
at_end true g slots = refl
at_end false g slots = refl

slots_of_state : (d : ℕ) (g : Mark) (slots : List Slot) (t : State) → t ≡ at d g slots → t.slots ≡ slots
slots_of_state d g slots t e = ap (λ (u : State). u.slots) e

open_fills : (o : OpenTree) (closed : Bool) (g : Mark) (slots : List Slot) (atoms : List Atom) → ShowsOpen o (end_atoms closed) atoms → AllSettled slots → StaysShallow 0 atoms
    → settled_slots (fold next (at 0 g slots) atoms).slots ≡ filled (open_in o) same_sets slots
unfolding ShowsOpen
open_fills nothing_open closed g slots atoms e settles low =
    ap (λ (x : List Atom). settled_slots (fold next (at 0 g slots) x).slots) e
    ∙ ap settled_slots (at_end closed g slots) ∙ all_settle slots settles ∙ sym (all_stay slots)
open_fills (open_leaf tag vr size value) closed g slots atoms (s, fo, le, is) settles low =
    ap (λ (x : List Atom). settled_slots (fold next (at 0 g slots) x).slots) is ∙ part_state g slots s tag vr size (order s vr value) settles
open_fills (open_sequence tag vr declared items last) closed g slots atoms (s, contents, others, fo, is, inner, more) settles low =
    let here : Tag → Cell = list_here tag in
    let slots' : List Slot = filled here same_sets slots in
    let settles' = filled_settled here same_sets (list_settled tag) slots settles in
    let within = stays_opened 0 a_sequence tag vr declared s contents fo (stays_same 0 atoms _ is low) in
    let last_one = item_inside g slots' settles' last 1 0 others more (stays_items 1 items contents others inner within) (omega arith) in
    ap settled_slots
    (slots_of_state (suc last_one.depth) g slots' (fold next (at 0 g slots) atoms)
    (ap (fold next (at 0 g slots)) is ∙ list_state g slots s tag vr declared contents (sequence_not_shown s tag vr declared fo) (sequence_sets_nothing s tag vr declared fo)
    ∙ items_inside g slots' settles' items 1 0 contents others inner within (omega arith) ∙ last_one.comes))
    ∙ all_settle slots' settles'
open_fills (open_fragments tag vr values last) closed g slots atoms (s, fo, mi, is) settles low =
    let here : Tag → Cell = list_here tag in
    let slots' : List Slot = filled here same_sets slots in
    let settles' = filled_settled here same_sets (list_settled tag) slots settles in
    let last_one = fragment_inside g slots' settles' 0 last (omega arith) in
    ap settled_slots
    (slots_of_state (suc last_one.depth) g slots' (fold next (at 0 g slots) atoms)
    (ap (fold next (at 0 g slots)) is ∙ list_state g slots s tag vr Undefined (fragments_then values (open_fragment_atoms last)) refl refl
    ∙ fragments_inside g slots' settles' 0 values (open_fragment_atoms last) (omega arith) ∙ last_one.comes))
    ∙ all_settle slots' settles'

-- of what is open nothing is named
unknown_of_state : (d : ℕ) (g : Mark) (slots : List Slot) (t : State) → t ≡ at d g slots → t.unknown ≡ g.unknown
unknown_of_state d g slots t e = ap (λ (u : State). u.unknown) e

ends_unknown : (closed : Bool) (g : Mark) (slots : List Slot) → (fold next (at 0 g slots) (end_atoms closed)).unknown ≡ g.unknown
ends_unknown true g slots = refl
ends_unknown false g slots = refl

open_unknown : (o : OpenTree) (closed : Bool) (g : Mark) (slots : List Slot) (atoms : List Atom) → ShowsOpen o (end_atoms closed) atoms → AllSettled slots → StaysShallow 0 atoms
    → (fold next (at 0 g slots) atoms).unknown ≡ g.unknown
unfolding ShowsOpen
open_unknown nothing_open closed g slots atoms e settles low = ap (λ (x : List Atom). (fold next (at 0 g slots) x).unknown) e ∙ ends_unknown closed g slots
open_unknown (open_leaf tag vr size value) closed g slots atoms (s, fo, le, is) settles low =
    ap (λ (x : List Atom). (fold next (at 0 g slots) x).unknown) is
    ∙ ap (λ (u : State). u.unknown) (bytes_taken (next (at 0 g slots) (opens tag vr (Known size) s)) (order s vr value))
open_unknown (open_sequence tag vr declared items last) closed g slots atoms (s, contents, others, fo, is, inner, more) settles low =
    let here : Tag → Cell = list_here tag in
    let slots' : List Slot = filled here same_sets slots in
    let settles' = filled_settled here same_sets (list_settled tag) slots settles in
    let within = stays_opened 0 a_sequence tag vr declared s contents fo (stays_same 0 atoms _ is low) in
    let last_one = item_inside g slots' settles' last 1 0 others more (stays_items 1 items contents others inner within) (omega arith) in
    unknown_of_state (suc last_one.depth) g slots' (fold next (at 0 g slots) atoms)
    (ap (fold next (at 0 g slots)) is ∙ list_state g slots s tag vr declared contents (sequence_not_shown s tag vr declared fo) (sequence_sets_nothing s tag vr declared fo)
    ∙ items_inside g slots' settles' items 1 0 contents others inner within (omega arith) ∙ last_one.comes)
open_unknown (open_fragments tag vr values last) closed g slots atoms (s, fo, mi, is) settles low =
    let here : Tag → Cell = list_here tag in
    let slots' : List Slot = filled here same_sets slots in
    let settles' = filled_settled here same_sets (list_settled tag) slots settles in
    let last_one = fragment_inside g slots' settles' 0 last (omega arith) in
    unknown_of_state (suc last_one.depth) g slots' (fold next (at 0 g slots) atoms)
    (ap (fold next (at 0 g slots)) is ∙ list_state g slots s tag vr Undefined (fragments_then values (open_fragment_atoms last)) refl refl
    ∙ fragments_inside g slots' settles' 0 values (open_fragment_atoms last) (omega arith) ∙ last_one.comes)

-- ---- a data set

-- the state with what was held before
abbrev pub held_at : (greatest : Tag) → Held → State
held_at greatest held = at 0 (record { greatest = greatest; unknown = held.unknown }) held.slots

both_held : (a b : List Slot) (x y : Bool) → a ≡ b → x ≡ y → (let h : Held = record { slots = a; unknown = x } in h) ≡ record { slots = b; unknown = y }
both_held a b x y same also = ap (λ (u : List Slot). let h : Held = record { slots = u; unknown = x } in h) same ∙ ap (λ (u : Bool). let h : Held = record { slots = b; unknown = u } in h) also

front_fills : (trees : Trees) (o : OpenTree) (r r' : Option Tag) (c c' : Bool) (g : Mark) (slots : List Slot) (s : Syntax) (read : List ℕ) → SpellsFront s (front trees o r c) read → AllSettled slots → StaysShallow 0 (front_atoms s (front trees o r' c'))
    → held_by (fold next (at 0 g slots) (front_atoms s (front trees o r' c'))) ≡ held_with s (front trees o r' c') (record { slots = slots; unknown = g.unknown })
unfolding SpellsFront front_atoms
front_fills trees o r r' c c' g slots s read (others, placed, op, re, cl) settles low =
    let atoms : List Atom = open_atoms (after_trees s trees) o (end_atoms c') in
    let slots' : List Slot = filled (cells_in s trees) (sets_in trees) slots in
    let g' : Mark = trees_marked g trees in
    let settles' = filled_settled (cells_in s trees) (sets_in trees) (cells_settled trees s) slots settles in
    let shown = open_shown (after_trees s trees) o others (end_atoms c') op in
    let behind = trees_low trees s read others atoms placed low in
    ap held_by (trees_fill trees s g slots read others atoms placed settles low)
    ∙ both_held _ _ _ _
    (open_fills o c' g' slots' atoms shown settles' behind
    ∙ filled_twice (cells_in s trees) (open_in o) (sets_in trees) same_sets slots
    ∙ filled_same (first_cell (cells_in s trees) (open_in o)) (λ (t : Tag). front_cell s t (front trees o r' c')) (first_sets (cells_in s trees) (sets_in trees) same_sets) (sets_in trees)
    (λ (t : Tag). refl) (λ (t : Tag) (z : Sets). kept_same (trees_cell s t trees) (trees_sets t z trees)) slots)
    (open_unknown o c' g' slots' atoms shown settles' behind ∙ unknown_marked g trees)

read_fills : (stop : Stop) (f : Front) (g : Mark) (slots : List Slot) (s : Syntax) (read : List ℕ) → SpellsFront s f read → AllSettled slots → StaysShallow 0 (front_atoms s (ended_front stop f))
    → held_by (fold next (at 0 g slots) (front_atoms s (ended_front stop f))) ≡ held_with s (ended_front stop f) (record { slots = slots; unknown = g.unknown })
read_fills complete (front trees o r c) g slots s read spelled settles low = front_fills trees o r r c true g slots s read spelled settles low
read_fills (refused fault offset) (front trees o r c) g slots s read spelled settles low = front_fills trees o r r c c g slots s read spelled settles low

pub rows_fill : (greatest : Tag) (held : Held) (bar : Bar) (s : Syntax) (start : ℕ) (bytes : List ℕ) (f : Front) (stop : Stop) → AllSettled held.slots → StaysShallow 0 (front_atoms s f) → Reads bar s start bytes f stop
    → held_by (fold next (held_at greatest held) (front_atoms s f)) ≡ held_with s f held
rows_fill greatest held bar s start bytes f stop settles low (reached, why, first, told, is) =
    subst (λ (x : Front). held_by (fold next (held_at greatest held) (front_atoms s x)) ≡ held_with s x held) (sym is)
    (read_fills stop reached (record { greatest = greatest; unknown = held.unknown }) held.slots s first.read first.spelled settles (subst (λ (x : Front). StaysShallow 0 (front_atoms s x)) is low))

-- so they do of what was read so far, whose end was not reached
pub so_far_fill : (greatest : Tag) (held : Held) (s : Syntax) (f : Front) (read : List ℕ) → SpellsFront s f read → AllSettled held.slots → StaysShallow 0 (front_atoms s f)
    → held_by (fold next (held_at greatest held) (front_atoms s f)) ≡ held_with s f held
so_far_fill greatest held s (front trees o r c) read spelled settles low =
    front_fills trees o r r c c (record { greatest = greatest; unknown = held.unknown }) held.slots s read spelled settles low
