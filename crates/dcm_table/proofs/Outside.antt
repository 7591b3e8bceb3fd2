-- What the cells make of the elements of the outermost level.
use Rattle.std.proofs.Common.{◌≡◌, ◌∙◌, sym, ap, refl, ℕ, ◌<◌, ◌≤◌, List, [], ◌∷◌, ◌++◌, length, map, fold, arith, Option, None, Bool, true, false}
use Rattle.std.specs.Prelude.{nat_le, nat_lt, ◌||◌, if◌then◌else◌}
use Rattle.std.proofs.lemmas.Bool.{cases_lt, lt-ltb}
use Rattle.std.proofs.lemmas.Bool.Decides.{nat_tests}
use Rattle.std.proofs.lemmas.List.Sums.{fold-append}
use mathlib.Core.Logic.{⊎_elim}
use Rattle.dcm_lemmas.proofs.Numbers.{above_not_within}
use Rattle.dcm_lemmas.proofs.Choice.{if_false, if_true}
use Rattle.dcm_base.specs.declared.tag.Tag.{Tag}
use Rattle.dcm_base.specs.declared.vr.Vr.{Vr}
use Rattle.dcm_base.specs.declared.vr.Vr.TheVariants.{SQ, UN}
use Rattle.dcm_base.specs.declared.length.Length.{Length}
use Rattle.dcm_base.specs.declared.length.Length.TheVariants.{Known, Undefined}
use Rattle.dcm_base.specs.declared.syntax.Syntax.{Syntax}
use Rattle.dcm_base.specs.declared.syntax.Syntax.TheVariants.{Implicit as implicit_in, Little as little_in, Big as big_in}
use Rattle.dcm_base.specs.declared.dictionary.Dictionary.{Dictionary}
use Rattle.dcm_base.specs.declared.dictionary.Dictionary.TheVariants.{Extract, Standard, Signed}
use Rattle.dcm_base.specs.declared.form.Form.TheVariants.{Sequence as a_sequence}
use Rattle.dcm_base.specs.Tables.Dictionary.{vr_in}
use Rattle.dcm_base.specs.Tables.Representation.{is_sequence}
use Rattle.dcm_base.specs.Tables.Tag.{same_tag}
use Rattle.dcm_base.specs.Bytes.Spelling.{form, read_as}
use Rattle.dcm_base.specs.Tree.Value.{order}
use Rattle.dcm_base.specs.Steps.Atoms.{Atom, opens, value_byte, closes_leaf}
use Rattle.dcm_base.proofs.Conversions.Order.{order_twice, length-order}
use Rattle.dcm_text.specs.declared.sets.Sets.{Sets}
use Rattle.dcm_table.specs.Cell.{Cell, missing, open_value, open_too_long, whole, too_long, not_shown, with_byte, with_head, ended, opened, opened_as, is_shown, shown_vr}
use Rattle.dcm_table.specs.InForce.{is_setting, set_by}
use Rattle.dcm_base.specs.Tree.Tree.{Trees, no_tree, leaf, sequence, fragments}
use Rattle.dcm_sinks.specs.Unknown.{sets_unknown}
use Rattle.dcm_table.specs.Shown.{settled, AllSettled, cell_or, leaf_cell, trees_unknown}
use Rattle.dcm_table.specs.TableSink.{Slot, State, next, slot_step, kept_or, opens_setting, setting_opened, with_sets}
use Rattle.dcm_table.proofs.CellSteps.{missing_stays, too_long_stays, whole_stays, long_stays, not_shown_stays, fits, passes}
use Rattle.dcm_table.proofs.EachSlot.{bytes_taken, bytes_in_slot}
use Rattle.dcm_table.proofs.Folds.{map_map}
use Rattle.dcm_table.proofs.Inside.{Mark, at}
use Rattle.dcm_table.proofs.Settings.{unknown_by, hidden_sets_nothing, kept_if, kept_leaf, kept_of, kept_same, kept_twice, named_by, set_each, set_slot}
use Rattle.dcm_sinks.specs.SettingValue.{sets_with}

-- ---- maps over slots

abbrev with_cell : Tag → Sets → Cell → Slot
with_cell t z c = (t, c, z)

-- with these cells, and what is in force then, where none came before
abbrev pub filled_slot : (Tag → Cell) → (Tag → Sets → Sets) → Slot → Slot
filled_slot x to c = (c.0, cell_or c.1 (x c.0), kept_or c.1 c.2 (to c.0 c.2))

abbrev pub filled : (Tag → Cell) → (Tag → Sets → Sets) → List Slot → List Slot
filled x to slots = map (λ (c : Slot). filled_slot x to c) slots

pub alike : (f g : Slot → Slot) → ((c : Slot) → settled c.1 ≡ c.1 → f c ≡ g c) → (slots : List Slot) → AllSettled slots → map f slots ≡ map g slots
alike f g same [] h = refl
alike f g same (c ∷ slots) h = ap (λ (x : Slot). x ∷ map f slots) (same c h.0) ∙ ap (λ (x : List Slot). g c ∷ x) (alike f g same slots h.1)

pub everywhere : (f g : Slot → Slot) → ((c : Slot) → f c ≡ g c) → (slots : List Slot) → map f slots ≡ map g slots
everywhere f g same [] = refl
everywhere f g same (c ∷ slots) = ap (λ (x : Slot). x ∷ map f slots) (same c) ∙ ap (λ (x : List Slot). g c ∷ x) (everywhere f g same slots)

or_settled : (c x : Cell) → settled c ≡ c → settled x ≡ x → settled (cell_or c x) ≡ cell_or c x
or_settled missing x e h = h
or_settled (open_value vr shown s bytes) x e h = e
or_settled open_too_long x e h = e
or_settled (whole shown value) x e h = e
or_settled too_long x e h = e
or_settled not_shown x e h = e

pub filled_settled : (x : Tag → Cell) (to : Tag → Sets → Sets) → ((t : Tag) → settled (x t) ≡ x t) → (slots : List Slot) → AllSettled slots → AllSettled (filled x to slots)
filled_settled x to h [] e = tt
filled_settled x to h (c ∷ slots) e = (or_settled c.1 (x c.0) e.0 (h c.0), filled_settled x to h slots e.1)

pub or_both : (c x y : Cell) → cell_or (cell_or c x) y ≡ cell_or c (cell_or x y)
or_both missing x y = refl
or_both (open_value vr shown s bytes) x y = refl
or_both open_too_long x y = refl
or_both (whole shown value) x y = refl
or_both too_long x y = refl
or_both not_shown x y = refl

pub or_none : (c : Cell) → cell_or c missing ≡ c
or_none missing = refl
or_none (open_value vr shown s bytes) = refl
or_none open_too_long = refl
or_none (whole shown value) = refl
or_none too_long = refl
or_none not_shown = refl

-- two readings one after another
abbrev pub first_cell : (x y : Tag → Cell) → Tag → Cell
first_cell x y t = cell_or (x t) (y t)

abbrev pub first_sets : (x : Tag → Cell) → (to on : Tag → Sets → Sets) → Tag → Sets → Sets
first_sets x to on t z = kept_or (x t) (to t z) (on t (to t z))

pub filled_twice : (x y : Tag → Cell) (to on : Tag → Sets → Sets) (slots : List Slot) → filled y on (filled x to slots) ≡ filled (first_cell x y) (first_sets x to on) slots
filled_twice x y to on slots =
    map_map (λ (c : Slot). filled_slot x to c) (λ (c : Slot). filled_slot y on c) slots
    ∙ everywhere (λ (c : Slot). filled_slot y on (filled_slot x to c)) (λ (c : Slot). filled_slot (first_cell x y) (first_sets x to on) c)
    (λ (c : Slot).
    ap (λ (d : Cell). with_cell c.0 (kept_or (cell_or c.1 (x c.0)) (kept_or c.1 c.2 (to c.0 c.2)) (on c.0 (kept_or c.1 c.2 (to c.0 c.2)))) d) (or_both c.1 (x c.0) (y c.0))
    ∙ ap (λ (z : Sets). with_cell c.0 z (cell_or c.1 (cell_or (x c.0) (y c.0)))) (kept_twice c.1 (x c.0) c.2 (to c.0 c.2) (on c.0))) slots

pub filled_same : (x y : Tag → Cell) (to on : Tag → Sets → Sets) → ((t : Tag) → x t ≡ y t) → ((t : Tag) (z : Sets) → to t z ≡ on t z) → (slots : List Slot) → filled x to slots ≡ filled y on slots
filled_same x y to on h k slots =
    everywhere (λ (c : Slot). filled_slot x to c) (λ (c : Slot). filled_slot y on c)
    (λ (c : Slot).
    ap (λ (d : Cell). with_cell c.0 (kept_or c.1 c.2 (to c.0 c.2)) (cell_or c.1 d)) (h c.0)
    ∙ ap (λ (z : Sets). with_cell c.0 (kept_or c.1 c.2 z) (cell_or c.1 (y c.0))) (k c.0 c.2)) slots

-- nothing sets anything
abbrev pub same_sets : Tag → Sets → Sets
same_sets t z = z

-- ---- a leaf

le_true : (n m : ℕ) → n ≤ m → nat_le n m ≡ true
le_true n m h = grind (arith, nat_tests)

value_kept : (vr shown : Vr) (s : Syntax) (value : List ℕ) → ended (fold with_byte (open_value vr shown s []) (order s vr value)) ≡ (if nat_le (length value) 16384 then whole shown value else too_long)
value_kept vr shown s value =
    let w : List ℕ = order s vr value in
    let same : length w ≡ length value = length-order s vr value in
    ⊎_elim
    (λ (short : length value < 16385).
    ap ended (fits vr shown s [] w (omega (arith, same, short)))
    ∙ ap (whole shown) (order_twice s vr value)
    ∙ sym (if_true (nat_le (length value) 16384) (whole shown value) too_long (le_true (length value) 16384 (omega (arith, short)))))
    (λ (long : 16385 ≤ length value).
    ap ended (passes vr shown s [] w (omega arith) (omega (arith, same, long)))
    ∙ sym (if_false (nat_le (length value) 16384) (whole shown value) too_long (above_not_within (length value) 16384 (omega (arith, long)))))
    (cases_lt (length value) 16385)

leaf_opened : (b : Bool) (vr shown : Vr) (s : Syntax) (value : List ℕ)
    → ended (fold with_byte (opened_as b vr shown s) (order s vr value)) ≡ (if b then (if nat_le (length value) 16384 then whole shown value else too_long) else not_shown)
leaf_opened true vr shown s value = value_kept vr shown s value
leaf_opened false vr shown s value = ap ended (not_shown_stays (order s vr value))

leaf_if : (t : Bool) (s : Syntax) (tag : Tag) (vr : Vr) (value : List ℕ)
    → ended (fold with_byte (if t then opened s tag vr (Known (length value)) else missing) (order s vr value)) ≡ (if t then leaf_cell s tag vr value else missing)
leaf_if true s tag vr value = leaf_opened (is_shown (shown_vr s tag vr)) vr (shown_vr s tag vr) s value
leaf_if false s tag vr value = ap ended (missing_stays (order s vr value))

leaf_makes : (column : Tag) (c : Cell) (s : Syntax) (tag : Tag) (vr : Vr) (value : List ℕ) → settled c ≡ c
    → ended (fold with_byte (with_head column c s tag vr (Known (length value))) (order s vr value)) ≡ cell_or c (if same_tag tag column then leaf_cell s tag vr value else missing)
leaf_makes column missing s tag vr value e = leaf_if (same_tag tag column) s tag vr value
leaf_makes column (open_value v shown t bytes) s tag vr value e = cc
leaf_makes column open_too_long s tag vr value e = cc
leaf_makes column (whole shown held) s tag vr value e = ap ended (whole_stays shown held (order s vr value))
leaf_makes column too_long s tag vr value e = ap ended (long_stays (order s vr value))
leaf_makes column not_shown s tag vr value e = ap ended (not_shown_stays (order s vr value))

abbrev pub leaf_here : Syntax → Tag → Vr → List ℕ → Tag → Cell
leaf_here s tag vr value column = if same_tag tag column then leaf_cell s tag vr value else missing

abbrev pub leaf_sets : Tag → Vr → List ℕ → Tag → Sets → Sets
leaf_sets tag vr value column sets = if same_tag tag column then sets else set_by tag vr value sets

-- a leaf of the tag is no missing cell
leaf_there : (b t : Bool) (shown : Vr) (value : List ℕ) (x y : Sets) → kept_or (if b then (if t then whole shown value else too_long) else not_shown) x y ≡ x
leaf_there true true shown value x y = refl
leaf_there true false shown value x y = refl
leaf_there false t shown value x y = refl

leaf_kept : (s : Syntax) (tag : Tag) (vr : Vr) (value : List ℕ) (x y : Sets) → kept_or (leaf_cell s tag vr value) x y ≡ x
leaf_kept s tag vr value x y = leaf_there (is_shown (shown_vr s tag vr)) (nat_le (length value) 16384) (shown_vr s tag vr) value x y

leaf_reads : (column : Tag) (c : Cell) (s : Syntax) (tag : Tag) (vr : Vr) (value : List ℕ) (sets : Sets)
    → kept_or (cell_or c (leaf_here s tag vr value column)) sets (sets_with (kept_of s tag vr value) sets) ≡ kept_or c sets (leaf_sets tag vr value column sets)
leaf_reads column c s tag vr value sets =
    ap (kept_or (cell_or c (leaf_here s tag vr value column)) sets) (named_by s tag vr value sets)
    ∙ kept_leaf c (same_tag tag column) (leaf_cell s tag vr value) sets (set_by tag vr value sets) (leaf_kept s tag vr value)

abbrev pub on : ℕ → Mark → List Slot → Option (List ℕ) → State
on d g slots setting = record { depth = d; greatest = g.greatest; slots = slots; setting = setting; unknown = g.unknown }

-- behind a leaf
abbrev pub marked : Mark → Tag → Vr → List ℕ → Mark
marked g tag vr value = record { greatest = g.greatest; unknown = sets_unknown tag vr value || g.unknown }

-- behind the elements of a data set
unfoldable pub trees_marked : Mark → Trees → Mark
trees_marked g no_tree = g
trees_marked g (leaf tag vr value rest) = trees_marked (marked g tag vr value) rest
trees_marked g (sequence tag vr declared items rest) = trees_marked g rest
trees_marked g (fragments tag vr values rest) = trees_marked g rest

pub same_greatest : (g : Mark) (t : Trees) → (trees_marked g t).greatest ≡ g.greatest
unfolding trees_marked
same_greatest g no_tree = refl
same_greatest g (leaf tag vr value rest) = same_greatest (marked g tag vr value) rest
same_greatest g (sequence tag vr declared items rest) = same_greatest g rest
same_greatest g (fragments tag vr values rest) = same_greatest g rest

one_more : (a b c : Bool) → (b || (a || c)) ≡ ((a || b) || c)
one_more true true c = refl
one_more true false c = refl
one_more false b c = refl

pub unknown_marked : (g : Mark) (t : Trees) → (trees_marked g t).unknown ≡ (trees_unknown t || g.unknown)
unfolding trees_marked trees_unknown
unknown_marked g no_tree = refl
unknown_marked g (leaf tag vr value rest) = unknown_marked (marked g tag vr value) rest ∙ one_more (sets_unknown tag vr value) (trees_unknown rest) g.unknown
unknown_marked g (sequence tag vr declared items rest) = unknown_marked g rest
unknown_marked g (fragments tag vr values rest) = unknown_marked g rest

-- the state after a leaf
pub leaf_state : (g : Mark) (slots : List Slot) (s : Syntax) (tag : Tag) (vr : Vr) (value : List ℕ) (others : List Atom) → AllSettled slots
    → fold next (at 0 g slots) (opens tag vr (Known (length value)) s ∷ (map value_byte (order s vr value) ++ closes_leaf ∷ others)) ≡ fold next (at 0 (marked g tag vr value) (filled (leaf_here s tag vr value) (leaf_sets tag vr value) slots)) others
leaf_state g slots s tag vr value others h =
    let m : Mark = marked g tag vr value in
    let head : Atom = opens tag vr (Known (length value)) s in
    let w : List ℕ = order s vr value in
    let opening : Slot → Slot = λ (c : Slot). slot_step c head in
    let taking : Slot → Slot = λ (c : Slot). fold slot_step c (map value_byte w) in
    let closing : Slot → Slot = λ (c : Slot). slot_step c closes_leaf in
    let setting : Option (List ℕ) = setting_opened (is_setting tag vr) None in
    let kept : Option (List ℕ) = kept_of s tag vr value in
    let behind : Slot → Slot = λ (c : Slot). set_slot kept c in
    fold-append next (on 1 g (map opening slots) setting) (map value_byte w) (closes_leaf ∷ others)
    ∙ ap (λ (t : State). fold next t (closes_leaf ∷ others)) (bytes_taken (on 1 g (map opening slots) setting) w)
    ∙ ap (λ (x : Bool). fold next (at 0 (record { greatest = g.greatest; unknown = x || g.unknown }) (with_sets kept (map closing (map taking (map opening slots))))) others) (unknown_by s tag vr value)
    ∙ ap (λ (x : List Slot). fold next (at 0 m x) others) (set_each kept (map closing (map taking (map opening slots))))
    ∙ ap (λ (x : List Slot). fold next (at 0 m (map behind (map closing x))) others) (map_map opening taking slots)
    ∙ ap (λ (x : List Slot). fold next (at 0 m (map behind x)) others) (map_map (λ (c : Slot). taking (opening c)) closing slots)
    ∙ ap (λ (x : List Slot). fold next (at 0 m x) others) (map_map (λ (c : Slot). closing (taking (opening c))) behind slots)
    ∙ ap (λ (x : List Slot). fold next (at 0 m x) others)
    (alike (λ (c : Slot). behind (closing (taking (opening c)))) (λ (c : Slot). filled_slot (leaf_here s tag vr value) (leaf_sets tag vr value) c)
    (λ (c : Slot) (e : settled c.1 ≡ c.1).
    ap (λ (d : Slot). behind (closing d)) (bytes_in_slot (opening c) w)
    ∙ ap (λ (d : Cell). behind (with_cell c.0 c.2 d)) (leaf_makes c.0 c.1 s tag vr value e)
    ∙ ap (λ (z : Sets). with_cell c.0 z (cell_or c.1 (leaf_here s tag vr value c.0))) (leaf_reads c.0 c.1 s tag vr value c.2)) slots h)

kept_or_long : (t : Bool) (shown : Vr) (value : List ℕ) → settled (if t then whole shown value else too_long) ≡ (if t then whole shown value else too_long)
kept_or_long true shown value = refl
kept_or_long false shown value = refl

shown_or_not : (b t : Bool) (shown : Vr) (value : List ℕ) → settled (if b then (if t then whole shown value else too_long) else not_shown) ≡ (if b then (if t then whole shown value else too_long) else not_shown)
shown_or_not true t shown value = kept_or_long t shown value
shown_or_not false t shown value = refl

if_settled : (t : Bool) (c : Cell) → settled c ≡ c → settled (if t then c else missing) ≡ (if t then c else missing)
if_settled true c e = e
if_settled false c e = refl

pub leaf_cell_settled : (s : Syntax) (tag : Tag) (vr : Vr) (value : List ℕ) → settled (leaf_cell s tag vr value) ≡ leaf_cell s tag vr value
leaf_cell_settled s tag vr value = shown_or_not (is_shown (shown_vr s tag vr)) (nat_le (length value) 16384) (shown_vr s tag vr) value

pub leaf_settled : (s : Syntax) (tag : Tag) (vr : Vr) (value : List ℕ) (column : Tag) → settled (leaf_here s tag vr value column) ≡ leaf_here s tag vr value column
leaf_settled s tag vr value column = if_settled (same_tag tag column) (leaf_cell s tag vr value) (shown_or_not (is_shown (shown_vr s tag vr)) (nat_le (length value) 16384) (shown_vr s tag vr) value)

-- a leaf of the tag counts before what comes after it
found : (b t : Bool) (shown : Vr) (value : List ℕ) (y : Cell) → cell_or (if b then (if t then whole shown value else too_long) else not_shown) y ≡ (if b then (if t then whole shown value else too_long) else not_shown)
found true true shown value y = refl
found true false shown value y = refl
found false t shown value y = refl

found_if : (t : Bool) (c y : Cell) → cell_or c y ≡ c → cell_or (if t then c else missing) y ≡ (if t then c else y)
found_if true c y e = e
found_if false c y e = refl

pub leaf_first : (s : Syntax) (tag : Tag) (vr : Vr) (value : List ℕ) (column : Tag) (y : Cell) → cell_or (leaf_here s tag vr value column) y ≡ (if same_tag tag column then leaf_cell s tag vr value else y)
leaf_first s tag vr value column y = found_if (same_tag tag column) (leaf_cell s tag vr value) y (found (is_shown (shown_vr s tag vr)) (nat_le (length value) 16384) (shown_vr s tag vr) value y)

-- and so does what is in force at its head
pub leaf_first_sets : (s : Syntax) (tag : Tag) (vr : Vr) (value : List ℕ) (column : Tag) (x : Sets) (more : Sets → Sets)
    → kept_or (leaf_here s tag vr value column) (leaf_sets tag vr value column x) (more (leaf_sets tag vr value column x)) ≡ (if same_tag tag column then x else more (set_by tag vr value x))
leaf_first_sets s tag vr value column x more = by_test (same_tag tag column)
  where
    by_test : (t : Bool) → kept_or (if t then leaf_cell s tag vr value else missing) (if t then x else set_by tag vr value x) (more (if t then x else set_by tag vr value x)) ≡ (if t then x else more (set_by tag vr value x))
    by_test true = leaf_kept s tag vr value x (more x)
    by_test false = refl

-- ---- a sequence or a fragment list

sequence_hidden : (vr : Vr) → is_sequence vr ≡ true → is_shown vr ≡ false
sequence_hidden SQ e = refl
sequence_hidden _ e = cc

abbrev read_if : Bool → Vr
read_if t = if t then SQ else UN

unknown_hidden : (t : Bool) (d : Dictionary) (s : Syntax) (tag : Tag) (size : ℕ) → is_sequence (vr_in d tag) ≡ t → form s (read_if t) (Known size) ≡ a_sequence → is_shown (vr_in d tag) ≡ false
unfolding form
unknown_hidden true d s tag size is e = sequence_hidden (vr_in d tag) is
unknown_hidden false d s tag size is e = cc

list_hidden : (s : Syntax) (tag : Tag) (vr : Vr) (size : ℕ) → form s (read_as s tag vr) (Known size) ≡ a_sequence → is_shown (shown_vr s tag vr) ≡ false
unfolding form
list_hidden s tag SQ size e = refl
list_hidden (implicit_in d) tag UN size e = cc
list_hidden (little_in Extract) tag UN size e = cc
list_hidden (little_in Standard) tag UN size e = unknown_hidden (is_sequence (vr_in Standard tag)) Standard (little_in Standard) tag size refl e
list_hidden (little_in Signed) tag UN size e = unknown_hidden (is_sequence (vr_in Signed tag)) Signed (little_in Signed) tag size refl e
list_hidden (big_in Extract) tag UN size e = cc
list_hidden (big_in Standard) tag UN size e = unknown_hidden (is_sequence (vr_in Standard tag)) Standard (big_in Standard) tag size refl e
list_hidden (big_in Signed) tag UN size e = unknown_hidden (is_sequence (vr_in Signed tag)) Signed (big_in Signed) tag size refl e
list_hidden (implicit_in d) tag _ size e = cc
list_hidden (little_in Extract) tag _ size e = cc
list_hidden (little_in Standard) tag _ size e = cc
list_hidden (little_in Signed) tag _ size e = cc
list_hidden (big_in Extract) tag _ size e = cc
list_hidden (big_in Standard) tag _ size e = cc
list_hidden (big_in Signed) tag _ size e = cc

pub sequence_not_shown : (s : Syntax) (tag : Tag) (vr : Vr) (declared : Length) → form s (read_as s tag vr) declared ≡ a_sequence → opened s tag vr declared ≡ not_shown
sequence_not_shown s tag vr (Known size) e = ap (λ (b : Bool). opened_as b vr (shown_vr s tag vr) s) (list_hidden s tag vr size e)
sequence_not_shown s tag vr Undefined e = refl

pub sequence_sets_nothing : (s : Syntax) (tag : Tag) (vr : Vr) (declared : Length) → form s (read_as s tag vr) declared ≡ a_sequence → opens_setting tag vr declared ≡ false
sequence_sets_nothing s tag vr (Known size) e = hidden_sets_nothing s tag vr (list_hidden s tag vr size e)
sequence_sets_nothing s tag vr Undefined e = refl

abbrev pub list_here : Tag → Tag → Cell
list_here tag column = if same_tag tag column then not_shown else missing

list_makes : (column : Tag) (c : Cell) (s : Syntax) (tag : Tag) (vr : Vr) (declared : Length) → opened s tag vr declared ≡ not_shown → with_head column c s tag vr declared ≡ cell_or c (list_here tag column)
list_makes column missing s tag vr declared e = ap (λ (o : Cell). if same_tag tag column then o else missing) e
list_makes column (open_value v shown t bytes) s tag vr declared e = refl
list_makes column open_too_long s tag vr declared e = refl
list_makes column (whole shown held) s tag vr declared e = refl
list_makes column too_long s tag vr declared e = refl
list_makes column not_shown s tag vr declared e = refl

-- the state after its head
pub list_state : (g : Mark) (slots : List Slot) (s : Syntax) (tag : Tag) (vr : Vr) (declared : Length) (others : List Atom) → opened s tag vr declared ≡ not_shown → opens_setting tag vr declared ≡ false
    → fold next (at 0 g slots) (opens tag vr declared s ∷ others) ≡ fold next (at 1 g (filled (list_here tag) same_sets slots)) others
list_state g slots s tag vr declared others e none =
    ap (λ (t : Bool). fold next (on 1 g (map (λ (c : Slot). slot_step c (opens tag vr declared s)) slots) (setting_opened t None)) others) none
    ∙ ap (λ (x : List Slot). fold next (at 1 g x) others)
    (everywhere (λ (c : Slot). slot_step c (opens tag vr declared s)) (λ (c : Slot). filled_slot (list_here tag) same_sets c)
    (λ (c : Slot).
    ap (with_cell c.0 c.2) (list_makes c.0 c.1 s tag vr declared e)
    ∙ ap (λ (z : Sets). with_cell c.0 z (cell_or c.1 (list_here tag c.0))) (sym (kept_same c.1 c.2))) slots)

pub list_settled : (tag column : Tag) → settled (list_here tag column) ≡ list_here tag column
list_settled tag column = if_settled (same_tag tag column) not_shown refl

pub list_first : (tag column : Tag) (y : Cell) → cell_or (list_here tag column) y ≡ (if same_tag tag column then not_shown else y)
list_first tag column y = found_if (same_tag tag column) not_shown y refl

pub list_first_sets : (tag column : Tag) (x y : Sets) → kept_or (list_here tag column) x y ≡ (if same_tag tag column then x else y)
list_first_sets tag column x y = kept_if (same_tag tag column) not_shown x y refl

-- ---- an open leaf

open_settles : (vr shown : Vr) (s : Syntax) (held v : List ℕ) → settled (fold with_byte (open_value vr shown s held) v) ≡ not_shown
open_settles vr shown s held [] = refl
open_settles vr shown s held (b ∷ v) =
    ⊎_elim
    (λ (some : length held < 16384).
    ap (λ (c : Cell). settled (fold with_byte c v)) (if_true (nat_lt (length held) 16384) (open_value vr shown s (held ++ b ∷ [])) open_too_long (lt-ltb (length held) 16384 some))
    ∙ open_settles vr shown s (held ++ b ∷ []) v)
    (λ (full : 16384 ≤ length held).
    ap (λ (c : Cell). settled (fold with_byte c v)) (if_false (nat_lt (length held) 16384) (open_value vr shown s (held ++ b ∷ [])) open_too_long (lt_false (length held) 16384 full))
    ∙ ap settled (too_long_stays v))
    (cases_lt (length held) 16384)
  where
    lt_false : (n m : ℕ) → m ≤ n → nat_lt n m ≡ false
    lt_false n m h = grind (arith, nat_tests)

part_opened : (b : Bool) (vr shown : Vr) (s : Syntax) (v : List ℕ) → settled (fold with_byte (opened_as b vr shown s) v) ≡ not_shown
part_opened true vr shown s v = open_settles vr shown s [] v
part_opened false vr shown s v = ap settled (not_shown_stays v)

part_if : (t : Bool) (s : Syntax) (tag : Tag) (vr : Vr) (size : ℕ) (v : List ℕ) → settled (fold with_byte (if t then opened s tag vr (Known size) else missing) v) ≡ (if t then not_shown else missing)
part_if true s tag vr size v = part_opened (is_shown (shown_vr s tag vr)) vr (shown_vr s tag vr) s v
part_if false s tag vr size v = ap settled (missing_stays v)

part_makes : (column : Tag) (c : Cell) (s : Syntax) (tag : Tag) (vr : Vr) (size : ℕ) (v : List ℕ) → settled c ≡ c
    → settled (fold with_byte (with_head column c s tag vr (Known size)) v) ≡ cell_or c (list_here tag column)
part_makes column missing s tag vr size v e = part_if (same_tag tag column) s tag vr size v
part_makes column (open_value u shown t bytes) s tag vr size v e = cc
part_makes column open_too_long s tag vr size v e = cc
part_makes column (whole shown held) s tag vr size v e = ap settled (whole_stays shown held v)
part_makes column too_long s tag vr size v e = ap settled (long_stays v)
part_makes column not_shown s tag vr size v e = ap settled (not_shown_stays v)

abbrev settled_slot : Slot → Slot
settled_slot c = (c.0, settled c.1, c.2)

-- the cells after its bytes so far
pub part_state : (g : Mark) (slots : List Slot) (s : Syntax) (tag : Tag) (vr : Vr) (size : ℕ) (v : List ℕ) → AllSettled slots
    → map settled_slot (fold next (at 0 g slots) (opens tag vr (Known size) s ∷ map value_byte v)).slots ≡ filled (list_here tag) same_sets slots
part_state g slots s tag vr size v h =
    let opening : Slot → Slot = λ (c : Slot). slot_step c (opens tag vr (Known size) s) in
    let taking : Slot → Slot = λ (c : Slot). fold slot_step c (map value_byte v) in
    ap (λ (t : State). map settled_slot t.slots) (bytes_taken (on 1 g (map opening slots) (setting_opened (is_setting tag vr) None)) v)
    ∙ ap (map settled_slot) (map_map opening taking slots)
    ∙ map_map (λ (c : Slot). taking (opening c)) settled_slot slots
    ∙ alike (λ (c : Slot). settled_slot (taking (opening c))) (λ (c : Slot). filled_slot (list_here tag) same_sets c)
    (λ (c : Slot) (e : settled c.1 ≡ c.1).
    ap settled_slot (bytes_in_slot (opening c) v)
    ∙ ap (with_cell c.0 c.2) (part_makes c.0 c.1 s tag vr size v e)
    ∙ ap (λ (z : Sets). with_cell c.0 z (cell_or c.1 (list_here tag c.0))) (sym (kept_same c.1 c.2))) slots h
