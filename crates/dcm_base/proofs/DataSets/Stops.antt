-- The stop at each kind of place.
use Rattle.std.proofs.Common.{◌≡◌, ℕ, ◌+◌, List, ◌∷◌, Bool, true, false, cond, refl, ap, ◌∙◌}
use Rattle.dcm_base.specs.declared.tag.Tag.{Tag}
use Rattle.dcm_base.specs.declared.vr.Vr.{Vr}
use Rattle.dcm_base.specs.declared.syntax.Syntax.{Syntax}
use Rattle.dcm_base.specs.declared.length.Length.{Length}
use Rattle.dcm_base.specs.Tree.Tree.{Trees, Items}
use Rattle.dcm_base.specs.Tree.Front.{Front, front, OpenTree, nothing_open, open_leaf, open_sequence, no_open_item, open_item}
use Rattle.dcm_base.specs.Bytes.Head.{head_size}
use Rattle.dcm_base.specs.Bytes.Spelling.{inside}
use Rattle.dcm_base.specs.Reading.Size.{trees_size}
use Rattle.dcm_base.specs.Reading.Place.{a_sequence, Level, level, levels, set_levels, value_open, value_open_in_tree}
use Rattle.dcm_base.specs.Reading.Stop.{Bar, stop_at, value_stop, innermost_stop, place_stop}
use Rattle.dcm_base.proofs.DataSets.Path.{Path, at_top, in_item, plug, syntax_of, behind, item_length}
use Rattle.dcm_base.proofs.DataSets.Levels.{container_of, begin_of, around, plug_levels}

pub value_open_plug : (path : Path) (whole : Trees) (o : OpenTree) → value_open (plug path whole o) ≡ value_open_in_tree o
unfolding value_open
value_open_plug at_top whole o = refl
value_open_plug (in_item outer above tag vr declared items item_declared) whole o =
    value_open_plug outer above (open_sequence tag vr declared items (open_item item_declared (front whole o _ false)))

-- the innermost set of a path, as a level
abbrev pub set_level : Syntax → (start : ℕ) → Path → Trees → Level
set_level s start path whole = level (container_of path) (behind s path whole) (item_length path) (begin_of s start path)

stop_by : (bar : Bar) (s : Syntax) (start : ℕ) (f : Front) (position : ℕ) (rest : List ℕ) (is : Bool) (ls : List Level) → value_open f ≡ is → levels s start f ≡ ls
    → stop_at bar s start f position rest ≡ cond is (value_stop position rest) (innermost_stop (bar f) ls position rest)
unfolding stop_at
stop_by bar s start f position rest is ls v l =
    ap (λ (x : Bool). cond x (value_stop position rest) (innermost_stop (bar f) (levels s start f) position rest)) v
    ∙ ap (λ (x : List Level). cond is (value_stop position rest) (innermost_stop (bar f) x position rest)) l

pub stop_in_set : (bar : Bar) (s : Syntax) (start : ℕ) (path : Path) (whole : Trees) (position : ℕ) (rest : List ℕ)
    → stop_at bar s start (plug path whole nothing_open) position rest
    ≡ place_stop (bar (plug path whole nothing_open)) (set_level s start path whole) (set_level s start path whole ∷ around s start path) position rest
unfolding set_levels value_open
stop_in_set bar s start path whole position rest =
    stop_by bar s start (plug path whole nothing_open) position rest false (set_level s start path whole ∷ around s start path)
    (value_open_plug path whole nothing_open) (plug_levels s start path whole nothing_open)

pub stop_in_sequence : (bar : Bar) (s : Syntax) (start : ℕ) (path : Path) (whole : Trees) (tag : Tag) (vr : Vr) (declared : Length) (items : Items) (position : ℕ) (rest : List ℕ)
    → let o = open_sequence tag vr declared items no_open_item in
    let inner = level a_sequence (inside (behind s path whole) vr) declared (begin_of s start path + trees_size (syntax_of s path) whole + head_size (behind s path whole) vr) in
    stop_at bar s start (plug path whole o) position rest
    ≡ place_stop (bar (plug path whole o)) inner (inner ∷ set_level s start path whole ∷ around s start path) position rest
unfolding set_levels value_open
stop_in_sequence bar s start path whole tag vr declared items position rest =
    stop_by bar s start (plug path whole (open_sequence tag vr declared items no_open_item)) position rest false _
    (value_open_plug path whole (open_sequence tag vr declared items no_open_item)) (plug_levels s start path whole (open_sequence tag vr declared items no_open_item))

pub stop_in_value : (bar : Bar) (s : Syntax) (start : ℕ) (path : Path) (whole : Trees) (tag : Tag) (vr : Vr) (size : ℕ) (value : List ℕ) (position : ℕ) (rest : List ℕ)
    → stop_at bar s start (plug path whole (open_leaf tag vr size value)) position rest ≡ value_stop position rest
unfolding value_open
stop_in_value bar s start path whole tag vr size value position rest =
    stop_by bar s start (plug path whole (open_leaf tag vr size value)) position rest true (levels s start (plug path whole (open_leaf tag vr size value)))
    (value_open_plug path whole (open_leaf tag vr size value)) refl
