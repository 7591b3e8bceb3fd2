-- The open containers of a path, and the room that their ends leave.
use Rattle.std.proofs.Common.{◌≡◌, ℕ, ◌+◌, ◌-◌, ◌≤◌, min, List, [], ◌∷◌, ◌++◌, length, Option, Some, None, true, false, refl, ap, subst, arith, length-append}
use Rattle.std.proofs.lemmas.Bool.{ltb-false, le-ltb}
use Rattle.dcm_base.specs.declared.tag.Tag.{Tag}
use Rattle.dcm_base.specs.declared.vr.Vr.{Vr}
use Rattle.dcm_base.specs.declared.syntax.Syntax.{Syntax}
use Rattle.dcm_base.specs.declared.length.Length.{Length}
use Rattle.dcm_base.specs.declared.length.Length.TheVariants.{Known, Undefined}
use Rattle.dcm_base.specs.Tree.Tree.{Trees, Items}
use Rattle.dcm_base.specs.Tree.Front.{front, OpenTree, nothing_open, open_sequence, no_open_item, open_item}
use Rattle.dcm_base.specs.Bytes.Head.{head_size}
use Rattle.dcm_base.specs.Bytes.Spelling.{inside, reached_tag, StaysOpen}
use Rattle.dcm_base.specs.Reading.Size.{trees_size, items_size}
use Rattle.dcm_base.specs.Reading.Place.{Container, the_data_set, an_item, a_sequence, Level, level, end_of, levels, set_levels, tree_levels, least, distance, room, passes}
use Rattle.dcm_base.proofs.DataSets.Sizes.{element_takes, item_takes, trees_take, items_take}
use Rattle.dcm_base.proofs.DataSets.Path.{Path, at_top, in_item, plug, syntax_of, behind, item_length, PathAt, RoomFor, Placed, Roomy}

abbrev pub container_of : Path → Container
container_of at_top = the_data_set
container_of (in_item outer above tag vr declared items item_declared) = an_item

-- where the innermost set's contents begin
abbrev pub begin_of : Syntax → (start : ℕ) → Path → ℕ
begin_of s start at_top = start
begin_of s start (in_item outer above tag vr declared items item_declared) =
    begin_of s start outer + trees_size (syntax_of s outer) above + head_size (behind s outer above) vr + items_size (inside (behind s outer above) vr) items + 8

-- the containers round the innermost set
abbrev pub around : Syntax → (start : ℕ) → Path → List Level
around s start at_top = []
around s start (in_item outer above tag vr declared items item_declared) =
    level a_sequence (inside (behind s outer above) vr) declared (begin_of s start outer + trees_size (syntax_of s outer) above + head_size (behind s outer above) vr)
    ∷ level (container_of outer) (behind s outer above) (item_length outer) (begin_of s start outer)
    ∷ around s start outer

pub plug_levels : (s : Syntax) (start : ℕ) (path : Path) (whole : Trees) (o : OpenTree)
    → levels s start (plug path whole o) ≡ tree_levels (behind s path whole) (begin_of s start path + trees_size (syntax_of s path) whole)
    (level (container_of path) (behind s path whole) (item_length path) (begin_of s start path) ∷ around s start path) o
unfolding levels set_levels
plug_levels s start at_top whole o = refl
plug_levels s start (in_item outer above tag vr declared items item_declared) whole o =
    plug_levels s start outer above (open_sequence tag vr declared items (open_item item_declared (front whole o (reached_tag whole o) false)))

-- the place in the input, counted from the innermost set
pub path_position : (s : Syntax) (start : ℕ) (path : Path) (b c : List ℕ) → PathAt s path b c → start + length b ≡ begin_of s start path + length c
path_position s start at_top b c h = ap (λ (x : List ℕ). start + length x) h
path_position s start (in_item outer above tag vr declared items item_declared) b c (d, e, f, g, path, stays, above_at, fo, head, room, items_at, item_head) =
    omega (
      arith,
      path_position s start outer b d path,
      trees_take (syntax_of s outer) above d e above_at,
      element_takes (behind s outer above) tag vr declared e f head,
      items_take (inside (behind s outer above) vr) items f g items_at,
      item_takes (inside (behind s outer above) vr) item_declared g c item_head,
    )

-- what is least passes no less
pub least_passes : (n : ℕ) (a b : Option ℕ) → passes n (least a b) ≡ false → (passes n a ≡ false) × (passes n b ≡ false)
least_passes n None b h = (refl, h)
least_passes n (Some x) None h = (h, refl)
least_passes n (Some x) (Some y) h =
    let le : n ≤ min x y = ltb-false _ _ h in
    (le-ltb x n (omega arith), le-ltb y n (omega arith))

pub level_stays : (declared : Length) (begin position : ℕ) (c z : List ℕ) → StaysOpen declared true c → position ≡ begin + length c → passes (length z) (distance position (end_of declared begin)) ≡ false → StaysOpen declared true (c ++ z)
level_stays Undefined begin position c z stays at h = tt
level_stays (Known size) begin position c z stays at h =
    let le : length z ≤ begin + size - position = ltb-false _ _ h in
    omega (arith, length-append c z)

pub room_around : (s : Syntax) (start : ℕ) (path : Path) (b c z : List ℕ) (h : PathAt s path b c) → passes (length z) (room (start + length b) (around s start path)) ≡ false → RoomFor s path b c h z
unfolding room
room_around s start at_top b c z h free = tt
room_around s start (in_item outer above tag vr declared items item_declared) b c z (d, e, f, g, path, stays, above_at, fo, head, inner, items_at, item_head) free =
    let position = path_position s start outer b d path in
    let begin_item = begin_of s start outer in
    let begin_list = begin_of s start outer + trees_size (syntax_of s outer) above + head_size (behind s outer above) vr in
    let at_list : start + length b ≡ begin_list + length f = omega (arith, position, trees_take (syntax_of s outer) above d e above_at, element_takes (behind s outer above) tag vr declared e f head) in
    let both = least_passes (length z) (distance (start + length b) (end_of declared begin_list))
    (least (distance (start + length b) (end_of (item_length outer) begin_item)) (room (start + length b) (around s start outer))) free in
    let rest = least_passes (length z) (distance (start + length b) (end_of (item_length outer) begin_item)) (room (start + length b) (around s start outer)) both.1 in (
      level_stays (item_length outer) begin_item (start + length b) d z stays position rest.0,
      level_stays declared begin_list (start + length b) f z inner at_list both.0,
      room_around s start outer b d z path rest.1,
    )

-- where a head doesn't pass the room of the front, there is room at the place
pub room_in_set : (s : Syntax) (start : ℕ) (path : Path) (whole : Trees) (b z : List ℕ) (h : Placed s path whole nothing_open b)
    → passes (length z) (room (start + length b) (levels s start (plug path whole nothing_open))) ≡ false → Roomy s path whole nothing_open b h z
unfolding room set_levels
room_in_set s start path whole b z h free =
    let inner = level (container_of path) (behind s path whole) (item_length path) (begin_of s start path) in
    let free' : passes (length z) (room (start + length b) (inner ∷ around s start path)) ≡ false =
    subst (λ (ls : List Level). passes (length z) (room (start + length b) ls) ≡ false) (plug_levels s start path whole nothing_open) free in
    let both = least_passes (length z) (distance (start + length b) (end_of (item_length path) (begin_of s start path))) (room (start + length b) (around s start path)) free' in (
      room_around s start path b h.c z h.path_at both.1,
      level_stays (item_length path) (begin_of s start path) (start + length b) h.c z h.stays (path_position s start path b h.c h.path_at) both.0,
    )

pub room_in_sequence : (s : Syntax) (start : ℕ) (path : Path) (whole : Trees) (tag : Tag) (vr : Vr) (declared : Length) (items : Items) (b z : List ℕ)
    (h : Placed s path whole (open_sequence tag vr declared items no_open_item) b)
    → passes (length z) (room (start + length b) (levels s start (plug path whole (open_sequence tag vr declared items no_open_item)))) ≡ false
    → Roomy s path whole (open_sequence tag vr declared items no_open_item) b h z × StaysOpen declared true (h.open_at.0 ++ z)
unfolding room set_levels
room_in_sequence s start path whole tag vr declared items b z h free =
    let s' = behind s path whole in
    let o = open_sequence tag vr declared items no_open_item in
    let begin_set = begin_of s start path in
    let begin_list = begin_of s start path + trees_size (syntax_of s path) whole + head_size s' vr in
    let position = path_position s start path b h.c h.path_at in
    let at_list : start + length b ≡ begin_list + length h.open_at.0 = omega (arith, position, trees_take (syntax_of s path) whole h.c h.d h.trees_at, element_takes s' tag vr declared h.d h.open_at.0 h.open_at.2) in
    let free' = subst (λ (ls : List Level). passes (length z) (room (start + length b) ls) ≡ false) (plug_levels s start path whole o) free in
    let both = least_passes (length z) (distance (start + length b) (end_of declared begin_list))
    (least (distance (start + length b) (end_of (item_length path) begin_set)) (room (start + length b) (around s start path))) free' in
    let rest = least_passes (length z) (distance (start + length b) (end_of (item_length path) begin_set)) (room (start + length b) (around s start path)) both.1 in (
      (room_around s start path b h.c z h.path_at rest.1, level_stays (item_length path) begin_set (start + length b) h.c z h.stays position rest.0),
      level_stays declared begin_list (start + length b) h.open_at.0 z h.open_at.3 at_list both.0,
    )
