-- The room that a place leaves.
use Rattle.std.proofs.Common.{◌≡◌, ℕ, ◌+◌, ◌-◌, ◌≤◌, min, List, [], ◌∷◌, length, Option, Some, None, false, refl, arith}
use Rattle.std.proofs.lemmas.Bool.{ltb-false, le-ltb}
use Rattle.dcm_base.specs.declared.syntax.Syntax.{Syntax}
use Rattle.dcm_base.specs.Tree.Tree.{Trees}
use Rattle.dcm_base.specs.Tree.Front.{OpenTree}
use Rattle.dcm_base.specs.declared.level.Level.{Level}
use Rattle.dcm_base.specs.Reading.Place.{end_of, least, distance, room, passes}
use Rattle.dcm_base.proofs.DataSets.Path.{Path, item_length, Placed, Roomy}
use Rattle.dcm_base.proofs.DataSets.Levels.{begin_of, around, path_position, least_passes, level_stays, room_around}
use Rattle.dcm_base.proofs.DataSets.Stops.{set_level}

pub passes_zero : (r : Option ℕ) → passes 0 r ≡ false
passes_zero None = refl
passes_zero (Some n) = le-ltb n 0 (omega arith)

pub passes_less : (m n : ℕ) (r : Option ℕ) → m ≤ n → passes n r ≡ false → passes m r ≡ false
passes_less m n None le h = refl
passes_less m n (Some k) le h = let e : n ≤ k = ltb-false k n h in le-ltb k m (omega arith)

from_least : (n : ℕ) (a b : Option ℕ) → passes n a ≡ false → passes n b ≡ false → passes n (least a b) ≡ false
from_least n None b ha hb = hb
from_least n (Some x) None ha hb = ha
from_least n (Some x) (Some y) ha hb =
    let le : n ≤ x = ltb-false x n ha in
    let le' : n ≤ y = ltb-false y n hb in
    le-ltb (min x y) n (omega arith)

distance_later : (m n position : ℕ) (e : Option ℕ) → passes (m + n) (distance position e) ≡ false → passes n (distance (position + m) e) ≡ false
distance_later m n position None h = refl
distance_later m n position (Some end) h =
    let le : m + n ≤ end - position = ltb-false (end - position) (m + n) h in
    le-ltb (end - (position + m)) n (omega arith)

pub passes_later : (m n position : ℕ) (ls : List Level) → passes (m + n) (room position ls) ≡ false → passes n (room (position + m) ls) ≡ false
unfolding room
passes_later m n position [] h = refl
passes_later m n position (inner ∷ outer) h =
    let both = least_passes (m + n) (distance position inner.end_offset) (room position outer) h in
    from_least n (distance (position + m) inner.end_offset) (room (position + m) outer) (distance_later m n position inner.end_offset both.0) (passes_later m n position outer both.1)

pub room_outside : (n position : ℕ) (inner : Level) (outer : List Level) → passes n (room position (inner ∷ outer)) ≡ false → passes n (room position outer) ≡ false
unfolding room
room_outside n position inner outer h = (least_passes n (distance position inner.end_offset) (room position outer) h).1

pub room_inside : (n position : ℕ) (inner : Level) (outer : List Level) → passes n (room position (inner ∷ outer)) ≡ false → passes n (distance position inner.end_offset) ≡ false
unfolding room
room_inside n position inner outer h = (least_passes n (distance position inner.end_offset) (room position outer) h).0

-- bytes that don't pass the room of the set have room at the place
pub room_at : (s : Syntax) (start : ℕ) (path : Path) (whole : Trees) (o : OpenTree) (b z : List ℕ) (h : Placed s path whole o b)
    → passes (length z) (room (start + length b) (set_level s start path whole ∷ around s start path)) ≡ false → Roomy s path whole o b h z
unfolding room
room_at s start path whole o b z h free =
    let both = least_passes (length z) (distance (start + length b) (end_of (item_length path) (begin_of s start path))) (room (start + length b) (around s start path)) free in
    (room_around s start path b h.c z h.path_at both.1, level_stays (item_length path) (begin_of s start path) (start + length b) h.c z h.stays (path_position s start path b h.c h.path_at) both.0)
