-- Which atoms go on to the lines, and what is written before a line.
use Rattle.std.specs.Prelude.{ℕ, zero, suc, nat_lt, Bool, true, false, not, ◌&&◌, ◌||◌, List, [], ◌∷◌, length}
use Rattle.std.specs.Prelude.{if◌then◌else◌}
use Rattle.dcm_base.specs.declared.mode.Mode.{Mode}
use Rattle.dcm_base.specs.declared.mode.Mode.TheVariants.{Short, Full}
use Rattle.dcm_base.specs.declared.tag.Tag.{Tag}
use Rattle.dcm_base.specs.declared.level.TheConstants.{MOST_OPEN}
use Rattle.dcm_base.specs.declared.form.Form.{Form}
use Rattle.dcm_base.specs.declared.form.Form.TheVariants.{Value as a_value, Sequence as a_sequence}
use Rattle.dcm_base.specs.declared.form.Form.TheVariants.{FragmentList as a_fragment_list, Nothing as no_form}
use Rattle.dcm_base.specs.Bytes.Spelling.{form, read_as}
use Rattle.dcm_base.specs.Reading.Stop.{opens_list}
use Rattle.dcm_base.specs.Steps.Atoms.{Atom, opens, value_byte, closes_leaf, opens_item, closes_item, closes_sequence}
use Rattle.dcm_base.specs.Steps.Atoms.{opens_fragment, ends}
use Rattle.dcm_stream.specs.Skip.{after, is_open, opened}
use Rattle.dcm_named.specs.Named.{is_named, way_text}

-- what is named, how it is shown, which sequences are open around, the innermost first, and how many elements, items and
-- fragments are open of what is shown, with itself
pub record Place : Type 0 where
  pub tags : List Tag
  pub ways : Bool
  pub mode : Mode
  pub way : List Tag
  pub shown : ℕ

abbrev pub place_start : List Tag → Bool → Mode → Place
place_start tags ways mode = record { tags = tags; ways = ways; mode = mode; way = []; shown = 0 }

-- ---- whether an atom goes on to the lines

abbrev pub shows : Place → Atom → Bool
shows p (opens tag vr declared s) = is_open p.shown || is_named p.tags tag
shows p (value_byte b) = is_open p.shown
shows p closes_leaf = is_open p.shown
shows p (opens_item declared) = is_open p.shown
shows p closes_item = is_open p.shown
shows p closes_sequence = is_open p.shown
shows p (opens_fragment size) = is_open p.shown
shows p ends = is_open p.shown

-- ---- the place behind an atom

-- a sequence or fragment list that is not shown lies on the way
abbrev pub entered : Tag → List Tag → List Tag
entered tag way = if nat_lt (length way) MOST_OPEN then tag ∷ way else way

abbrev pub left : List Tag → List Tag
left [] = []
left (tag ∷ outside) = outside

abbrev pub way_into : (shown : Bool) → Form → Tag → List Tag → List Tag
way_into true f tag way = way
way_into false f tag way = if opens_list f then entered tag way else way

abbrev pub way_out : (shown : Bool) → List Tag → List Tag
way_out true way = way
way_out false way = left way

abbrev pub head_place : (named : Bool) → Form → Place → Tag → Place
head_place named f p tag = record p {
  way = way_into (is_open p.shown || named) f tag p.way;
  shown = opened p.shown named;
}

abbrev pub shown_after : Place → Atom → Place
shown_after p a = record p { shown = after p.shown a }

abbrev pub next : Place → Atom → Place
next p (opens tag vr declared s) = head_place (is_named p.tags tag) (form s (read_as s tag vr) declared) p tag
next p (value_byte b) = p
next p closes_leaf = shown_after p closes_leaf
next p (opens_item declared) = shown_after p (opens_item declared)
next p closes_item = shown_after p closes_item
next p closes_sequence = record (shown_after p closes_sequence) { way = way_out (is_open p.shown) p.way }
next p (opens_fragment size) = shown_after p (opens_fragment size)
next p ends = p

-- ---- what stands before an atom's line

-- the line of a value is begun at its head in Full, and at its end in Short; that of a list at its head
abbrev pub begins_at_end : Mode → Bool
begins_at_end Short = true
begins_at_end Full = false

abbrev pub begins_at_head : Form → Mode → Bool
begins_at_head a_value mode = not (begins_at_end mode)
begins_at_head a_sequence mode = true
begins_at_head a_fragment_list mode = true
begins_at_head no_form mode = false

-- whether nothing but a named element is open
abbrev pub is_one : ℕ → Bool
is_one (suc zero) = true
is_one n = false

-- whether an atom begins the first line of a named element
abbrev pub begins : Place → Atom → Bool
begins p (opens tag vr declared s) =
    not (is_open p.shown) && (is_named p.tags tag && begins_at_head (form s (read_as s tag vr) declared) p.mode)
begins p (value_byte b) = false
begins p closes_leaf = is_one p.shown && begins_at_end p.mode
begins p (opens_item declared) = false
begins p closes_item = false
begins p closes_sequence = false
begins p (opens_fragment size) = false
begins p ends = false

-- the way stands there, where ways are asked for
abbrev pub way_if : (due : Bool) → List Tag → List ℕ
way_if due way = if due then way_text way else []

abbrev pub before : Place → Atom → List ℕ
before p a = way_if (begins p a && p.ways) p.way
