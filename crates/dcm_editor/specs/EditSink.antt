-- All edits in one pass over the atoms of a data set.
use Rattle.std.specs.Prelude.{◌≡◌, ℕ, zero, suc, min, nat_lt, length, List, [], ◌∷◌, Option, Some, None, Bool, true}
use Rattle.std.specs.Prelude.{false, ◌||◌, map, if◌then◌else◌}
use Rattle.dcm_base.specs.declared.tag.Tag.{Tag}
use Rattle.dcm_base.specs.declared.vr.Vr.{Vr}
use Rattle.dcm_base.specs.declared.length.Length.{Length}
use Rattle.dcm_base.specs.Tables.Syntax.{Little}
use Rattle.dcm_base.specs.Tables.Tag.{is_above}
use Rattle.dcm_base.specs.Tree.Tree.{no_tree, leaf}
use Rattle.dcm_base.specs.Tree.Front.{Front}
use Rattle.dcm_base.specs.Steps.Atoms.{Atom, opens, value_byte, closes_leaf, opens_item, closes_item, closes_sequence}
use Rattle.dcm_base.specs.Steps.Atoms.{opens_fragment, ends, Shows, trees_then}
use Rattle.dcm_base.specs.Reading.Bars.{ascending_bar}
use Rattle.dcm_head.specs.declared.head.Head.{Head}
use Rattle.dcm_stream.specs.declared.token.Bar.{Bar as SinkBar}
use Rattle.dcm_stream.specs.declared.token.Bar.TheVariants.{Order}
use Rattle.dcm_stream.specs.Driven.{bars_by}
use Rattle.dcm_stream.specs.Skip.{opened, closed}
use Rattle.dcm_sinks.specs.Laws.{StaysShallow}
use Rattle.dcm_edits.specs.Edit.{Edit, within, Fate, stays, becomes, goes, fate, erases, acts, NewElement, no_element}
use Rattle.dcm_edits.specs.Edit.{new_leaf, new_sequence, element_of}
use Rattle.dcm_edits.specs.Together.{first_fate, any_erases, all_within}
use Rattle.dcm_edits.specs.NewOnes.{puts, above_last, is_between}

-- an open data set: what the edits ask of it, the tag of its last head, and how many items its last element has so far
pub record Level : Type 0 where
  pub edits : List Edit
  pub last : Option Tag
  pub count : ℕ

-- the innermost open data set and those around it, how many of the open things are dropped, and which edits have found
-- their place
pub record State : Type 0 where
  pub level : Level
  pub outer : List Level
  pub dropped : ℕ
  pub found : List Bool

-- no more than so many data sets are open around the innermost one
abbrev pub MOST_AROUND : ℕ
MOST_AROUND = 64

-- no count goes on above this number, the greatest of 32 bits
abbrev pub MOST_COUNTED : ℕ
MOST_COUNTED = 4294967295

abbrev pub new_level : List Edit → Level
new_level edits = record { edits = edits; last = None; count = 0 }

-- a new leaf has its place in each data set where its edit acts, and a new sequence where it is put
abbrev pub has_place : NewElement → Bool
has_place no_element = false
has_place (new_leaf tag vr value) = true
has_place (new_sequence tag held) = false

abbrev pub makes : (Tag → Bool) → NewElement → Bool
makes passes no_element = false
makes passes (new_leaf tag vr value) = false
makes passes (new_sequence tag held) = passes tag

-- before the first atom
abbrev pub begun : List Edit → State
begun edits = record {
  level = new_level edits;
  outer = [];
  dropped = 0;
  found = map (λ e. has_place (element_of e)) edits;
}

-- what is opened is dropped where it is to go, and within what is dropped
abbrev pub dropped_after_head : ℕ → Bool → ℕ
dropped_after_head = opened

abbrev pub dropped_after_end : ℕ → ℕ
dropped_after_end = closed

abbrev pub either : List Bool → List Bool → List Bool
either [] others = []
either (a ∷ rest) [] = a ∷ rest
either (a ∷ rest) (b ∷ others) = (a || b) ∷ either rest others

abbrev pub at_head : Tag → Level → Level
at_head tag level = record { edits = level.edits; last = Some tag; count = 0 }

abbrev pub one_more_item : Level → Level
one_more_item level = record { edits = level.edits; last = level.last; count = min MOST_COUNTED (suc level.count) }

-- the edits that find an item, or a place for their new leaf in it
abbrev pub found_by_item : Level → Tag → List Bool
found_by_item level tag = map (λ e. erases e tag level.count || has_place (element_of (within e tag level.count)))
    level.edits

-- after the head of an item of the element of this tag
abbrev pub in_item : State → Tag → State
in_item s tag = record {
  level = new_level (all_within s.level.edits tag s.level.count);
  outer = one_more_item s.level ∷ s.outer;
  dropped = dropped_after_head s.dropped (any_erases s.level.edits tag s.level.count);
  found = either s.found (found_by_item s.level tag);
}

abbrev pub item_in : State → Option Tag → State
item_in s None = s
item_in s (Some tag) = if nat_lt (length s.outer) MOST_AROUND then in_item s tag else s

-- at the end of a data set the missing sequences above its last tag are made
abbrev pub found_at_end : State → List Bool
found_at_end s = either s.found (map (λ e. makes (above_last s.level.last) (element_of e)) s.level.edits)

-- after the end of an item, with the data sets around it
abbrev pub after_item : State → List Level → State
after_item s [] = record { level = s.level; outer = []; dropped = dropped_after_end s.dropped; found = s.found }
after_item s (level ∷ outer) = record {
  level = level;
  outer = outer;
  dropped = dropped_after_end s.dropped;
  found = found_at_end s;
}

-- after the head of an element
abbrev pub after_head : State → Tag → State
after_head s tag = record {
  level = at_head tag s.level;
  outer = s.outer;
  dropped = dropped_after_head s.dropped (acts (first_fate s.level.edits tag));
  found = either s.found (map (λ e. acts (fate e tag) || makes (is_between s.level.last tag) (element_of e))
      s.level.edits);
}

abbrev pub next : State → Atom → State
next s (opens tag vr declared syntax) = after_head s tag
next s (value_byte byte) = s
next s closes_leaf = record { level = s.level; outer = s.outer; dropped = dropped_after_end s.dropped; found = s.found }
next s (opens_item declared) = item_in s s.level.last
next s closes_item = after_item s s.outer
next s closes_sequence = record {
  level = s.level;
  outer = s.outer;
  dropped = dropped_after_end s.dropped;
  found = s.found;
}
next s (opens_fragment size) =
    record { level = s.level; outer = s.outer; dropped = dropped_after_head s.dropped false; found = s.found }
next s ends = record { level = s.level; outer = s.outer; dropped = s.dropped; found = found_at_end s }

abbrev pub unless_dropped : ℕ → List Atom → List Atom
unless_dropped zero atoms = atoms
unless_dropped (suc n) atoms = []

-- the head of an element that stays, the leaf that it becomes, or nothing
abbrev pub head_by : Fate → Tag → Atom → List Atom
head_by stays tag head = head ∷ []
head_by (becomes vr value) tag head = trees_then Little (leaf tag vr value no_tree) []
head_by goes tag head = []

abbrev pub item_head_by : List Edit → Option Tag → ℕ → Atom → List Atom
item_head_by edits None n head = head ∷ []
item_head_by edits (Some tag) n head = if any_erases edits tag n then [] else head ∷ []

-- the new elements whose tags pass, and then atoms
abbrev pub new_ones : (Tag → Bool) → List Edit → List Atom → List Atom
new_ones passes edits atoms = trees_then Little (puts passes edits no_tree) atoms

-- what is passed on of an atom
abbrev pub passed : State → Atom → List Atom
passed s (opens tag vr declared syntax) =
    unless_dropped s.dropped (new_ones (is_between s.level.last tag) s.level.edits
    (head_by (first_fate s.level.edits tag) tag (opens tag vr declared syntax)))
passed s (value_byte byte) = unless_dropped s.dropped (value_byte byte ∷ [])
passed s closes_leaf = unless_dropped s.dropped (closes_leaf ∷ [])
passed s (opens_item declared) =
    unless_dropped s.dropped (item_head_by s.level.edits s.level.last s.level.count (opens_item declared))
passed s closes_item = unless_dropped s.dropped (new_ones (above_last s.level.last) s.level.edits (closes_item ∷ []))
passed s closes_sequence = unless_dropped s.dropped (closes_sequence ∷ [])
passed s (opens_fragment size) = unless_dropped s.dropped (opens_fragment size ∷ [])
passed s ends = unless_dropped s.dropped (new_ones (above_last s.level.last) s.level.edits (ends ∷ []))

-- a head is barred where its tag is not above the last one of its data set
abbrev pub edit_bar : State → Head → Option SinkBar
edit_bar s head = if is_above head.tag s.level.last then None else Some Order

-- a sink bars the tags that do not ascend, where no more than 64 sequences and fragment lists are open at a time
abbrev pub BarsShallow : {S : Type 0} → (S → Head → Option SinkBar) → (S → Atom → S) → S → Type 0
BarsShallow bars takes first = (f : Front) (atoms : List Atom) (tag : Tag) (vr : Vr) (declared : Length)
    → StaysShallow 0 atoms → Shows f atoms
    → bars_by bars takes first atoms tag vr declared ≡ ascending_bar f tag vr declared
