-- The lines of named elements: those of the dump of each, as if it stood outermost.
use Rattle.std.specs.Prelude.{ℕ, Bool, List, [], ◌∷◌, ◌++◌, codes, if◌then◌else◌}
use Rattle.std.specs.List.{list_any}
use Rattle.dcm_base.specs.declared.dictionary.Dictionary.{Dictionary}
use Rattle.dcm_base.specs.declared.mode.Mode.{Mode}
use Rattle.dcm_base.specs.declared.tag.Tag.{Tag}
use Rattle.dcm_base.specs.Tables.Tag.{same_tag}
use Rattle.dcm_base.specs.Tree.Tree.{Trees, no_tree, leaf, sequence, fragments, Items, no_item, item}
use Rattle.dcm_base.specs.Tree.Front.{Front, front, OpenTree, nothing_open, open_leaf, open_sequence, open_fragments}
use Rattle.dcm_base.specs.Tree.Front.{OpenItem, no_open_item, open_item}
use Rattle.dcm_base.specs.Dump.Dump.{dump_set, dump_open, open_line}
use Rattle.dcm_base.specs.Dump.ValueText.{tag_text}
use Rattle.dcm_text.specs.declared.sets.Sets.{Sets}
use Rattle.dcm_sinks.specs.DecodedDump.{decoded_set, decoded_open}
use Rattle.dcm_sinks.specs.InForce.{set_by, sets_after}

-- how texts are shown
pub data Texts : Type 0 where
  by_bytes : Texts
  by_characters : Texts

-- what is asked for: the elements of these tags, with the way to each or without it, and how they are shown
pub record Asked : Type 0 where
  pub tags : List Tag
  pub ways : Bool
  pub texts : Texts
  pub dictionary : Dictionary
  pub mode : Mode

abbrev pub is_named : List Tag → Tag → Bool
is_named tags tag = list_any (same_tag tag) tags

-- the lines of elements, outermost, where these sets are in force in front of them
abbrev pub lines_by : Texts → Dictionary → Mode → Sets → Trees → List ℕ
lines_by by_bytes d mode sets x = dump_set d mode 0 x
lines_by by_characters d mode sets x = decoded_set d mode sets 0 x

abbrev pub lines_of : Asked → Sets → Trees → List ℕ
lines_of q sets x = lines_by q.texts q.dictionary q.mode sets x

-- what stands of an element that was read so far
abbrev pub open_lines_by : Texts → Dictionary → Mode → Sets → OpenTree → List ℕ
open_lines_by by_bytes d mode sets x = dump_open d mode 0 x
open_lines_by by_characters d mode sets x = decoded_open d mode sets 0 x

abbrev pub open_lines_of : Asked → Sets → OpenTree → List ℕ
open_lines_of q sets x = open_lines_by q.texts q.dictionary q.mode sets x

-- a sequence of a way, and a dot
abbrev pub step_text : Tag → List ℕ
step_text tag = tag_text tag.group tag.element ++ codes "."

-- the way into these sequences, of which the innermost stands first
abbrev pub way_text : List Tag → List ℕ
way_text [] = []
way_text (tag ∷ outside) = way_text outside ++ step_text tag

abbrev pub way_by : (ways : Bool) → List Tag → List ℕ
way_by ways way = if ways then way_text way else []

-- the lines of an element that is named, after the way to it
abbrev pub piece : Asked → Sets → List Tag → Trees → List ℕ
piece q sets way x = way_by q.ways way ++ lines_of q sets x

-- of the elements of a data set, and of items, those that are named, at any depth; what is named lies in a line once
unfoldable mutual
  pub named_set : Asked → Sets → List Tag → Trees → List ℕ
  named_set q sets way no_tree = []
  named_set q sets way (leaf tag vr value rest) =
      (if is_named q.tags tag then piece q sets way (leaf tag vr value no_tree) else [])
      ++ named_set q (set_by tag vr value sets) way rest
  named_set q sets way (sequence tag vr size items rest) =
      (if is_named q.tags tag then piece q sets way (sequence tag vr size items no_tree)
      else named_items q sets (tag ∷ way) items)
      ++ named_set q sets way rest
  named_set q sets way (fragments tag vr values rest) =
      (if is_named q.tags tag then piece q sets way (fragments tag vr values no_tree) else [])
      ++ named_set q sets way rest

  pub named_items : Asked → Sets → List Tag → Items → List ℕ
  named_items q sets way no_item = []
  named_items q sets way (item size set rest) = named_set q sets way set ++ named_items q sets way rest

-- what stands of an element that is named and was read so far: the way is part of its first line
abbrev pub open_piece : Asked → Sets → List Tag → OpenTree → List ℕ
open_piece q sets way nothing_open = []
open_piece q sets way (open_leaf tag vr size value) =
    open_line q.mode (way_by q.ways way) (open_lines_of q sets (open_leaf tag vr size value))
open_piece q sets way x = way_by q.ways way ++ open_lines_of q sets x

-- so it is as far as a data set was read
unfoldable mutual
  pub named_front : Asked → Sets → List Tag → Front → List ℕ
  named_front q sets way (front whole last reached closed) =
      named_set q sets way whole ++ named_open q (sets_after sets whole) way last

  pub named_open : Asked → Sets → List Tag → OpenTree → List ℕ
  named_open q sets way nothing_open = []
  named_open q sets way (open_leaf tag vr size value) =
      if is_named q.tags tag then open_piece q sets way (open_leaf tag vr size value) else []
  named_open q sets way (open_sequence tag vr size items last) =
      if is_named q.tags tag then open_piece q sets way (open_sequence tag vr size items last)
      else named_items q sets (tag ∷ way) items ++ named_open_item q sets (tag ∷ way) last
  named_open q sets way (open_fragments tag vr values last) =
      if is_named q.tags tag then open_piece q sets way (open_fragments tag vr values last) else []

  pub named_open_item : Asked → Sets → List Tag → OpenItem → List ℕ
  named_open_item q sets way no_open_item = []
  named_open_item q sets way (open_item size set) = named_front q sets way set
