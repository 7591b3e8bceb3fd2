-- Data sets whose texts are ASCII.
use Rattle.std.specs.Prelude.{◌≡◌, ◌==◌, ◌&&◌, ℕ, Bool, not, ◌||◌, nat_lt, true, List}
use Rattle.std.specs.List.{list_all}
use Rattle.dcm_base.specs.declared.vr.Vr.{Vr}
use Rattle.dcm_base.specs.Tree.Tree.{Trees, no_tree, leaf, sequence, fragments, Items, no_item, item}
use Rattle.dcm_base.specs.Tree.Front.{Front, front, OpenTree, nothing_open, open_leaf, open_sequence, open_fragments}
use Rattle.dcm_base.specs.Tree.Front.{OpenItem, no_open_item, open_item}
use Rattle.dcm_base.specs.Dump.ValueText.{unpadded}
use Rattle.dcm_text.specs.declared.sets.Sets.{Sets}
use Rattle.dcm_value.specs.DecodedProgress.{sets_for}
use Rattle.dcm_sinks.specs.InForce.{set_by, sets_after}
use Rattle.dcm_sinks.specs.DecodedDump.{is_decoded}

-- which bytes are meant, by the sets that they are read by
abbrev pub Bytes : Type 0
Bytes = Sets → ℕ → Bool

-- a byte below 80 that is no ESC, whatever it is read by
abbrev pub is_low : Bytes
is_low sets b = nat_lt b 0x80 && not (b == 0x1B)

-- a value that is no text, or whose bytes are such where these sets are in force, but for a pad byte
abbrev pub is_value_of : Bytes → Sets → Vr → List ℕ → Bool
is_value_of bytes sets vr value = not (is_decoded vr) || list_all (bytes (sets_for vr sets)) (unpadded vr value)

-- of an open value the pad byte is still to come
abbrev pub is_open_of : Bytes → Sets → Vr → List ℕ → Bool
is_open_of bytes sets vr value = not (is_decoded vr) || list_all (bytes (sets_for vr sets)) value

-- so are all values of a data set, by what is in force in front of it
unfoldable mutual
  pub SetOf : Bytes → Sets → Trees → Type 0
  SetOf bytes sets no_tree = Unit {0}
  SetOf bytes sets (leaf tag vr value rest) = (is_value_of bytes sets vr value ≡ true)
      × SetOf bytes (set_by tag vr value sets) rest
  SetOf bytes sets (sequence tag vr declared items rest) = ItemsOf bytes sets items × SetOf bytes sets rest
  SetOf bytes sets (fragments tag vr values rest) = SetOf bytes sets rest

  pub ItemsOf : Bytes → Sets → Items → Type 0
  ItemsOf bytes sets no_item = Unit {0}
  ItemsOf bytes sets (item declared set rest) = SetOf bytes sets set × ItemsOf bytes sets rest

-- so it is as far as a data set was read
unfoldable mutual
  pub FrontOf : Bytes → Sets → Front → Type 0
  FrontOf bytes sets (front whole last reached closed) = SetOf bytes sets whole × OpenOf bytes (sets_after sets whole) last

  pub OpenOf : Bytes → Sets → OpenTree → Type 0
  OpenOf bytes sets nothing_open = Unit {0}
  OpenOf bytes sets (open_leaf tag vr size value) = is_open_of bytes sets vr value ≡ true
  OpenOf bytes sets (open_sequence tag vr declared items last) = ItemsOf bytes sets items × OpenItemOf bytes sets last
  OpenOf bytes sets (open_fragments tag vr values last) = Unit {0}

  pub OpenItemOf : Bytes → Sets → OpenItem → Type 0
  OpenItemOf bytes sets no_open_item = Unit {0}
  OpenItemOf bytes sets (open_item declared set) = FrontOf bytes sets set
