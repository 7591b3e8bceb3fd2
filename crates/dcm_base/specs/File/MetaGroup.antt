-- The meta group: elements in Explicit VR Little Endian (PS3.10 7.1).
use Rattle.std.specs.Prelude.{◌≡◌, ◌≤◌, ◌+◌, ◌==◌, ℕ, Bool, true, false, not, nat_lt, List, [], ◌∷◌, ◌++◌, length}
use Rattle.std.specs.Prelude.{Option, Some, None, if◌then◌else◌}
use Rattle.dcm_base.specs.declared.tag.Tag.{Tag}
use Rattle.dcm_base.specs.declared.vr.Vr.{Vr}
use Rattle.dcm_base.specs.Tables.Syntax.{Little}
use Rattle.dcm_base.specs.declared.fault.Fault.{Fault}
use Rattle.dcm_base.specs.declared.fault.Fault.TheVariants.{BadMeta, MetaTooLarge}
use Rattle.dcm_base.specs.declared.length.Length.{Length}
use Rattle.dcm_base.specs.declared.length.Length.TheVariants.{Known, Undefined}
use Rattle.dcm_base.specs.Tree.Tree.{Trees, no_tree, leaf, sequence, fragments}
use Rattle.dcm_base.specs.Tables.Number.{number}
use Rattle.dcm_base.specs.Bytes.Head.{tag_at, vr_at, head_size, length_at}
use Rattle.dcm_base.specs.Bytes.Spelling.{Spells}
pub use Rattle.dcm_base.specs.Tables.Representation.{is_sequence}

-- the bytes of a meta group at most
abbrev pub META_LIMIT : ℕ
META_LIMIT = 16384

-- what stands where an element of the group may begin: a whole element with the sizes of its head and its value, the
-- group's end, too few bytes to tell, or a fault
pub data GroupPlace : Type 0 where
  an_element : (tag : Tag) (vr : Vr) (head size : ℕ) → GroupPlace
  the_end : GroupPlace
  too_few : GroupPlace
  a_fault : (fault : Fault) → GroupPlace

-- at a whole head, where the group has so many bytes before it and so many bytes are left from it on
abbrev pub group_place_of_head : (taken left : ℕ) → Tag → Vr → Length → GroupPlace
group_place_of_head taken left tag vr Undefined = a_fault BadMeta
group_place_of_head taken left tag vr (Known size) =
    if is_sequence vr then a_fault BadMeta
    else if nat_lt META_LIMIT (taken + (head_size Little vr + size)) then a_fault MetaTooLarge
    else if nat_lt left (head_size Little vr + size) then too_few
    else an_element tag vr (head_size Little vr) size

abbrev pub group_place_of_vr : (taken : ℕ) → List ℕ → Option Vr → GroupPlace
group_place_of_vr taken rest None = a_fault BadMeta
group_place_of_vr taken rest (Some vr) = if nat_lt (length rest) (head_size Little vr) then too_few
    else group_place_of_head taken (length rest) (tag_at Little rest) vr (length_at Little vr rest)

-- at the front of the rest, where the group has so many bytes before it
unfoldable pub group_place : (taken : ℕ) → (rest : List ℕ) → GroupPlace
group_place taken [] = the_end
group_place taken (byte ∷ []) = too_few
group_place taken (byte ∷ next ∷ rest) =
    if not (number Little 2 (byte ∷ next ∷ rest) == 2) then the_end
    else if nat_lt (length (byte ∷ next ∷ rest)) 8 then too_few
    else group_place_of_vr taken (byte ∷ next ∷ rest) (vr_at Little (byte ∷ next ∷ rest))

-- each is a plain element of group 0002
unfoldable pub AreMeta : Trees → Type 0
AreMeta no_tree = Unit {0}
AreMeta (leaf tag vr value rest) = (tag.group ≡ 2) × AreMeta rest
AreMeta (sequence tag vr declared items rest) = ⊥
AreMeta (fragments tag vr values rest) = ⊥

abbrev pub is_element : GroupPlace → Bool
is_element (an_element tag vr head size) = true
is_element _ = false

-- bytes are the spelling of these elements, group, and then what is no element
pub record GroupReads (bytes : List ℕ) (elements : Trees) (group : List ℕ) (behind : GroupPlace) : Type 0 where
  pub rest : List ℕ
  pub parts : bytes ≡ group ++ rest
  pub spelled : Spells Little elements group
  pub meta : AreMeta elements
  pub within : length group ≤ META_LIMIT
  pub behind_is : behind ≡ group_place (length group) rest
  pub no_element : is_element behind ≡ false
