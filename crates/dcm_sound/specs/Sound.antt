-- Sound files: whole data sets spell all of their bytes.
use Rattle.std.specs.Prelude.{◌≡◌, ◌≢◌, ◌<◌, ◌≤◌, ℕ, suc, List, [], ◌++◌, length, Ok, Option, Some, None}
use Rattle.std.specs.Prelude.{false}
use Rattle.dcm_base.specs.declared.dictionary.Dictionary.{Dictionary}
use Rattle.dcm_base.specs.declared.syntax.Coding.{Coding}
use Rattle.dcm_base.specs.declared.syntax.Syntax.{Syntax}
use Rattle.dcm_base.specs.declared.syntax.Syntax.TheVariants.{Little as little_in}
use Rattle.dcm_base.specs.Tree.Tree.{Trees, no_tree, leaf, sequence, fragments, Items, no_item, item}
use Rattle.dcm_base.specs.Tables.Number.{number}
use Rattle.dcm_base.specs.Tables.Syntax.{Little, coding_by}
use Rattle.dcm_base.specs.Tables.Transfer.{without_pads, coding_of}
use Rattle.dcm_base.specs.Bytes.Spelling.{Spells}
use Rattle.dcm_base.specs.Reading.Reads.{INPUT_LIMIT}
use Rattle.dcm_base.specs.File.MetaGroup.{META_LIMIT, AreMeta}
use Rattle.dcm_base.specs.File.MetaReads.{Meta, PREFIX, syntax_value}

-- no element is of group 0002, and at most 64 sequences and fragment lists are within one another; so many are around
-- these elements
unfoldable mutual
  pub IsDataSet : (around : ℕ) → Trees → Type 0
  IsDataSet around no_tree = Unit {0}
  IsDataSet around (leaf tag vr value rest) = (tag.group ≢ 2) × IsDataSet around rest
  IsDataSet around (sequence tag vr declared items rest) =
      (tag.group ≢ 2) × (around < 64) × AreDataSets (suc around) items × IsDataSet around rest
  IsDataSet around (fragments tag vr values rest) = (tag.group ≢ 2) × (around < 64) × IsDataSet around rest

  pub AreDataSets : (around : ℕ) → Items → Type 0
  AreDataSets around no_item = Unit {0}
  AreDataSets around (item declared set rest) = IsDataSet around set × AreDataSets around rest

-- the bytes of a file are a preamble of 128 bytes, the prefix, the meta elements (PS3.10 7.1), and the elements of a
-- data set in the transfer syntax that the meta elements name, which a dictionary reads
pub record IsSound (d : Dictionary) (bytes : List ℕ) (m : Meta) (coding : Coding) (set : Trees) : Type 0 where
  pub group : List ℕ
  pub contents : List ℕ
  pub parts : bytes ≡ m.preamble ++ PREFIX ++ group ++ contents
  pub preamble_size : length m.preamble ≡ 128
  pub within : length bytes ≤ INPUT_LIMIT
  -- the meta group, which no element of group 0002 goes on
  pub group_spelled : Spells Little m.elements group
  pub are_meta : AreMeta m.elements
  pub group_within : length group ≤ META_LIMIT
  pub group_ends : number Little 2 contents ≢ 2
  -- the transfer syntax, which is not deflated
  pub named : Coding
  pub uid_is : m.uid ≡ without_pads (syntax_value m.elements)
  pub some_uid : m.uid ≢ []
  pub names : coding_of m.uid ≡ Ok named
  pub coding_is : coding ≡ coding_by d named
  -- the data set
  pub set_spelled : Spells coding.syntax set contents
  pub is_set : IsDataSet 0 set

-- no fragment list is in a data set, at any depth
unfoldable mutual
  pub HasNoFragments : Trees → Type 0
  HasNoFragments no_tree = Unit {0}
  HasNoFragments (leaf tag vr value rest) = HasNoFragments rest
  HasNoFragments (sequence tag vr declared items rest) = HaveNoFragments items × HasNoFragments rest
  HasNoFragments (fragments tag vr values rest) = ⊥

  pub HaveNoFragments : Items → Type 0
  HaveNoFragments no_item = Unit {0}
  HaveNoFragments (item declared set rest) = HasNoFragments set × HaveNoFragments rest

-- a target can hold the data set: each holds that of its own transfer syntax, none an encapsulated one, and fragment
-- lists are in explicit little endian alone (PS3.5 A.4)
abbrev pub CanBecome : Option Syntax → Coding → Trees → Type 0
CanBecome None coding set = Unit {0}
CanBecome (Some (little_in d)) coding set = coding.encapsulated ≡ false
CanBecome (Some syntax) coding set = (coding.encapsulated ≡ false) × HasNoFragments set
