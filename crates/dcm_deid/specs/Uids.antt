-- The unique identifier of an instance, in the head of a file and in its data set.
use Rattle.std.specs.Prelude.{◌≡◌, ℕ, List, option_map, Option, Some, None, if◌then◌else◌}
use Rattle.dcm_base.specs.declared.tag.Tag.{Tag}
use Rattle.dcm_base.specs.File.MetaReads.{Meta}
use Rattle.dcm_base.specs.Tables.Tag.{same_tag}
use Rattle.dcm_base.specs.Tables.Transfer.{without_pads}
use Rattle.dcm_base.specs.Tree.Tree.{Trees, no_tree, leaf, sequence, fragments}
use Rattle.dcm_uid.specs.Uid.{new_value, replaced}
use Rattle.dcm_deid.specs.declared.fate.Options.{Options}
use Rattle.dcm_deid.specs.MadeNew.{made_new}
use Rattle.dcm_deid.specs.Meta.{meta_without_identity}
use Rattle.dcm_deid.specs.Saying.{deidentified, read_whole, tag_at, whole_of}

-- the first value of a tag among the elements of a data set, without its padding
abbrev pub unpadded : Tag → Trees → Option (List ℕ)
unpadded t no_tree = None
unpadded t (leaf tag vr value rest) = if same_tag tag t then Some (without_pads value) else unpadded t rest
unpadded t (sequence tag vr declared items rest) = unpadded t rest
unpadded t (fragments tag vr parts rest) = unpadded t rest

-- MediaStorageSOPInstanceUID (PS3.10 7.1) and SOPInstanceUID (PS3.3 C.12.1)
abbrev pub instance_of_head : Meta → Option (List ℕ)
instance_of_head m = unpadded (tag_at 0x0002 0x0003) m.elements

abbrev pub instance_of_set : Trees → Option (List ℕ)
instance_of_set set = unpadded (tag_at 0x0008 0x0018) set

-- what takes the place of a unique identifier without its padding, which is retained or replaced under a key
abbrev pub instance_by : Options → (key uid : List ℕ) → List ℕ
instance_by options key uid = if options.uids then uid else without_pads (replaced key uid)

-- a new value is a function of the key and of the old one without its padding
abbrev pub NewByKey : Type 0
NewByKey = (key v w : List ℕ) → without_pads v ≡ without_pads w → new_value key v ≡ new_value key w

-- that of the instance is the same function in the head of a file and in its data set
abbrev pub HeadsBy : Type 0
HeadsBy =
    (options : Options) (key : List ℕ) (m : Meta)
    → instance_of_head (meta_without_identity options key m)
    ≡ option_map (instance_by options key) (instance_of_head m)

abbrev pub SetsBy : Type 0
SetsBy =
    (options : Options) (key : List ℕ) (reached : Option Tag) (set : Trees)
    → instance_of_set (whole_of (deidentified options (made_new options key) (read_whole reached set)))
    ≡ option_map (instance_by options key) (instance_of_set set)

-- so where both have the same instance, they have the same one afterwards
abbrev pub UidsAgree : Type 0
UidsAgree =
    (options : Options) (key : List ℕ) (m : Meta) (reached : Option Tag) (set : Trees)
    → instance_of_head m ≡ instance_of_set set
    → instance_of_head (meta_without_identity options key m)
    ≡ instance_of_set (whole_of (deidentified options (made_new options key) (read_whole reached set)))
