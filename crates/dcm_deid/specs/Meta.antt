-- The head of a file without identity (PS3.10 7.1).
use Rattle.std.specs.Prelude.{ℕ, List, codes, Bool, ◌||◌, Option, Some, None, if◌then◌else◌, replicate}
use Rattle.dcm_base.specs.declared.tag.Tag.{Tag}
use Rattle.dcm_base.specs.declared.vr.Vr.TheVariants.{SH, UI}
use Rattle.dcm_base.specs.Tables.Tag.{is_tag}
use Rattle.dcm_base.specs.Tree.Tree.{Trees, no_tree, leaf}
use Rattle.dcm_base.specs.Conversion.NewMeta.{Renewing, renewed}
use Rattle.dcm_base.specs.File.MetaReads.{Meta}
use Rattle.dcm_uid.specs.Uid.{new_value}
use Rattle.dcm_deid.specs.declared.fate.Options.{Options}
use Rattle.dcm_deid.specs.declared.meta.MetaFate.{MetaFate}
use Rattle.dcm_deid.specs.declared.meta.MetaFate.TheVariants.{Remove, Keep, Uid}

-- the version of the group, the class of the instance, and the transfer syntax
abbrev pub stays : Tag → Bool
stays tag = is_tag 2 1 tag || is_tag 2 2 tag || is_tag 2 0x10 tag

-- and the instance, which gets a new unique identifier unless those are kept
abbrev pub meta_fate : Options → Tag → MetaFate
meta_fate options tag =
    if stays tag then Keep else if is_tag 2 3 tag then (if options.uids then Keep else Uid) else Remove

abbrev pub value_by_fate : MetaFate → (key value : List ℕ) → Option (List ℕ)
value_by_fate Remove key value = None
value_by_fate Keep key value = Some value
value_by_fate Uid key value = Some (new_value key value)

abbrev pub meta_renewing : Options → (key : List ℕ) → Renewing
meta_renewing options key tag vr value = value_by_fate (meta_fate options tag) key value

-- the class and the version of this tool's implementation, which take the place of those of the input: the head is that
-- of the application that takes identity out (PS3.15 E.1)
abbrev pub implementation : Trees
implementation =
    leaf (record { group = 2; element = 0x12 }) UI (codes "2.25.313428391727201999114611669686557106709")
    (leaf (record { group = 2; element = 0x13 }) SH (codes "DCMTOOLS") no_tree)

-- the head of a file without identity
abbrev pub no_preamble : List ℕ
no_preamble = replicate 128 0

abbrev pub meta_without_identity : Options → (key : List ℕ) → Meta → Meta
meta_without_identity options key m = record {
  preamble = no_preamble;
  elements = renewed (meta_renewing options key) implementation m.elements;
  uid = m.uid;
}
