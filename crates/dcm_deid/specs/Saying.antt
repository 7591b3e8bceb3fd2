-- The elements that say what was done, and a data set without identity, whole or as far as it was read.
use Rattle.std.specs.Prelude.{ℕ, Bool, true, ◌||◌, not, if◌then◌else◌, List, [], ◌∷◌, codes, Option}
use Rattle.dcm_base.specs.declared.tag.Tag.{Tag}
use Rattle.dcm_base.specs.declared.vr.Vr.{Vr}
use Rattle.dcm_base.specs.declared.vr.Vr.TheVariants.{CS, LO, SH, SQ}
use Rattle.dcm_base.specs.declared.length.Length.TheVariants.{Undefined}
use Rattle.dcm_base.specs.Tables.Tag.{is_tag, below}
use Rattle.dcm_base.specs.Tree.Tree.{Trees, no_tree, leaf, sequence, fragments, Items, no_item, item, then_trees}
use Rattle.dcm_base.specs.Tree.Front.{Front, front, OpenTree, nothing_open, open_leaf, open_sequence, open_fragments}
use Rattle.dcm_base.specs.Tree.Front.{OpenItem, no_open_item, open_item}
use Rattle.dcm_edits.specs.Edit.{has, has_open, is_passed}
use Rattle.dcm_deid.specs.declared.fate.Fate.{Fate}
use Rattle.dcm_deid.specs.declared.fate.Fate.TheVariants.{Remove, Empty, Replace, Keep}
use Rattle.dcm_deid.specs.declared.fate.Options.{Options}
use Rattle.dcm_deid.specs.declared.fate.Temporal.{Temporal}
use Rattle.dcm_deid.specs.declared.fate.Temporal.TheVariants.{Removed, Full, Modified}
use Rattle.dcm_deid.specs.declared.fate.Depth.{Depth}
use Rattle.dcm_deid.specs.declared.fate.Depth.TheVariants.{Outermost, Inside}
use Rattle.dcm_deid.specs.declared.fate.ReadAs.TheVariants.{AsBytes, AsItems}
use Rattle.dcm_deid.specs.Fate.{are_left, fate_as}
use Rattle.dcm_deid.specs.Deidentify.{Renaming, value_by, Fates, Values, by_fate, items_by_fate}

-- ---- as far as it was read

-- what is put for an open element whose fate is known at its head
abbrev pub open_leaf_by : Fate → Values → Tag → Vr → Trees
open_leaf_by Empty values tag vr = leaf tag vr (values Empty vr []) no_tree
open_leaf_by Replace values tag vr = leaf tag vr (values Replace vr []) no_tree
open_leaf_by _ values tag vr = no_tree

abbrev pub open_sequence_by : Fate → Tag → Vr → Trees
open_sequence_by Remove tag vr = no_tree
open_sequence_by Keep tag vr = no_tree
open_sequence_by _ tag vr = sequence tag vr Undefined no_item no_tree

abbrev pub made_whole : Fates → Values → Depth → OpenTree → Trees
made_whole fates values depth nothing_open = no_tree
made_whole fates values depth (open_leaf tag vr size value) = open_leaf_by (fates depth AsBytes tag) values tag vr
made_whole fates values depth (open_sequence tag vr declared items last) =
    open_sequence_by (fates depth AsItems tag) tag vr
made_whole fates values depth (open_fragments tag vr parts last) = no_tree

abbrev pub while_kept : Fate → OpenTree → OpenTree
while_kept Keep open_tree = open_tree
while_kept _ open_tree = nothing_open

abbrev mutual
  pub front_by_fate : Fates → Values → Depth → Front → Front
  front_by_fate fates values depth (front whole open_tree reached closed) =
      front (then_trees (by_fate fates values depth whole) (made_whole fates values depth open_tree))
      (open_by_fate fates values depth open_tree) reached closed

  pub open_by_fate : Fates → Values → Depth → OpenTree → OpenTree
  open_by_fate fates values depth nothing_open = nothing_open
  open_by_fate fates values depth (open_leaf tag vr size value) =
      while_kept (fates depth AsBytes tag) (open_leaf tag vr size value)
  open_by_fate fates values depth (open_sequence tag vr declared items last) =
      while_kept (fates depth AsItems tag)
      (open_sequence tag vr Undefined (items_by_fate fates values items) (open_item_by_fate fates values last))
  open_by_fate fates values depth (open_fragments tag vr parts last) =
      while_kept (fates depth AsBytes tag) (open_fragments tag vr parts last)

  pub open_item_by_fate : Fates → Values → OpenItem → OpenItem
  open_item_by_fate fates values no_open_item = no_open_item
  open_item_by_fate fates values (open_item declared set) = open_item Undefined (front_by_fate fates values Inside set)

-- ---- what is put

-- an element of one tag, before the first greater tag that is there, else at the end
abbrev pub put_in : Tag → (element : Trees) → Trees → Trees
put_in t element no_tree = element
put_in t element (leaf tag vr value rest) =
    if below t tag then then_trees element (leaf tag vr value rest) else leaf tag vr value (put_in t element rest)
put_in t element (sequence tag vr declared items rest) =
    if below t tag then then_trees element (sequence tag vr declared items rest)
    else sequence tag vr declared items (put_in t element rest)
put_in t element (fragments tag vr parts rest) =
    if below t tag then then_trees element (fragments tag vr parts rest)
    else fragments tag vr parts (put_in t element rest)

-- it is put where its tag is missing and was passed
abbrev pub with_put : Tag × Trees → Front → Front
with_put new (front whole open_tree reached closed) =
    if has new.0 whole || has_open new.0 open_tree || not (is_passed new.0 reached closed)
    then front whole open_tree reached closed
    else front (put_in new.0 new.1 whole) open_tree reached closed

abbrev pub all_put : List (Tag × Trees) → Front → Front
all_put [] f = f
all_put (new ∷ news) f = all_put news (with_put new f)

abbrev pub tag_at : ℕ → ℕ → Tag
tag_at group element = record { group = group; element = element }

abbrev pub leaf_alone : Tag → Vr → List ℕ → Tag × Trees
leaf_alone tag vr value = (tag, leaf tag vr value no_tree)

-- a code and its meaning (PS3.16 CID 7050)
abbrev pub code_item : List ℕ → List ℕ → Items → Items
code_item code meaning rest =
    item Undefined
    (leaf (tag_at 0x0008 0x0100) SH code
    (leaf (tag_at 0x0008 0x0102) SH (codes "DCM") (leaf (tag_at 0x0008 0x0104) LO meaning no_tree)))
    rest

abbrev pub code_if : Bool → List ℕ → List ℕ → Items → Items
code_if given code meaning rest = if given then code_item code meaning rest else rest

-- the code of the option that keeps dates as they are, or moves them, and its meaning
abbrev pub dates_code : Temporal → List ℕ
dates_code (Modified days) = codes "113107"
dates_code _ = codes "113106"

abbrev pub dates_meaning : Temporal → List ℕ
dates_meaning (Modified days) = codes "Retain Longitudinal Temporal Information Modified Dates Option"
dates_meaning _ = codes "Retain Longitudinal Temporal Information Full Dates Option"

abbrev pub methods : Options → Items
methods options =
    code_item (codes "113100") (codes "Basic Application Confidentiality Profile")
    (code_if (are_left options.dates) (dates_code options.dates) (dates_meaning options.dates)
    (code_if options.patient (codes "113108") (codes "Retain Patient Characteristics Option")
    (code_if options.device (codes "113109") (codes "Retain Device Identity Option")
    (code_if options.uids (codes "113110") (codes "Retain UIDs Option")
    (code_if options.institution (codes "113112") (codes "Retain Institution Identity Option") no_item)))))

-- what became of dates
abbrev pub dates_became : Temporal → List ℕ
dates_became Removed = codes "REMOVED"
dates_became Full = codes "UNMODIFIED"
dates_became (Modified days) = codes "MODIFIED"

abbrev pub dates_said : Options → List ℕ
dates_said options = dates_became options.dates

abbrev pub said : Options → List (Tag × Trees)
said options =
    leaf_alone (tag_at 0x0012 0x0062) CS (codes "YES")
    ∷ leaf_alone (tag_at 0x0012 0x0063) LO (codes "dcmtools dcmdeid, PS3.15 2021b")
    ∷ (tag_at 0x0012 0x0064, sequence (tag_at 0x0012 0x0064) SQ Undefined (methods options) no_tree)
    ∷ leaf_alone (tag_at 0x0028 0x0303) CS (dates_said options)
    ∷ []

-- a data set, whole or as far as it was read, without identity
unfoldable pub deidentified : Options → Renaming → Front → Front
deidentified options new f = all_put (said options) (front_by_fate (fate_as options) (value_by new) Outermost f)

-- ---- what is not put

-- whether an element of the tag says what was done
abbrev pub says : Tag → Bool
says tag = is_tag 0x0012 0x0062 tag || is_tag 0x0012 0x0063 tag || is_tag 0x0012 0x0064 tag || is_tag 0x0028 0x0303 tag

-- a data set without the elements that say what was done
abbrev pub unsaid : Trees → Trees
unsaid no_tree = no_tree
unsaid (leaf tag vr value rest) = if says tag then unsaid rest else leaf tag vr value (unsaid rest)
unsaid (sequence tag vr declared items rest) = if says tag then unsaid rest
    else sequence tag vr declared items (unsaid rest)
unsaid (fragments tag vr parts rest) = if says tag then unsaid rest else fragments tag vr parts (unsaid rest)

-- the whole elements
abbrev pub whole_of : Front → Trees
whole_of (front whole open_tree reached closed) = whole

-- a data set that was read without fault, and the tag of its last head
abbrev pub read_whole : Option Tag → Trees → Front
read_whole reached set = front set nothing_open reached true
