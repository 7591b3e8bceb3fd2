-- Dates that are emptied: they are moved, have more than padding, and nothing takes their place.
use Rattle.std.specs.Prelude.{ℕ, ◌+◌, ◌==◌, List, length, Bool, true, false, ◌&&◌, not, if◌then◌else◌}
use Rattle.dcm_base.specs.declared.vr.Vr.{Vr}
use Rattle.dcm_base.specs.Tree.Tree.{Trees, no_tree, leaf, sequence, fragments, Items, no_item, item}
use Rattle.dcm_base.specs.Tree.Front.{Front, front, OpenTree, nothing_open, open_leaf, open_sequence, open_fragments}
use Rattle.dcm_base.specs.Tree.Front.{OpenItem, no_open_item, open_item}
use Rattle.dcm_base.specs.Tables.Transfer.{without_pads}
use Rattle.dcm_deid.specs.declared.fate.Fate.{Fate}
use Rattle.dcm_deid.specs.declared.fate.Fate.TheVariants.{Anew, Keep}
use Rattle.dcm_deid.specs.declared.fate.NewValue.{NewValue}
use Rattle.dcm_deid.specs.declared.fate.NewValue.TheVariants.{MovedDate, MovedDateTime}
use Rattle.dcm_deid.specs.declared.fate.Options.{Options}
use Rattle.dcm_deid.specs.declared.fate.Depth.{Depth}
use Rattle.dcm_deid.specs.declared.fate.Depth.TheVariants.{Outermost, Inside}
use Rattle.dcm_deid.specs.declared.fate.ReadAs.TheVariants.{AsBytes, AsItems}
use Rattle.dcm_deid.specs.Fate.{fate_as}
use Rattle.dcm_deid.specs.Deidentify.{Fates, Renaming, value_by}

-- what is moved
abbrev pub is_moved : NewValue → Bool
is_moved MovedDate = true
is_moved MovedDateTime = true
is_moved _ = false

abbrev pub has_bytes : List ℕ → Bool
has_bytes bytes = not (length bytes == 0)

-- a value of which this is written is emptied
abbrev pub is_emptied : NewValue → (value written : List ℕ) → Bool
is_emptied made value written = is_moved made && (has_bytes (without_pads value) && not (has_bytes written))

-- so is one of this fate
abbrev pub empties : Renaming → Fate → Vr → List ℕ → Bool
empties new (Anew made) vr value = is_emptied made value (value_by new (Anew made) vr value)
empties new _ vr value = false

abbrev pub one_if : Bool → ℕ
one_if is_one = if is_one then 1 else 0

-- what is inside a sequence is written where that is kept
abbrev pub inside_kept : Fate → ℕ → ℕ
inside_kept Keep count = count
inside_kept _ count = 0

-- how many of the values of a data set
abbrev mutual
  pub emptied : Fates → Renaming → Depth → Trees → ℕ
  emptied fates new depth no_tree = 0
  emptied fates new depth (leaf tag vr value rest) =
      one_if (empties new (fates depth AsBytes tag) vr value) + emptied fates new depth rest
  emptied fates new depth (sequence tag vr declared items rest) =
      inside_kept (fates depth AsItems tag) (emptied_in_items fates new items) + emptied fates new depth rest
  emptied fates new depth (fragments tag vr parts rest) = emptied fates new depth rest

  pub emptied_in_items : Fates → Renaming → Items → ℕ
  emptied_in_items fates new no_item = 0
  emptied_in_items fates new (item declared set rest) =
      emptied fates new Inside set + emptied_in_items fates new rest

-- and of one as far as it was read: a value that is open is none so far
abbrev mutual
  pub emptied_in_front : Fates → Renaming → Depth → Front → ℕ
  emptied_in_front fates new depth (front whole open_tree reached closed) =
      emptied fates new depth whole + emptied_in_open fates new depth open_tree

  pub emptied_in_open : Fates → Renaming → Depth → OpenTree → ℕ
  emptied_in_open fates new depth nothing_open = 0
  emptied_in_open fates new depth (open_leaf tag vr size value) = 0
  emptied_in_open fates new depth (open_sequence tag vr declared items last) =
      inside_kept (fates depth AsItems tag) (emptied_in_items fates new items + emptied_in_open_item fates new last)
  emptied_in_open fates new depth (open_fragments tag vr parts last) = 0

  pub emptied_in_open_item : Fates → Renaming → OpenItem → ℕ
  emptied_in_open_item fates new no_open_item = 0
  emptied_in_open_item fates new (open_item declared set) = emptied_in_front fates new Inside set

-- how many dates of a file's data set are emptied, as far as it was read
unfoldable pub dates_emptied : Options → Renaming → Front → ℕ
dates_emptied options new set = emptied_in_front (fate_as options) new Outermost set
