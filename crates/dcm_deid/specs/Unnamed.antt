-- Whether PatientID of the outermost data set names nobody, as far as that was read.
use Rattle.std.specs.Prelude.{ℕ, List, [], ◌∷◌, Bool, true, false, ◌&&◌, not, if◌then◌else◌}
use Rattle.dcm_base.specs.declared.tag.Tag.{Tag}
use Rattle.dcm_base.specs.Reading.Bars.{PATIENT_ID}
use Rattle.dcm_base.specs.Tables.Tag.{below, same_tag}
use Rattle.dcm_base.specs.Tree.Front.{Front, front, OpenTree, nothing_open, open_leaf, open_sequence, open_fragments}
use Rattle.dcm_base.specs.Tree.Tree.{Trees, no_tree, leaf, sequence, fragments}
use Rattle.dcm_uid.specs.Pseudonym.{patient}

-- nobody is named by nothing
abbrev pub is_nobody : List ℕ → Bool
is_nobody [] = true
is_nobody (b ∷ bs) = false

-- a value that stands in the place of PatientID, or behind that
abbrev pub value_unnamed : Tag → List ℕ → Bool
value_unnamed tag value = if same_tag tag PATIENT_ID then is_nobody (patient value) else true

-- the elements, by the first that is not below PatientID; and where there is none, by what is behind them
abbrev pub trees_unnamed : Trees → (behind : Bool) → Bool
trees_unnamed no_tree behind = behind
trees_unnamed (leaf tag vr value rest) behind =
    if below tag PATIENT_ID then trees_unnamed rest behind else value_unnamed tag value
trees_unnamed (sequence tag vr declared items rest) behind =
    if below tag PATIENT_ID then trees_unnamed rest behind else true
trees_unnamed (fragments tag vr parts rest) behind = if below tag PATIENT_ID then trees_unnamed rest behind else true

-- an element that is open; while the value of PatientID is, it may name somebody
abbrev pub open_unnamed : OpenTree → (closed : Bool) → Bool
open_unnamed nothing_open closed = closed
open_unnamed (open_leaf tag vr size value) closed = not (below tag PATIENT_ID) && not (same_tag tag PATIENT_ID)
open_unnamed (open_sequence tag vr declared items last) closed = not (below tag PATIENT_ID)
open_unnamed (open_fragments tag vr parts last) closed = not (below tag PATIENT_ID)

-- PatientID was read and names nobody, or what was read shows that there is none: an element that belongs behind it, or
-- the end of the data set
unfoldable pub names_nobody : Front → Bool
names_nobody (front whole open_tree reached closed) = trees_unnamed whole (open_unnamed open_tree closed)
