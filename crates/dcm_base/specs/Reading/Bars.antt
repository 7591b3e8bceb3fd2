-- What tools refuse of themselves, where no other stop applies.
use Rattle.std.specs.Prelude.{ℕ, zero, suc, Bool, true, false, ◌||◌, ◌&&◌, not, if◌then◌else◌, Option, Some, None}
use Rattle.dcm_base.specs.declared.tag.Tag.{Tag}
use Rattle.dcm_base.specs.declared.syntax.Syntax.{Syntax}
use Rattle.dcm_base.specs.declared.syntax.Syntax.TheVariants.{Little as little_in}
use Rattle.dcm_base.specs.Tables.Syntax.{Little}
use Rattle.dcm_base.specs.declared.fault.Fault.{Fault}
use Rattle.dcm_base.specs.declared.fault.Fault.TheVariants.{NotAscending, FragmentsBarred, IdentityStays, NoPatientId}
use Rattle.dcm_base.specs.Tree.Front.{Front, front, OpenTree, nothing_open, open_leaf, open_sequence, open_fragments}
use Rattle.dcm_base.specs.Tree.Front.{OpenItem, no_open_item, open_item}
use Rattle.dcm_base.specs.Bytes.Spelling.{Form, a_fragment_list, form}
use Rattle.dcm_base.specs.Reading.Stop.{Bar}
use Rattle.dcm_base.specs.Tables.Tag.{is_tag, below}
pub use Rattle.dcm_base.specs.Tables.Tag.{is_above}

-- the tag reached in the innermost open set
unfoldable mutual
  pub innermost_reached : Front → Option Tag
  innermost_reached (front whole open_tree reached closed) = reached_in_tree reached open_tree

  pub reached_in_tree : Option Tag → OpenTree → Option Tag
  reached_in_tree reached nothing_open = reached
  reached_in_tree reached (open_leaf tag vr size value) = reached
  reached_in_tree reached (open_sequence tag vr declared items last) = reached_in_item reached last
  reached_in_tree reached (open_fragments tag vr values last) = reached

  pub reached_in_item : Option Tag → OpenItem → Option Tag
  reached_in_item reached no_open_item = reached
  reached_in_item reached (open_item declared set) = innermost_reached set

abbrev pub is_fragment_form : Form → Bool
is_fragment_form a_fragment_list = true
is_fragment_form _ = false

-- nothing
abbrev pub no_bar : Bar
no_bar f tag vr declared = None

-- an element whose tag is not above the one before it in its data set
abbrev pub ascending_bar : Bar
ascending_bar f tag vr declared = if is_above tag (innermost_reached f) then None else Some NotAscending

-- identity cannot be taken out of the records of a DICOMDIR, which are found by their offsets (PS3.3 F.2), nor out of
-- an encapsulated document (PS3.3 C.24.2)
abbrev pub holds_identity : Tag → Bool
holds_identity tag = is_tag 0x0004 0x1220 tag || is_tag 0x0042 0x0011 tag

abbrev pub identity_fault : Tag → Option Fault
identity_fault tag = if holds_identity tag then Some IdentityStays else None

-- where identity is taken out: an element whose tag is not above the one before it in its data set, and then one that
-- holds identity
abbrev pub identity_bar : Bar
identity_bar f tag vr declared = if is_above tag (innermost_reached f) then identity_fault tag else Some NotAscending

-- PatientID
abbrev pub PATIENT_ID : Tag
PATIENT_ID = record { group = 0x0010; element = 0x0020 }

-- how many items are open around what comes next
unfoldable mutual
  pub items_open : Front → ℕ
  items_open (front whole open_tree reached closed) = items_open_in open_tree

  pub items_open_in : OpenTree → ℕ
  items_open_in nothing_open = 0
  items_open_in (open_leaf tag vr size value) = 0
  items_open_in (open_sequence tag vr declared items last) = items_open_at last
  items_open_in (open_fragments tag vr values last) = 0

  pub items_open_at : OpenItem → ℕ
  items_open_at no_open_item = 0
  items_open_at (open_item declared set) = suc (items_open set)

abbrev pub is_outermost : ℕ → Bool
is_outermost zero = true
is_outermost (suc n) = false

-- an element of the outermost data set that is PatientID, or one that comes after it
abbrev pub reaches_patient : (items_open : ℕ) → Tag → Bool
reaches_patient n tag = is_outermost n && not (below tag PATIENT_ID)

abbrev pub patient_fault : (items_open : ℕ) → Tag → Option Fault
patient_fault n tag = if holds_identity tag then Some IdentityStays
    else if reaches_patient n tag then Some NoPatientId else None

-- where a patient is looked for: what is barred where identity is taken out, and then the head of PatientID, or the
-- first one after that
abbrev pub patient_bar : Bar
patient_bar f tag vr declared = if is_above tag (innermost_reached f) then patient_fault (items_open f) tag
    else Some NotAscending

-- a fragment list
abbrev pub fragments_bar : Bar
fragments_bar f tag vr declared = if is_fragment_form (form Little vr declared) then Some FragmentsBarred else None

-- only explicit little endian has fragment lists (PS3.5 A.4)
abbrev pub holds_fragments : Syntax → Bool
holds_fragments (little_in d) = true
holds_fragments _ = false

-- of a conversion to a syntax: the fragment lists that it has no place for
abbrev pub target_bar : Syntax → Bar
target_bar (little_in d) = no_bar
target_bar _ = fragments_bar
