-- The patient whom a data set names, and where it does so, over its atoms.
use Rattle.std.specs.Prelude.{ℕ, zero, suc, length, List, [], Option, Some, None, Bool, true, false, ◌&&◌, not, if◌then◌else◌, fold}
use Rattle.dcm_base.specs.declared.tag.Tag.{Tag}
use Rattle.dcm_base.specs.declared.vr.Vr.{Vr}
use Rattle.dcm_base.specs.declared.vr.Vr.TheVariants.{LO}
use Rattle.dcm_base.specs.declared.length.Length.{Length}
use Rattle.dcm_base.specs.declared.syntax.Syntax.{Syntax}
use Rattle.dcm_base.specs.declared.form.Form.{Form}
use Rattle.dcm_base.specs.declared.form.Form.TheVariants.{Value as a_value}
use Rattle.dcm_base.specs.Tables.Syntax.{Little}
use Rattle.dcm_base.specs.Tables.Tag.{is_above, below, is_tag}
use Rattle.dcm_base.specs.Reading.Bars.{PATIENT_ID, holds_identity, is_outermost, reaches_patient}
use Rattle.dcm_base.specs.Steps.Atoms.{Atom, opens, value_byte, closes_leaf, opens_item, closes_item, closes_sequence}
use Rattle.dcm_base.specs.Steps.Atoms.{opens_fragment, ends}
use Rattle.dcm_head.specs.declared.head.Head.{Head}
use Rattle.dcm_stream.specs.declared.token.Bar.{Bar as SinkBar}
use Rattle.dcm_stream.specs.declared.token.Bar.TheVariants.{Order, Identity, Patient}
use Rattle.dcm_stream.specs.Skip.{opened, closed}
use Rattle.dcm_uid.specs.Pseudonym.{patient}
use Rattle.dcm_deid.specs.declared.fate.Options.{Options}
use Rattle.dcm_deid.specs.declared.fate.Depth.{Depth}
use Rattle.dcm_deid.specs.declared.fate.Depth.TheVariants.{Outermost, Inside}
use Rattle.dcm_deid.specs.declared.fate.Fate.TheVariants.{Keep}
use Rattle.dcm_deid.specs.declared.fate.Temporal.TheVariants.{Removed}
use Rattle.dcm_deid.specs.declared.patient.Naming.{Naming}
use Rattle.dcm_deid.specs.declared.patient.Naming.TheVariants.{NotYet, Opened, Ended, Nobody}
use Rattle.dcm_deid.specs.DeidentifySink.{Held, State, begun, form_after, held_with, nothing_held, ordered}

-- ---- where the patient is named

-- no option is given
abbrev pub no_options : Options
no_options = record { uids = false; device = false; institution = false; patient = false; dates = Removed; pseudonyms = false }

-- an element of this depth
abbrev pub reaches : Depth → Tag → Bool
reaches Outermost tag = reaches_patient 0 tag
reaches Inside tag = false

-- before the first atom
abbrev pub up_to_begun : State
up_to_begun = begun no_options []

-- nothing is written
abbrev pub writes_nothing : {S : Type 0} → S → Atom → List ℕ
writes_nothing s a = []

-- PatientID at the outermost level, or what comes after it
abbrev pub patient_barred : (items_open : ℕ) → Tag → Option SinkBar
patient_barred n tag = if holds_identity tag then Some Identity else if reaches_patient n tag then Some Patient else None

-- and before that what is barred where identity is taken out
abbrev pub up_to_bar : State → Head → Option SinkBar
up_to_bar s head = if is_above head.tag s.place.last then patient_barred (length s.place.outer) head.tag else Some Order

-- ---- whom it names

-- how many elements, items and fragments are open; how far the naming has come; and the value of PatientID
pub record PatientState : Type 0 where
  pub depth : ℕ
  pub naming : Naming
  pub held : Held

-- before the first atom
abbrev pub patient_begun : PatientState
patient_begun = record { depth = 0; naming = NotYet; held = nothing_held Keep PATIENT_ID LO Little }

abbrev pub is_value : Form → Bool
is_value a_value = true
is_value _ = false

-- the head of PatientID before a value
abbrev pub names_patient : Tag → Form → Bool
names_patient tag form = is_tag 0x0010 0x0020 tag && is_value form

abbrev pub naming_at : Tag → Form → Naming
naming_at tag form = if below tag PATIENT_ID then NotYet else if names_patient tag form then Opened else Nobody

-- at a head of the outermost level, where no patient was named so far
abbrev pub at_head : PatientState → Tag → Vr → Length → Syntax → PatientState
at_head p tag vr declared s = record {
  depth = p.depth;
  naming = naming_at tag (form_after tag vr declared s);
  held = nothing_held Keep tag vr s;
}

abbrev pub looks_at : ℕ → Naming → Bool
looks_at zero NotYet = true
looks_at _ _ = false

abbrev pub after_head : PatientState → Tag → Vr → Length → Syntax → PatientState
after_head p tag vr declared s = if looks_at p.depth p.naming then at_head p tag vr declared s else p

abbrev pub at_depth : ℕ → PatientState → PatientState
at_depth n p = record { depth = n; naming = p.naming; held = p.held }

abbrev pub holding : PatientState → Held → PatientState
holding p held = record { depth = p.depth; naming = p.naming; held = held }

abbrev pub held_where : Naming → Held → List ℕ → Held
held_where Opened held bytes = fold held_with held bytes
held_where _ held bytes = held

abbrev pub after_byte : Naming → PatientState → ℕ → PatientState
after_byte Opened p byte = holding p (held_with p.held byte)
after_byte _ p byte = p

abbrev pub after_bytes : PatientState → List ℕ → PatientState
after_bytes p bytes = record {
  depth = p.depth;
  naming = p.naming;
  held = held_where p.naming p.held bytes;
}

abbrev pub naming_ended : Naming → Naming
naming_ended NotYet = NotYet
naming_ended Opened = Ended
naming_ended Ended = Ended
naming_ended Nobody = Nobody

abbrev pub patient_next : PatientState → Atom → PatientState
patient_next p (opens tag vr declared s) = at_depth (opened p.depth true) (after_head p tag vr declared s)
patient_next p (value_byte byte) = after_byte p.naming p byte
patient_next p closes_leaf = record { depth = closed p.depth; naming = naming_ended p.naming; held = p.held }
patient_next p (opens_item declared) = at_depth (opened p.depth true) p
patient_next p closes_item = at_depth (closed p.depth) p
patient_next p closes_sequence = at_depth (closed p.depth) p
patient_next p (opens_fragment size) = at_depth (opened p.depth true) p
patient_next p ends = p

-- no head is barred
abbrev pub bars_none : PatientState → Head → Option SinkBar
bars_none p head = None

-- the patient whom the value names: none where it is too long
abbrev pub patient_held : Held → List ℕ
patient_held h = if h.is_longer then [] else patient (ordered h)
