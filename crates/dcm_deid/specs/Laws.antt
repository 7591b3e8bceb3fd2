-- The statements of the laws of the sink.
use Rattle.std.specs.Prelude.{ℕ, ◌≤◌, List, Option, fold, ◌≡◌, Bool, ◌&&◌}
use Rattle.dcm_base.specs.Tree.Front.{Front}
use Rattle.dcm_base.specs.Tree.Tree.{Trees}
use Rattle.dcm_base.specs.Lines.Ascending.{FrontAscends}
use Rattle.dcm_base.specs.Steps.Anew.{reached_anew}
use Rattle.dcm_base.specs.Steps.Atoms.{Atom, Shows, is_closed}
use Rattle.dcm_base.specs.Steps.Steps.{outputs}
use Rattle.dcm_base.specs.declared.tag.Tag.{Tag}
use Rattle.dcm_base.specs.declared.vr.Vr.{Vr}
use Rattle.dcm_base.specs.declared.length.Length.{Length}
use Rattle.dcm_base.specs.Reading.Bars.{identity_bar}
use Rattle.dcm_stream.specs.Driven.{bars_by}
use Rattle.dcm_sinks.specs.Laws.{StaysShallow}
use Rattle.dcm_deid.specs.declared.fate.Options.{Options}
use Rattle.dcm_deid.specs.DeidentifySink.{MOST_COUNTED, begun, next, passed, deidentify_bar}
use Rattle.dcm_deid.specs.Emptied.{dates_emptied}
use Rattle.dcm_deid.specs.MadeNew.{made_new}
use Rattle.dcm_deid.specs.Pixels.{may_show}
use Rattle.dcm_deid.specs.Saying.{deidentified, read_whole, whole_of}
use Rattle.dcm_deid.specs.Unnamed.{names_nobody}
use Rattle.dcm_deid.specs.WithPatient.{is_unnamed, noted, noting}

-- what the sink passes on of the atoms of a data set, whole or as far as it was read, shows it without identity
abbrev pub DeidentifySteps : Type 0
DeidentifySteps =
    (options : Options) (key : List ℕ) (f : Front) (atoms : List Atom) → FrontAscends f → StaysShallow 0 atoms
    → Shows f atoms
    → Shows (reached_anew (deidentified options (made_new options key) f)) (outputs next passed (begun options key) atoms)

-- the sink bars a head exactly where identity is barred: its tag is not above the last one of its data set, or identity
-- cannot be taken out of it
abbrev pub BarSteps : Type 0
BarSteps =
    (options : Options) (key : List ℕ) (f : Front) (atoms : List Atom) (tag : Tag) (vr : Vr) (declared : Length)
    → StaysShallow 0 atoms → Shows f atoms
    → bars_by deidentify_bar next (begun options key) atoms tag vr declared ≡ identity_bar f tag vr declared

-- after a data set that was read without fault, the sink knows whether what it passed on says that the pixels may show
-- identity
abbrev pub PixelSteps : Type 0
PixelSteps =
    (options : Options) (key : List ℕ) (reached : Option Tag) (set : Trees) (atoms : List Atom)
    → StaysShallow 0 atoms → Shows (read_whole reached set) atoms
    → (fold next (begun options key) atoms).place.seen.may_show
    ≡ may_show (whole_of (deidentified options (made_new options key) (read_whole reached set)))

-- after a data set, whole or as far as it was read, the sink knows how many dates were emptied
abbrev pub DateSteps : Type 0
DateSteps =
    (options : Options) (key : List ℕ) (f : Front) (atoms : List Atom) → StaysShallow 0 atoms → Shows f atoms
    → dates_emptied options (made_new options key) f ≤ MOST_COUNTED
    → (fold next (begun options key) atoms).place.seen.emptied ≡ dates_emptied options (made_new options key) f

-- after a data set, whole or as far as it was read, the sink that notes whom PatientID names knows whether that is
-- nobody, where that is asked
abbrev pub NobodySteps : Type 0
NobodySteps =
    (asked : Bool) (f : Front) (atoms : List Atom) → StaysShallow 0 atoms → Shows f atoms
    → is_unnamed (fold noted (noting asked) atoms) (is_closed f) ≡ (asked && names_nobody f)
