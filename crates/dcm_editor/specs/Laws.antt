-- The statements of the laws.
use Rattle.std.specs.Prelude.{◌≡◌, ◌≤◌, ℕ, List, Ok, false, fold, map}
use Rattle.dcm_base.specs.Lines.Ascending.{FrontAscends}
use Rattle.dcm_base.specs.Steps.Atoms.{Atom, Shows, front_atoms, is_closed}
use Rattle.dcm_base.specs.Reading.Bars.{ascending_bar}
use Rattle.dcm_base.specs.Tree.Front.{Front}
use Rattle.dcm_base.specs.Reading.Reads.{INPUT_LIMIT, Reads, ended}
use Rattle.dcm_base.specs.Conversion.Recode.{recode}
use Rattle.dcm_base.specs.Steps.Steps.{outputs}
use Rattle.dcm_base.specs.Reading.Stop.{Stop}
use Rattle.dcm_base.specs.declared.length.Length.{Length}
use Rattle.dcm_base.specs.declared.dictionary.Dictionary.{Dictionary}
use Rattle.dcm_base.specs.declared.syntax.Syntax.{Syntax}
use Rattle.dcm_base.specs.declared.tag.Tag.{Tag}
use Rattle.dcm_base.specs.declared.vr.Vr.{Vr}
use Rattle.dcm_stream.specs.Driven.{bars_by}
use Rattle.dcm_sinks.specs.EncodeSink.{encode_start, encode_step, encode_writes}
use Rattle.dcm_sinks.specs.Laws.{StaysShallow}
use Rattle.dcm_edits.specs.Edit.{Edit, edited, found}
use Rattle.dcm_base.specs.Steps.Anew.{reached_anew}
use Rattle.dcm_editor.specs.EditSink.{begun, edit_bar, next, passed}
use Rattle.dcm_edits.specs.Bounds.{AreWithin, HaveShortIndexes, HaveValues}
use Rattle.dcm_edits.specs.EditWords.{meant_edits_in}
use Rattle.dcm_edits.specs.Overlap.{AreApart, ArePublic}

-- what the encode sink writes of the atoms that the edit sink passes on
abbrev pub written : Syntax → List Edit → List Atom → List ℕ
written target edits atoms = outputs encode_step encode_writes (encode_start target)
    (outputs next passed (begun edits) atoms)

-- the edit sink knows which edits have found their place
abbrev pub KnowsFound : List Edit → Front → List Atom → Type 0
KnowsFound edits f atoms = (fold next (begun edits) atoms).found ≡ map (λ e. found e f) edits

-- what the edit sink passes on of the atoms of a data set shows the edited one
abbrev pub StepsEdit : Type 0
StepsEdit =
    (edits : List Edit) (f : Front) (atoms : List Atom) → AreApart edits → ArePublic edits → HaveValues edits
    → HaveShortIndexes edits → FrontAscends f → StaysShallow 0 atoms → Shows f atoms
    → Shows (reached_anew (edited edits f)) (outputs next passed (begun edits) atoms) × KnowsFound edits f atoms

-- the sink bars a head exactly where its tag is not above the last one of its data set
abbrev pub StepsBar : Type 0
StepsBar =
    (edits : List Edit) (f : Front) (atoms : List Atom) (tag : Tag) (vr : Vr) (declared : Length)
    → HaveShortIndexes edits
    → StaysShallow 0 atoms → Shows f atoms
    → bars_by edit_bar next (begun edits) atoms tag vr declared ≡ ascending_bar f tag vr declared

-- what is read of an input under that bar ascends
abbrev pub ReadAscends : Type 0
ReadAscends =
    (s : Syntax) (start : ℕ) (bytes : List ℕ) (f : Front) (stop : Stop) → start ≤ INPUT_LIMIT
    → Reads ascending_bar s start bytes f stop → FrontAscends f

-- what was read of it so far ascends
abbrev pub ReadSoFarAscends : Type 0
ReadSoFarAscends =
    (s : Syntax) (start : ℕ) (bytes : List ℕ) (f : Front) (stop : Stop) → start ≤ INPUT_LIMIT → is_closed f ≡ false
    → Reads ascending_bar s start bytes (ended stop f) stop → FrontAscends f

-- new elements are no sequences, indexes have at most nine digits, and paths at most 64 steps
abbrev pub EditsFit : Type 0
EditsFit =
    (d : Dictionary) (words : List (List ℕ)) (edits : List Edit) → meant_edits_in d words ≡ Ok edits
    → HaveValues edits × HaveShortIndexes edits × AreWithin 64 edits

-- of all that is read of an input the edit sink and the encode sink after it write the edited data set
abbrev pub EditsWhole : Type 0
EditsWhole =
    (target : Syntax) (edits : List Edit) → AreApart edits → ArePublic edits → HaveValues edits → HaveShortIndexes edits
    → AreWithin 64 edits → (s : Syntax) (start : ℕ) (bytes : List ℕ) (f : Front) (stop : Stop) → start ≤ INPUT_LIMIT
    → Reads ascending_bar s start bytes f stop
    → (written target edits (front_atoms s f) ≡ recode target (edited edits f)) × KnowsFound edits f (front_atoms s f)

-- of what was read so far they write that, edited
abbrev pub EditsSoFar : Type 0
EditsSoFar =
    (target : Syntax) (edits : List Edit) → AreApart edits → ArePublic edits → HaveValues edits → HaveShortIndexes edits
    → AreWithin 64 edits → (s : Syntax) (start : ℕ) (bytes : List ℕ) (f : Front) (stop : Stop) → start ≤ INPUT_LIMIT
    → is_closed f ≡ false → Reads ascending_bar s start bytes (ended stop f) stop
    → (written target edits (front_atoms s f) ≡ recode target (edited edits f)) × KnowsFound edits f (front_atoms s f)
