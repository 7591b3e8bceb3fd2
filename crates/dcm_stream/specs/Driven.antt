-- What a machine and its sink come to over the bytes of a data set.
use Rattle.std.specs.Prelude.{◌≡◌, ℕ, List, [], ◌∷◌, ◌++◌, true, false, if◌then◌else◌, Option, Some, None, Result, fold}
use Rattle.std.specs.Io.KnownBytes.{append_known}
use Rattle.dcm_base.specs.declared.tag.Tag.{Tag}
use Rattle.dcm_base.specs.declared.vr.Vr.{Vr}
use Rattle.dcm_base.specs.declared.length.Length.{Length}
use Rattle.dcm_base.specs.declared.syntax.Syntax.{Syntax}
use Rattle.dcm_base.specs.Tables.Syntax.{Little}
use Rattle.dcm_base.specs.declared.fault.Fault.{Fault}
use Rattle.dcm_base.specs.Steps.Atoms.{Atom, front_atoms, is_closed}
use Rattle.dcm_devices.specs.Device.{Puts}
use Rattle.dcm_base.specs.Reading.Bars.{is_fragment_form}
use Rattle.dcm_base.specs.Tree.Front.{Front}
use Rattle.dcm_base.specs.Reading.Reads.{Reads, ended}
use Rattle.dcm_base.specs.Bytes.Spelling.{form}
use Rattle.dcm_base.specs.Steps.Steps.{outputs}
use Rattle.dcm_base.specs.Reading.Stop.{Bar, HeadBar, Stop, refused, is_early, is_undecided, is_early_bar}
use Rattle.dcm_head.specs.declared.head.Head.{Head}
use Rattle.dcm_stream.specs.declared.token.Bar.{Bar as SinkBar}
use Rattle.dcm_stream.specs.declared.token.Bar.TheVariants.{Fragments}
use Rattle.dcm_stream.specs.Reading.{Reading, start_of, finish, end_shows, read_all}
use Rattle.dcm_stream.specs.Judging.{bars_head}
use Rattle.dcm_stream.specs.Machine.{steps, steps_write, Progress}

-- heads are barred by the atoms so far as by the state that they lead to
abbrev pub bars_by : {S : Type 0} → (S → Head → Option SinkBar) → (S → Atom → S) → S → List Atom → HeadBar
bars_by bars step first atoms = bars_head bars (fold step first atoms)

-- they come to what is read of the bytes, and to what the sink makes of its atoms
abbrev pub DrivesAs : {S : Type 0} → (S → Head → Option SinkBar) → (S → Atom → S) → (S → Atom → List ℕ) → Type 0
DrivesAs {S} bars step writes = (first : S) (s : Syntax) (start : ℕ) (bytes : List ℕ) →
    let r = read_all (bars_by bars step first) s start bytes in
    (fold (steps bars step) (start_of s start, first) bytes ≡ (r.0, fold step first r.1))
    × (outputs (steps bars step) (steps_write bars step writes) (start_of s start, first) bytes
    ≡ outputs step writes first r.1)

-- no bar is reported as an early end
abbrev pub DecidesBars : {S : Type 0} → (S → Head → Option SinkBar) → Type 0
DecidesBars {S} bars = (s : S) (tag : Tag) (vr : Vr) (declared : Length)
    → is_early_bar (bars_head bars s tag vr declared) ≡ false

-- the reading, the sink's state and the output after the bytes
abbrev pub driven : {S : Type 0} → (S → Head → Option SinkBar) → (S → Atom → S) → S → Syntax → (start : ℕ) → List ℕ
    → Reading × S
driven bars step first s start bytes = fold (steps bars step) (start_of s start, first) bytes

abbrev pub driven_output : {S : Type 0} → (S → Head → Option SinkBar) → (S → Atom → S) → (S → Atom → List ℕ) → S
    → Syntax → (start : ℕ) → List ℕ → List ℕ
driven_output bars step writes first s start bytes =
    outputs (steps bars step) (steps_write bars step writes) (start_of s start, first) bytes

-- the input ends with the bytes: f is read of it, and the sink has made of it what it makes of the atoms of f
pub record EndsAs {S : Type 0} (bars : S → Head → Option SinkBar) (step : S → Atom → S) (writes : S → Atom
    → List ℕ) (bar : Bar) (first : S) (s : Syntax) (start : ℕ) (bytes : List ℕ) : Type 0 where
  pub f : Front
  pub reads : Reads bar s start bytes f (finish (driven bars step first s start bytes).0)
  pub state : fold step (driven bars step first s start bytes).1
      (end_shows (finish (driven bars step first s start bytes).0)) ≡ fold step first (front_atoms s f)
  pub output : driven_output bars step writes first s start bytes
      ++ outputs step writes (driven bars step first s start bytes).1
      (end_shows (finish (driven bars step first s start bytes).0))
      ≡ outputs step writes first (front_atoms s f)

-- each input that begins with the bytes is refused by this fault at this offset: f is read of it, and shown
pub record RefusesAs {S : Type 0} (bars : S → Head → Option SinkBar) (step : S → Atom → S) (writes : S → Atom
    → List ℕ) (bar : Bar) (first : S) (s : Syntax) (start : ℕ) (bytes : List ℕ) (fault : Fault)
    (offset : ℕ) : Type 0 where
  pub f : Front
  pub decided : is_early fault ≡ false
  pub reads : (later : List ℕ) → Reads bar s start (bytes ++ later) f (refused fault offset)
  pub state : (driven bars step first s start bytes).1 ≡ fold step first (front_atoms s f)
  pub output : driven_output bars step writes first s start bytes ≡ outputs step writes first (front_atoms s f)

-- more bytes may still come to another end: f is read of these, not closed, and shown
pub record WaitsAs {S : Type 0} (bars : S → Head → Option SinkBar) (step : S → Atom → S) (writes : S → Atom
    → List ℕ) (bar : Bar) (first : S) (s : Syntax) (start : ℕ) (bytes : List ℕ) : Type 0 where
  pub f : Front
  pub not_closed : is_closed f ≡ false
  pub undecided : is_undecided (Some (finish (driven bars step first s start bytes).0)) ≡ true
  pub reads : Reads bar s start bytes (ended (finish (driven bars step first s start bytes).0) f)
      (finish (driven bars step first s start bytes).0)
  pub state : (driven bars step first s start bytes).1 ≡ fold step first (front_atoms s f)
  pub output : driven_output bars step writes first s start bytes ≡ outputs step writes first (front_atoms s f)

-- at the beginning of a data set
abbrev pub begun : Syntax → (start : ℕ) → Progress
begun s start = record { reading = start_of s start; failed = false }

-- of these bytes f is read, and all that the sink makes of it went out, or a beginning of that where the output failed
pub record Shown {S : Type 0} (step : S → Atom → S) (writes : S → Atom → List ℕ) (bar : Bar) (first : S) (s : Syntax)
    (start : ℕ) (bytes : List ℕ) (stop : Stop) (held holds : Option (List ℕ)) (r : Result (Unit {0}) (Unit {0})) :
    Type 0 where
  pub f : Front
  pub reads : Reads bar s start bytes f stop
  pub puts : Puts held holds (outputs step writes first (front_atoms s f)) r

-- more bytes may still come to another end: f is read of these, not closed, and all that the sink makes of it went out
pub record ShownSoFar {S : Type 0} (step : S → Atom → S) (writes : S → Atom → List ℕ) (bar : Bar) (first : S)
    (s : Syntax) (start : ℕ) (bytes : List ℕ) (stop : Stop) (held holds : Option (List ℕ)) : Type 0 where
  pub f : Front
  pub not_closed : is_closed f ≡ false
  pub undecided : is_undecided (Some stop) ≡ true
  pub reads : Reads bar s start bytes (ended stop f) stop
  pub shown : holds ≡ append_known held (outputs step writes first (front_atoms s f))

-- ---- sinks by what they bar, in each state that atoms lead them to

-- no head
abbrev pub BarsNone : {S : Type 0} → (S → Head → Option SinkBar) → (S → Atom → S) → S → Type 0
BarsNone bars step first = (atoms : List Atom) (head : Head) → bars (fold step first atoms) head ≡ None

-- exactly the fragment lists
abbrev pub BarsFragments : {S : Type 0} → (S → Head → Option SinkBar) → (S → Atom → S) → S → Type 0
BarsFragments bars step first = (atoms : List Atom) (head : Head) → bars (fold step first atoms) head
    ≡ (if is_fragment_form (form Little head.vr head.length) then Some Fragments else None)
