-- What a `NewFile` means.
use Rattle.std.specs.Prelude.{◌≡◌, ℕ, List, [], Option, None, Some, Result, Ok, Err, unwrap_or}
use Rattle.std.specs.Io.KnownBytes.{append_known}
use Rattle.dcm_base.specs.declared.fault.LineStop.{LineStop}
use Rattle.dcm_base.specs.declared.fault.LineFault.{LineFault}
use Rattle.dcm_devices.specs.Device.{AppendsFront}
use Rattle.dcm_base.specs.Lines.Line.{Step, show_leaf, show_fragment}
use Rattle.dcm_build.specs.declared.file.NewFile.{NewFile}
use Rattle.dcm_build.specs.Halts.{LineHalt}
use Rattle.dcm_base.specs.declared.stopped.Stopped.TheVariants.{Refused, Output}
use Rattle.dcm_build.specs.Building.{BuildState, tells}
use Rattle.dcm_sinks.specs.Encoder as encoders

-- where a line begins, the bytes of it, and how long one may be
pub record LineAt : Type 0 where
  pub limit : ℕ
  pub line : List ℕ
  pub offset : ℕ
  pub number : ℕ

abbrev pub state : NewFile → LineAt → Option LineStop → BuildState
state f at told = record {
  limit = at.limit;
  line = at.line;
  offset = at.offset;
  number = at.number;
  meta = f.group;
  meta_ended = f.meta_ended;
  standing = f.standing;
  encoding = encoders.state f.encoder;
  told = told;
}

-- what does not hang on the line
abbrev pub nowhere : LineAt
nowhere = record { limit = 0; line = []; offset = 0; number = 0 }

abbrev pub seen : NewFile → BuildState
seen f = state f nowhere None

-- the value that a step shows
abbrev pub value_in : Step → List ℕ
value_in (show_leaf tag vr value) = unwrap_or value []
value_in (show_fragment value) = unwrap_or value []
value_in _ = []

-- what was built came to this state, and these bytes went out, or a beginning of them
abbrev pub Comes : {T : Type 0} → (held holds : Option (List ℕ)) → BuildState → BuildState → List ℕ → Result T LineHalt
    → Type 0
Comes held holds new s bytes (Ok x) = (new ≡ s) × (holds ≡ append_known held bytes)
Comes held holds new s bytes (Err (Refused fault)) = (tells fault new ≡ s) × (holds ≡ append_known held bytes)
Comes held holds new s bytes (Err Output) = AppendsFront held holds bytes

-- the input ended in this state, and these bytes went out, or a beginning of them
abbrev pub Ends : {T : Type 0} → (held holds : Option (List ℕ)) → BuildState → BuildState → Option LineFault → List ℕ
    → Result T LineHalt → Type 0
Ends held holds new s fault bytes (Ok x) = (new ≡ s) × (fault ≡ None) × (holds ≡ append_known held bytes)
Ends held holds new s fault bytes (Err (Refused told)) = (new ≡ s) × (fault ≡ Some told)
    × (holds ≡ append_known held bytes)
Ends held holds new s fault bytes (Err Output) = AppendsFront held holds bytes
