-- What a call that reads or builds answers: how its output went, and why it goes no further.
use Rattle.std.specs.Prelude.{◌≡◌, Bool, true, false, Option, None, Some, Result, Ok, Err}
use Rattle.dcm_base.specs.declared.stopped.Stopped.{Stopped}
use Rattle.dcm_base.specs.declared.stopped.Stopped.TheVariants.{Refused, Output}

-- whether the output went well
abbrev pub went : {R T : Type 0} → Result T (Stopped R) → Result (Unit {0}) (Unit {0})
went (Ok x) = Ok tt
went (Err (Refused why)) = Ok tt
went (Err Output) = Err tt

abbrev pub well : (failed : Bool) → Result (Unit {0}) (Unit {0})
well true = Err tt
well false = Ok tt

-- why what was read is refused
abbrev pub refusal : {R T : Type 0} → Result T (Stopped R) → Option R
refusal (Ok x) = None
refusal (Err (Refused why)) = Some why
refusal (Err Output) = None

-- of what was reported so far: why what was read is refused, and whether the output failed
abbrev pub stop_of : {R : Type 0} → Option (Stopped R) → Option R
stop_of None = None
stop_of (Some (Refused why)) = Some why
stop_of (Some Output) = None

abbrev pub is_output : {R : Type 0} → Option (Stopped R) → Bool
is_output None = false
is_output (Some (Refused why)) = false
is_output (Some Output) = true

-- what a call answers then
abbrev pub answer : {R : Type 0} → Option R → (failed : Bool) → Result (Unit {0}) (Stopped R)
answer why true = Err Output
answer None false = Ok tt
answer (Some why) false = Err (Refused why)

-- the writer failed in the call exactly where the output did
abbrev pub TellsHalt : {R T : Type 0} → (old new : Bool) → Result T (Stopped R) → Type 0
TellsHalt old new (Ok x) = new ≡ old
TellsHalt old new (Err (Refused why)) = new ≡ old
TellsHalt old new (Err Output) = new ≡ true

abbrev pub TellsFailed : (old new : Bool) → (failed : Bool) → Type 0
TellsFailed old new true = new ≡ true
TellsFailed old new false = new ≡ old
