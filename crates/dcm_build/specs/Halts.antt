-- Why the building of a file goes no further.
use Rattle.dcm_base.specs.declared.fault.LineFault.{LineFault}
use Rattle.dcm_base.specs.declared.fault.LineStop.{LineStop}
use Rattle.dcm_base.specs.declared.stopped.Stopped.{Stopped}

-- a line is refused, or the output failed
abbrev pub LineHalt : Type 0
LineHalt = Stopped LineFault

-- the input is refused, or the output failed
abbrev pub BuildHalt : Type 0
BuildHalt = Stopped LineStop
