-- Why a machine goes no further.
use Rattle.dcm_base.specs.declared.fault.Stop.{Stop}
use Rattle.dcm_base.specs.declared.stopped.Stopped.{Stopped}

-- the input is refused, or the output failed
abbrev pub Halt : Type 0
Halt = Stopped Stop
