use Rattle.std.proofs.Common.{◌-◌, length}
use Rattle.dcm_cli.proofs.Passes.Readers.{members}
use Rattle.dcm_cli.proofs.Passes.KeyBytes.{KeySoFar}
use Rattle.dcm_cli.proofs.key.read_key.Given as goal

-- these bytes came so far
abbrev pub invariant-loop-size : goal.invariant-loop-size
invariant-loop-size g l = record { so_far : KeySoFar (members g.R.Device g.R.DeviceIn) l.fn.input l.key.items l.input }

abbrev pub decreases-loop-size : goal.decreases-loop-size
decreases-loop-size g l = 4096 - length l.key.items
