use Rattle.std.proofs.Common.{◌≡◌, ℕ, List, ◌++◌, length}
use Rattle.dcm_cli.proofs.Passes.Readers.{members}
use Rattle.dcm_instance.specs.Same.{GaveAll}
use Rattle.dcm_instance.proofs.same.gives.Given as goal

-- the bytes in front of those that are left were given
abbrev pub invariant-loop-rest : goal.invariant-loop-rest
invariant-loop-rest g l = record {
  front : List ℕ;
  whole : l.fn.wanted ≡ front ++ l.rest;
  gave : GaveAll (members g.R.Device g.R.DeviceIn) l.fn.input l.input front;
  size : length l.buffer ≡ length l.fn.buffer;
}

abbrev pub decreases-loop-rest : goal.decreases-loop-rest
decreases-loop-rest g l = length l.rest
