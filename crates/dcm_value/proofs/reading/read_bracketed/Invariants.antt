use Rattle.std.proofs.Common.{◌≡◌, ◌≤◌, length}
use Rattle.dcm_base.specs.Lines.ReadValue.{bracketed_value}
use Rattle.dcm_value.specs.Taking.{behind}
use Rattle.dcm_value.proofs.reading.read_bracketed.Given as goal

-- the bytes so far stand there, and those of the rest are to come
abbrev pub invariant-loop-rest : goal.invariant-loop-rest
invariant-loop-rest l = record {
  same : bracketed_value l.text ≡ behind l.value.items (bracketed_value l.rest);
  fits : length l.value.items ≤ 65536;
}

abbrev pub decreases-loop-rest : goal.decreases-loop-rest
decreases-loop-rest l = length l.rest
