use Rattle.std.proofs.Common.{drop}
use Rattle.dcm_base.specs.Lines.Line.{through_bracket}
use Rattle.dcm_build.proofs.Lines.Fields.{Passed}
use Rattle.dcm_build.proofs.line.bracket_end.Given as goal

-- the bytes so far don't end the field
abbrev pub invariant-loop-i : goal.invariant-loop-i
invariant-loop-i l = Passed through_bracket l.bytes l.i (drop l.i l.bytes)
