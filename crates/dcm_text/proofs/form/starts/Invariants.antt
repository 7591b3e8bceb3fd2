use Rattle.std.proofs.Common.{◌≡◌, length}
use Rattle.dcm_text.specs.Forms.{starts}
use Rattle.dcm_text.proofs.form.starts.Given as goal

-- what is left fits as all of it does
abbrev pub invariant-loop-left : goal.invariant-loop-left
invariant-loop-left l = starts l.left l.rest ≡ starts l.wanted l.bytes

abbrev pub decreases-loop-left : goal.decreases-loop-left
decreases-loop-left l = length l.left
