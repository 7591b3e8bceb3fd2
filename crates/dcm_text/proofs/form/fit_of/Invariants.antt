use Rattle.std.proofs.Common.{◌≡◌, length}
use Rattle.dcm_text.specs.Forms.{fit_of}
use Rattle.dcm_text.proofs.form.fit_of.Given as goal

-- what is left fits as all of it does
abbrev pub invariant-loop-left : goal.invariant-loop-left
invariant-loop-left l = fit_of l.left l.rest ≡ fit_of l.ranges l.bytes

abbrev pub decreases-loop-left : goal.decreases-loop-left
decreases-loop-left l = length l.left
