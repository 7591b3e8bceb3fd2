use Rattle.std.proofs.Common.{◌≡◌, length}
use Rattle.std.specs.Prelude.{fold}
use Rattle.dcm_head.specs.MetaReading.{meta_step}
use Rattle.dcm_head.proofs.meta.Meta.go_over.Given as goal

-- the bytes that are to come give the answer
abbrev pub invariant-loop-self : goal.invariant-loop-self
invariant-loop-self l = fold meta_step l.self l.rest ≡ fold meta_step l.fn.self l.piece

abbrev pub decreases-loop-self : goal.decreases-loop-self
decreases-loop-self l = length l.rest
