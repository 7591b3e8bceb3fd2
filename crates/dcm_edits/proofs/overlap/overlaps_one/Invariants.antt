use Rattle.std.proofs.Common.{◌≡◌, length, map}
use Rattle.dcm_edits.specs.Meaning.{edit_of}
use Rattle.dcm_edits.specs.Overlap.{overlaps_one}
use Rattle.dcm_edits.proofs.overlap.overlaps_one.Given as goal

-- the edits that are left decide for all of them
abbrev pub invariant-loop-earlier : goal.invariant-loop-earlier
invariant-loop-earlier g l = overlaps_one (map edit_of l.earlier) (edit_of l.later) ≡ overlaps_one (map edit_of l.initial.earlier) (edit_of l.later)

abbrev pub decreases-loop-earlier : goal.decreases-loop-earlier
decreases-loop-earlier g l = length l.earlier
