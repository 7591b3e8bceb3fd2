use Rattle.std.proofs.Common.{◌≡◌, ◌+◌, [], drop, take, map}
use Rattle.dcm_edits.specs.Meaning.{edit_of}
use Rattle.dcm_edits.specs.Overlap.{first_overlap}
use Rattle.dcm_edits.proofs.overlap.first_overlap.Given as goal

-- what is left, after the edits before it
abbrev pub invariant-loop-i : goal.invariant-loop-i
invariant-loop-i g l = first_overlap (l.i + 1) (map edit_of (take l.i l.edits)) (map edit_of (drop l.i l.edits)) ≡ first_overlap 1 [] (map edit_of l.edits)
