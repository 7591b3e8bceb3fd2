use Rattle.std.proofs.Common.{◌≡◌, length}
use Rattle.dcm_trees.specs.File.{ends_in_index}
use Rattle.dcm_trees.proofs.file.is_media_index.Given as goal

-- it stands behind a slash that is still to come
abbrev pub invariant-loop-rest : goal.invariant-loop-rest
invariant-loop-rest l = ends_in_index l.fn.relative ≡ ends_in_index l.rest

abbrev pub decreases-loop-rest : goal.decreases-loop-rest
decreases-loop-rest l = length l.rest
