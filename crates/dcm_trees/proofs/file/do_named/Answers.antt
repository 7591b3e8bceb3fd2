use Rattle.std.proofs.Common.{sym}
use Rattle.dcm_trees.proofs.Rows.{placed_at}
use Rattle.dcm_trees.specs.File as spec
use Rattle.dcm_trees.proofs.file.do_named.Goals as goal

pub returns-in-Some : goal.returns-in-Some
returns-in-Some g c = spec.placed c.in-Some.path.items (sym c.in-Some.ensures) (placed_at _ _ c.as_slice.ensures.value c.do_placed.ensures)
