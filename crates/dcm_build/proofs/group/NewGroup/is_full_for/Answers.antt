use Rattle.std.proofs.Common.{arith}
use Rattle.dcm_build.proofs.Files.Meta.{full_by}
use Rattle.dcm_build.proofs.group.NewGroup.is_full_for.Goals as goal

pub returns : goal.returns
returns c = full_by c.self.inside.spelled.items c.args.self.now c.len.result c.args.size c.self.invariant c.self.view_is c.len.ensures.value (omega arith)
