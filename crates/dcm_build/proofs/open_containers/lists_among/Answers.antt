use Rattle.std.proofs.Common.{◌≤◌, arith}
use Rattle.dcm_build.proofs.Files.Depth.{lists_step, one_few}
use Rattle.dcm_build.proofs.open_containers.lists_among.Goals as goal

pub loop-container-preserved : goal.loop-container-preserved
loop-container-preserved c =
    let few : c.counts-count.result ≤ 1 = one_few _ _ c.counts-count.ensures in
    record { count = lists_step _ _ _ _ _ c.loop-container-test.true c.counts-count.ensures c.loop-container.invariant.count; few = omega (arith, few, c.loop-container.invariant.few) }
