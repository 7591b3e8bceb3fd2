use Rattle.std.proofs.Common.{◌<◌, subst, sym, arith}
use Rattle.dcm_build.specs.OpenContainers.{OpenContainers, lists_open}
use Rattle.dcm_build.proofs.Files.Depth.{list_fits}
use Rattle.dcm_build.proofs.open_containers.OpenContainers.enter_list.Goals as goal

pub push-requires : goal.push-requires
push-requires c =
    (omega arith, list_fits c.self.inside.outermost_first.items c.self.invariant (subst (λ (s : OpenContainers). lists_open s.containers < 64) (sym c.self.view_is) c.requires.few))
