use Rattle.std.proofs.Common.{ap, ◌∙◌, arith}
use Rattle.dcm_build.specs.OpenContainers.{OpenContainers, container_of}
use Rattle.dcm_build.proofs.Files.Depth.{item_fits}
use Rattle.dcm_build.proofs.open_containers.OpenContainers.enter_item.Goals as goal

pub push-requires : goal.push-requires
push-requires c =
    (omega arith, item_fits c.self.inside.outermost_first.items c.self.invariant (ap (λ (s : OpenContainers). container_of s.containers) c.self.view_is ∙ c.requires))
