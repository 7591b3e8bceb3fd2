use Rattle.std.proofs.Common.{rules}
use Rattle.dcm_build.proofs.open_containers.reached_among.Goals as goal

pub offset_bounds-rest-rest : goal.offset_bounds-rest-rest
offset_bounds-rest-rest c = search rules
