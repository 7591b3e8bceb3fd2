use Rattle.std.proofs.Common.{refl, subst, List, ℕ}
use Rattle.dcm_trees.specs.Place.{Finds}
use Rattle.dcm_trees.specs.Part as spec
use Rattle.dcm_trees.proofs.part.look_again.Goals as goal

pub returns : goal.returns
returns g c = spec.found c.place_at.result (subst (λ (path : List ℕ). Finds g.S.Folders.folders_do path c.args.base c.args.system.now c.place_at.result c.place_at.new.system) c.as_bytes.ensures.value c.place_at.ensures) refl
