use Rattle.std.proofs.Common.{refl, sym, subst, ◌∙◌, List, ℕ}
use Rattle.dcm_trees.specs.Place.{Finds}
use Rattle.dcm_trees.specs.Part as spec
use Rattle.dcm_trees.proofs.part.move_if_free.Goals as goal

pub returns-then-is_free : goal.returns-then-is_free
returns-then-is_free g c = spec.free c.place_at-place.result c.place_at-place.new.system (subst (λ (path : List ℕ). Finds g.S.Folders.folders_do path c.args.base c.args.system.now c.place_at-place.result c.place_at-place.new.system) c.as_bytes.ensures.value c.place_at-place.ensures) (sym c.is_free.ensures ∙ c.if-is_free.true) c.move_part.ensures

pub returns-else-is_free : goal.returns-else-is_free
returns-else-is_free g c = spec.not_free c.place_at-place.result (subst (λ (path : List ℕ). Finds g.S.Folders.folders_do path c.args.base c.args.system.now c.place_at-place.result c.place_at-place.new.system) c.as_bytes.ensures.value c.place_at-place.ensures) (sym c.is_free.ensures ∙ c.if-is_free.false) refl
