use Rattle.std.proofs.Common.{refl, sym, ◌∙◌}
use Rattle.dcm_trees.specs.Instance as spec
use Rattle.dcm_trees.proofs.instance.give_free_name.Goals as goal

pub returns-then-is_free : goal.returns-then-is_free
returns-then-is_free g c = spec.free c.place_at-place.result c.place_at-place.new.system c.place_at-place.ensures (sym c.is_free.ensures ∙ c.if-is_free.true) c.give_name.ensures

pub returns-else-is_free : goal.returns-else-is_free
returns-else-is_free g c = spec.not_free c.place_at-place.result c.place_at-place.ensures (sym c.is_free.ensures ∙ c.if-is_free.false) refl
