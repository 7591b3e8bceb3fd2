use Rattle.std.proofs.Common.{rules, sym, ◌∙◌}
use Rattle.dcm_trees.specs.File as spec
use Rattle.dcm_trees.proofs.file.do_placed.Goals as goal

pub returns-then-is_free : goal.returns-then-is_free
returns-then-is_free g c = spec.free c.place_at-place.result c.place_at-place.new.system c.place_at-place.ensures (sym c.is_free.ensures ∙ c.if-is_free.true) c.do_free.ensures

pub returns-else-is_free : goal.returns-else-is_free
returns-else-is_free g c = spec.not_free c.place_at-place.result c.place_at-place.ensures (sym c.is_free.ensures ∙ c.if-is_free.false) c.tell_place.ensures.line (search rules)
