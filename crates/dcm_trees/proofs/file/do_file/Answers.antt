use Rattle.std.proofs.Common.{sym, ◌∙◌}
use Rattle.dcm_trees.specs.File as spec
use Rattle.dcm_trees.proofs.file.do_file.Goals as goal

pub returns-then-manner : goal.returns-then-manner
returns-then-manner g c = spec.keeps_name c.do_named.result (sym c.is_media_index.ensures ∙ c.if-is_media_index.false) c.if-manner.true c.do_named.ensures c.under_its_name-then-manner.ensures

pub returns : goal.returns
returns g c = spec.by_instance (sym c.is_media_index.ensures ∙ c.if-is_media_index.false) c.if-manner.false c.do_unnamed.ensures
