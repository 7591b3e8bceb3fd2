use Rattle.std.proofs.Common.{◌∙◌, ap, sym, flat_map}
use Rattle.dcm_named.specs.Naming as naming
use Rattle.dcm_named.proofs.Ways.{way_of, way_due}
use Rattle.dcm_named.proofs.filter.Filter.way_before.Goals as goal

pub returns-then-self : goal.returns-then-self
returns-then-self c =
    let f = c.args.self.now in
    way_due (naming.token_begins (naming.place f) c.args.token) f.ways (naming.place f).way (sym c.if-begins.ensures) c.if-self.true
    ∙ way_of f.outermost_first.items
    ∙ ap (flat_map naming.outside_text) (sym c.as_slice.ensures.value)
