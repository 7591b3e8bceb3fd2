use Rattle.std.proofs.Common.{◌∙◌, sym, ap}
use Rattle.dcm_edits.specs.Edit as spec
use Rattle.dcm_editor.specs.EditSink.{has_place}
use Rattle.dcm_edits.specs.Meaning.{edit_of}
use Rattle.dcm_editor.proofs.Overlapping.Paths.{within_along}
use Rattle.dcm_editor.proofs.asked.has_place_in.Goals as goal

pub returns-then-goes_along : goal.returns-then-goes_along
returns-then-goes_along g c =
    c.has_place.ensures ∙ sym (ap (λ (e : spec.Edit). has_place (spec.element_of e)) (within_along c.args.depth (edit_of c.args.edit.now) c.args.tag c.args.item (sym c.if-goes_along.ensures)))
