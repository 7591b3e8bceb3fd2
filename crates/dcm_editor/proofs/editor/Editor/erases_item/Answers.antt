use Rattle.std.proofs.Common.{◌∙◌, ap, ℕ, map}
use Rattle.dcm_editor.specs.Masks as masks
use Rattle.dcm_edits.specs.Meaning.{edit_of}
use Rattle.dcm_edits.specs.Together.{any_erases}
use Rattle.dcm_editor.proofs.Masks.Answering.{erasing}
use Rattle.dcm_editor.proofs.editor.Editor.erases_item.Goals as goal

pub returns : goal.returns
returns g c =
    let here = λ (d : ℕ). masks.asked d c.args.self.now.level.mask 0 (map edit_of c.args.edits.now) in
    c.any_answers.ensures ∙ erasing c.args.tag c.args.self.now.level.items (here c.depth.result) ∙ ap (λ (d : ℕ). any_erases (here d) c.args.tag c.args.self.now.level.items) c.depth.ensures.value
