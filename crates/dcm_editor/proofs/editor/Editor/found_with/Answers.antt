use Rattle.std.proofs.Common.{◌∙◌, ap, ℕ, map}
use Rattle.dcm_editor.specs.Asking.{answer_of}
use Rattle.dcm_editor.specs.Masks as masks
use Rattle.dcm_edits.specs.Meaning.{edit_of}
use Rattle.dcm_editor.proofs.Masks.Answering.{found_either}
use Rattle.dcm_editor.proofs.editor.Editor.found_with.Goals as goal

pub returns : goal.returns
returns g c =
    let here = λ (d : ℕ). map (answer_of c.args.question) (masks.asked d c.args.self.now.level.mask 0 (map edit_of c.args.edits.now)) in
    found_either c.args.self.now.found c.answering.result 0 0 0 (map edit_of c.args.edits.now) _ (c.answering.ensures ∙ ap here c.depth.ensures.value)
