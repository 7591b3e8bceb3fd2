use Rattle.std.proofs.Common.{◌∙◌, ap, ℕ, map}
use Rattle.dcm_edits.specs.Meaning.{edit_of}
use Rattle.dcm_edits.specs.Together.{first_fate}
use Rattle.dcm_editor.specs.Masks as masks
use Rattle.dcm_editor.proofs.Masks.Indexed.{fate_narrowed}
use Rattle.dcm_editor.proofs.editor.Editor.fate_of.Goals as goal

pub returns : goal.returns
returns g c =
    let es = map edit_of c.args.edits.now in
    let e = c.args.self.now in
    let fate = λ (d m : ℕ). first_fate (masks.asked d m 0 es) c.args.tag in
    c.first_fate.ensures
    ∙ ap (λ (m : ℕ). fate c.depth.result m) c.candidates.ensures
    ∙ fate_narrowed c.args.index.now c.depth.result e.level.mask c.args.tag 0 es c.requires.index
    ∙ ap (λ (d : ℕ). fate d e.level.mask) c.depth.ensures.value
