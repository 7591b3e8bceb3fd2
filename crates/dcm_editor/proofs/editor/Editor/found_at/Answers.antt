use Rattle.std.proofs.Common.{◌∙◌, ap, ℕ, map}
use Rattle.dcm_edits.specs.Meaning.{edit_of}
use Rattle.dcm_editor.specs.Asking.{answer_of}
use Rattle.dcm_editor.specs.Masks as masks
use Rattle.dcm_editor.specs.declared.asked.Question.TheVariants.{AtHead}
use Rattle.dcm_editor.proofs.Masks.Answering.{found_either}
use Rattle.dcm_editor.proofs.Masks.Indexed.{heads_narrowed}
use Rattle.dcm_editor.proofs.editor.Editor.found_at.Goals as goal

pub returns : goal.returns
returns g c =
    let es = map edit_of c.args.edits.now in
    let e = c.args.self.now in
    let last = e.level.last in
    let answers = λ (d m : ℕ). map (answer_of (AtHead c.args.tag last)) (masks.asked d m 0 es) in
    found_either e.found c.answering-found_here.result 0 0 0 es _
    (c.answering-found_here.ensures ∙ ap (λ (m : ℕ). answers c.depth.result m) c.candidates.ensures ∙ heads_narrowed c.args.index.now c.depth.result e.level.mask c.args.tag last 0 es c.requires.index ∙ ap (λ (d : ℕ). answers d e.level.mask) c.depth.ensures.value)
