use Rattle.std.proofs.Common.{◌∙◌, ap, sym, ℕ, map, length, reverse, not, true}
use Rattle.std.specs.Prelude.{◌==◌}
use Rattle.dcm_stream.specs.Skip.{depth, is_open}
use Rattle.dcm_edits.specs.Meaning.{edit_of}
use Rattle.dcm_editor.specs.Asking.{any_answer}
use Rattle.dcm_editor.specs.Masks as masks
use Rattle.dcm_editor.specs.declared.asked.Question.TheVariants.{Meets}
use Rattle.dcm_editor.proofs.Masks.Indexed.{any_narrowed, none_asked, open_or_met}
use Rattle.dcm_editor.proofs.editor.Editor.leaves.Goals as goal

pub returns-then-mask-eq0 : goal.returns-then-mask-eq0
returns-then-mask-eq0 g c =
    let es = map edit_of c.args.edits.now in
    let e = c.args.self.now in
    let tag = c.args.tag in
    let d = length (reverse e.outermost_first.items) in
    let met = λ (m : ℕ). any_answer (Meets tag e.level.last) (masks.asked d m 0 es) in
    let none = c.if-mask-eq0.true in
    let unmet = sym (any_narrowed c.args.index.now d e.level.mask tag e.level.last 0 es c.requires.index) ∙ ap met (sym c.candidates-mask.ensures) ∙ none_asked e.level.last tag d c.candidates-mask.result 0 es none in
    ap (λ (m : ℕ). m == 0) none ∙ open_or_met (is_open (depth e.skip)) (met e.level.mask) true c.if-not-is_open.ensures (ap not (sym unmet))

pub returns-else-mask-eq0 : goal.returns-else-mask-eq0
returns-else-mask-eq0 g c =
    let es = map edit_of c.args.edits.now in
    let e = c.args.self.now in
    let tag = c.args.tag in
    let d = length (reverse e.outermost_first.items) in
    let met = λ (m : ℕ). any_answer (Meets tag e.level.last) (masks.asked d m 0 es) in
    open_or_met (is_open (depth e.skip)) (met e.level.mask) (not c.is_met.result) c.if-not-is_open.ensures (ap not (c.is_met.ensures ∙ ap met c.candidates-mask.ensures ∙ any_narrowed c.args.index.now d e.level.mask tag e.level.last 0 es c.requires.index))
