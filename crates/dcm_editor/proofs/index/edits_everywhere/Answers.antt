use Rattle.std.proofs.Common.{List, map, ap, ◌∙◌, arith}
use Rattle.std.proofs.lemmas.List.{length-map}
use Rattle.dcm_edits.specs.Edit.{Edit}
use Rattle.dcm_edits.specs.Meaning.{edit_of}
use Rattle.dcm_editor.specs.Asking.{answer_of}
use Rattle.dcm_editor.specs.declared.asked.Question.TheVariants.{IsEverywhere}
use Rattle.dcm_editor.proofs.Masks.Answering.{all_set}
use Rattle.dcm_editor.proofs.Masks.Meaning.{asked_first}
use Rattle.dcm_editor.proofs.index.edits_everywhere.Goals as goal

pub returns : goal.returns
returns g c =
    let es = map edit_of c.args.edits.now in
    let size = length-map c.args.edits.now edit_of in
    let set = all_set c.all.result 0 es (λ j l. c.all.ensures j (omega (arith, size, l))) in
    c.answering.ensures ∙ ap (λ (xs : List Edit). map (answer_of IsEverywhere) xs) (asked_first c.all.result 0 es set)
