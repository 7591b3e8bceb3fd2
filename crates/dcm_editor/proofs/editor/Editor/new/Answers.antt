use Rattle.std.proofs.Common.{map, arith}
use Rattle.dcm_stream.specs.Skip.{depth}
use Rattle.dcm_edits.specs.Meaning.{edit_of}
use Rattle.std.proofs.lemmas.List.{length-map}
use Rattle.dcm_editor.proofs.Masks.Editing.{begins}
use Rattle.dcm_editor.proofs.editor.Editor.new.Goals as goal

pub returns : goal.returns
returns g c =
    let size = length-map c.args.edits.now edit_of in
    begins (map edit_of c.args.edits.now) c.all-mask.result c.answering.result (depth c.nothing.result) _ c.new.result.items c.new_level.ensures c.new.ensures c.nothing.ensures (λ j l. c.all-mask.ensures j (omega (arith, size, l))) c.answering.ensures
