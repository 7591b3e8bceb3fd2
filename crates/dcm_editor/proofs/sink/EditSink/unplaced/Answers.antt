use Rattle.std.proofs.Common.{List, length, ap, arith}
use Rattle.std.proofs.lemmas.List.{length-map}
use Rattle.dcm_edits.specs.Edit.{Edit}
use Rattle.dcm_edits.specs.Meaning.{edit_of}
use Rattle.dcm_editor.proofs.Words.MeantEdits.{few_listed}
use Rattle.dcm_editor.proofs.sink.EditSink.unplaced.Goals as goal

pub unset_bits-requires : goal.unset_bits-requires
unset_bits-requires g c = few_listed c.list.result.now c.args.self.now.edits.now c.list.ensures.list c.list.ensures.meant

pub returns-clause-placed : goal.returns-clause-placed
returns-clause-placed g c = λ k l.
    let size = length-map c.list.result.now edit_of in
    let same = ap (λ (es : List Edit). length es) c.list.ensures.list in
    c.unset_bits.ensures.below k (omega (arith, l, size, same))

pub returns-clause-few : goal.returns-clause-few
returns-clause-few g c = λ k l.
    let size = length-map c.list.result.now edit_of in
    let same = ap (λ (es : List Edit). length es) c.list.ensures.list in
    c.unset_bits.ensures.above k (omega (arith, l, size, same))
