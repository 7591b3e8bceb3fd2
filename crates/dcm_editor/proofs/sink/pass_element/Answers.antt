use Rattle.std.proofs.Common.{rules, List, [], Some, subst}
use Rattle.dcm_base.specs.Steps.Atoms.{Atom, opens, trees_then}
use Rattle.dcm_base.specs.Tables.Syntax.{Little}
use Rattle.dcm_stream.specs.Sinks.{Takes}
use Rattle.dcm_editor.specs.EditSink.{head_by}
use Rattle.dcm_edits.specs.Edit.{Fate}
use Rattle.dcm_editor.specs.Editing as editing
use Rattle.dcm_editor.proofs.EditSinks.Passing.{head_passed}
use Rattle.dcm_editor.proofs.EditSinks.Taken.{failed_taken, then_taken}
use Rattle.dcm_editor.proofs.sink.pass_element.Goals as goal

pub returns-in_err-put_gap : goal.returns-in_err-put_gap
returns-in_err-put_gap g c =
    let h = c.args.head in
    let new : List Atom = trees_then Little (editing.missing c.args.edits.now c.args.editor.now (Some h.tag)) [] in
    let head : List Atom = head_by (editing.first_fate c.args.edits.now c.args.editor.now h.tag) h.tag (opens h.tag h.vr h.length c.args.syntax) in
    record {
      takes = subst (λ (xs : List Atom). Takes g.S.Sink c.args.sink.now c.put_gap.new.sink xs c.from_residual.result) (head_passed c.args.edits.now c.args.editor.now h.tag h.vr h.length c.args.syntax c.requires.kept)
          (failed_taken g.S.Sink c.args.sink.now c.put_gap.new.sink new head c.from_residual.result c.from_residual.ensures.0 c.in_err-put_gap.ensures.takes);
      failed = search rules;
      kept = search rules;
    }

pub returns : goal.returns
returns g c =
    let h = c.args.head in
    let new : List Atom = trees_then Little (editing.missing c.args.edits.now c.args.editor.now (Some h.tag)) [] in
    let head = λ (f : Fate). head_by f h.tag (opens h.tag h.vr h.length c.args.syntax) in
    record {
      takes = subst (λ (xs : List Atom). Takes g.S.Sink c.args.sink.now c.put_head.new.sink xs c.put_head.result) (head_passed c.args.edits.now c.args.editor.now h.tag h.vr h.length c.args.syntax c.requires.kept)
          (then_taken g.S.Sink c.args.sink.now c.put_gap.new.sink c.put_head.new.sink new (head (editing.first_fate c.args.edits.now c.args.editor.now h.tag)) c.put_head.result c.in_ok-put_gap.ensures.takes
          (subst (λ (f : Fate). Takes g.S.Sink c.put_gap.new.sink c.put_head.new.sink (head f) c.put_head.result) c.fate_of.ensures c.put_head.ensures.takes));
      failed = search rules;
      kept = search rules;
    }
