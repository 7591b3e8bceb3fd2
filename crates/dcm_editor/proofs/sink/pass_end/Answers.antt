use Rattle.std.proofs.Common.{rules, List, [], None, subst}
use Rattle.dcm_base.specs.Steps.Atoms.{Atom, trees_then}
use Rattle.dcm_base.specs.Tables.Syntax.{Little}
use Rattle.dcm_stream.specs.Sinks.{Takes}
use Rattle.dcm_stream.specs.Tokens.{atoms_of}
use Rattle.dcm_editor.specs.Editing as editing
use Rattle.dcm_editor.proofs.EditSinks.Passing.{end_passed}
use Rattle.dcm_editor.proofs.EditSinks.Taken.{failed_taken, then_taken, token_taken}
use Rattle.dcm_editor.proofs.sink.pass_end.Goals as goal

pub returns-in_err-put_gap : goal.returns-in_err-put_gap
returns-in_err-put_gap g c =
    let new : List Atom = trees_then Little (editing.missing c.args.edits.now c.args.editor.now None) [] in
    record {
      takes = subst (λ (xs : List Atom). Takes g.S.Sink c.args.sink.now c.put_gap.new.sink xs c.from_residual.result) (end_passed c.args.edits.now c.args.editor.now (atoms_of c.args.end) c.requires.kept c.requires.end)
          (failed_taken g.S.Sink c.args.sink.now c.put_gap.new.sink new (atoms_of c.args.end) c.from_residual.result c.from_residual.ensures.0 c.in_err-put_gap.ensures.takes);
      failed = search rules;
      kept = search rules;
    }

pub returns : goal.returns
returns g c =
    let new : List Atom = trees_then Little (editing.missing c.args.edits.now c.args.editor.now None) [] in
    record {
      takes = subst (λ (xs : List Atom). Takes g.S.Sink c.args.sink.now c.take.new.self xs c.take.result) (end_passed c.args.edits.now c.args.editor.now (atoms_of c.args.end) c.requires.kept c.requires.end)
          (then_taken g.S.Sink c.args.sink.now c.put_gap.new.sink c.take.new.self new (atoms_of c.args.end) c.take.result c.in_ok-put_gap.ensures.takes
          (token_taken g.S.Sink c.put_gap.new.sink c.take.new.self (atoms_of c.args.end) c.take.result c.take.ensures.state c.take.ensures.bytes));
      failed = search rules;
      kept = search rules;
    }
