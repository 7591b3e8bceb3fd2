use Rattle.std.proofs.Common.{rules, List, [], ◌∷◌, sym, subst, true, false}
use Rattle.dcm_base.specs.Steps.Atoms.{Atom, opens_item}
use Rattle.dcm_stream.specs.Sinks.{Takes}
use Rattle.dcm_editor.proofs.EditSinks.Passing.{item_passed, takes_nothing}
use Rattle.dcm_editor.proofs.EditSinks.Taken.{token_taken}
use Rattle.dcm_editor.proofs.sink.pass_item.Goals as goal

pub returns-then-erases_next : goal.returns-then-erases_next
returns-then-erases_next g c = record { takes = takes_nothing g.S.Sink c.args.sink.now _ (item_passed c.args.edits.now c.args.editor.now c.args.declared true c.requires.kept c.if-erases_next.ensures); failed = search rules; kept = search rules }

pub returns : goal.returns
returns g c =
    record {
      takes = subst (λ (xs : List Atom). Takes g.S.Sink c.args.sink.now c.take.new.self xs c.take.result) (sym (item_passed c.args.edits.now c.args.editor.now c.args.declared false c.requires.kept c.if-erases_next.ensures))
          (token_taken g.S.Sink c.args.sink.now c.take.new.self (opens_item c.args.declared ∷ []) c.take.result c.take.ensures.state c.take.ensures.bytes);
      failed = search rules;
      kept = search rules;
    }
