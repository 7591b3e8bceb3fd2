use Rattle.std.proofs.Common.{rules, List, Ok, refl, sym, ◌∙◌, ap, subst}
use Rattle.std.specs.Prelude.{fold}
use Rattle.dcm_base.specs.Steps.Atoms.{Atom}
use Rattle.dcm_stream.specs.Sinks.{Takes}
use Rattle.dcm_stream.specs.Tokens.{atoms_of}
use Rattle.dcm_stream.specs.declared.token.Token.{Token}
use Rattle.dcm_base.specs.Steps.Steps.{outputs}
use Rattle.dcm_editor.specs.EditSink.{next, passed}
use Rattle.dcm_editor.specs.Editing.{meant, state}
use Rattle.dcm_stream.proofs.Runs.Skipped.{none_open}
use Rattle.dcm_editor.proofs.EditSinks.Passing.{as_they_are, nothing_changes}
use Rattle.dcm_editor.proofs.EditSinks.Taken.{token_taken, all_failed}
use Rattle.dcm_editor.proofs.EditSinks.Unmet.{left_state, left_token}
use Rattle.dcm_editor.proofs.EditSinks.Free.{item_state, item_atoms, end_state, end_atoms}
use Rattle.dcm_editor.proofs.sink.pass_on.Goals as goal

pub returns-in_err-take-in-Open-clause-took : goal.returns-in_err-take-in-Open-clause-took
returns-in_err-take-in-Open-clause-took g c =
    let h = c.in-Open.head in
    record {
      takes = subst (λ (xs : List Atom). Takes g.S.Sink c.args.sink.now c.take.new.self xs c.from_residual.result) (left_token c.args.edits.now c.args.editor.now h.tag c.if-leaves.ensures c.args.token h c.in-Open.field-1 refl c.in-Open.is)
          (all_failed g.S.Sink c.args.sink.now c.take.new.self (atoms_of c.args.token) c.from_residual.result c.from_residual.ensures.0 c.in_err-take-in-Open.ensures.bytes);
      failed = search rules;
      kept = search rules;
    }

pub returns-in_ok-take-in-Open-clause-took : goal.returns-in_ok-take-in-Open-clause-took
returns-in_ok-take-in-Open-clause-took g c =
    let h = c.in-Open.head in
    record {
      takes = subst (λ (xs : List Atom). Takes {T = Unit {0}} {E = Unit {0}} g.S.Sink c.args.sink.now c.take.new.self xs (Ok tt)) (left_token c.args.edits.now c.args.editor.now h.tag c.if-leaves.ensures c.args.token h c.in-Open.field-1 refl c.in-Open.is)
          (token_taken g.S.Sink {T = Unit {0}} {E = Unit {0}} c.args.sink.now c.take.new.self (atoms_of c.args.token) (Ok tt) c.in_ok-take-in-Open.ensures.state c.in_ok-take-in-Open.ensures.bytes);
      failed = search rules;
      kept = search rules;
    }

pub returns-in_ok-take-in-Open-clause-state : goal.returns-in_ok-take-in-Open-clause-state
returns-in_ok-take-in-Open-clause-state g c =
    let h = c.in-Open.head in
    left_state c.args.edits.now c.args.editor.now h.tag c.if-leaves.ensures (state c.pass_by.new.self) h.vr h.length c.in-Open.field-1 c.pass_by.ensures
    ∙ ap (λ (t : Token). fold next (meant c.args.edits.now c.args.editor.now) (atoms_of t)) (sym c.in-Open.is)

pub returns-in_err-take-in-Bytes-clause-took : goal.returns-in_err-take-in-Bytes-clause-took
returns-in_err-take-in-Bytes-clause-took g c =
    let s = meant c.args.edits.now c.args.editor.now in
    let same = as_they_are s c.args.token (none_open _ c.if-not-is_open.ensures) c.in-Bytes.is in
    record {
      takes = subst (λ (xs : List Atom). Takes g.S.Sink c.args.sink.now c.take-in-Bytes.new.self xs c.from_residual-in_err-take-in-Bytes.result) (sym same)
          (all_failed g.S.Sink c.args.sink.now c.take-in-Bytes.new.self (atoms_of c.args.token) c.from_residual-in_err-take-in-Bytes.result c.from_residual-in_err-take-in-Bytes.ensures.0 c.in_err-take-in-Bytes.ensures.bytes);
      failed = search rules;
      kept = search rules;
    }

pub returns-in_ok-take-in-Bytes-clause-took : goal.returns-in_ok-take-in-Bytes-clause-took
returns-in_ok-take-in-Bytes-clause-took g c =
    let s = meant c.args.edits.now c.args.editor.now in
    let same = as_they_are s c.args.token (none_open _ c.if-not-is_open.ensures) c.in-Bytes.is in
    record {
      takes = subst (λ (xs : List Atom). Takes {T = Unit {0}} {E = Unit {0}} g.S.Sink c.args.sink.now c.take-in-Bytes.new.self xs (Ok tt)) (sym same)
          (token_taken g.S.Sink {T = Unit {0}} {E = Unit {0}} c.args.sink.now c.take-in-Bytes.new.self (atoms_of c.args.token) (Ok tt) c.in_ok-take-in-Bytes.ensures.state c.in_ok-take-in-Bytes.ensures.bytes);
      failed = search rules;
      kept = search rules;
    }

pub returns-in_ok-take-in-Bytes-clause-state : goal.returns-in_ok-take-in-Bytes-clause-state
returns-in_ok-take-in-Bytes-clause-state g c = nothing_changes (meant c.args.edits.now c.args.editor.now) c.args.token (none_open _ c.if-not-is_open.ensures) c.in-Bytes.is

pub returns-in_err-take-in-OpenItem-clause-took : goal.returns-in_err-take-in-OpenItem-clause-took
returns-in_err-take-in-OpenItem-clause-took g c =
    let same = item_atoms c.args.edits.now c.args.editor.now c.args.index.now c.requires.index c.requires.everywhere c.if-passes_item.ensures c.in-OpenItem.field-0 ∙ ap (λ (t : Token). outputs next passed (meant c.args.edits.now c.args.editor.now) (atoms_of t)) (sym c.in-OpenItem.is) in
    let is = ap atoms_of c.in-OpenItem.is ∙ same in
    record {
      takes = subst (λ (xs : List Atom). Takes g.S.Sink c.args.sink.now c.take-in-OpenItem.new.self xs c.from_residual-in_err-take-in-OpenItem.result) is
          (all_failed g.S.Sink c.args.sink.now c.take-in-OpenItem.new.self (atoms_of c.args.token) c.from_residual-in_err-take-in-OpenItem.result c.from_residual-in_err-take-in-OpenItem.ensures.0 c.in_err-take-in-OpenItem.ensures.bytes);
      failed = search rules;
      kept = search rules;
    }

pub returns-in_ok-take-in-OpenItem-clause-took : goal.returns-in_ok-take-in-OpenItem-clause-took
returns-in_ok-take-in-OpenItem-clause-took g c =
    let same = item_atoms c.args.edits.now c.args.editor.now c.args.index.now c.requires.index c.requires.everywhere c.if-passes_item.ensures c.in-OpenItem.field-0 ∙ ap (λ (t : Token). outputs next passed (meant c.args.edits.now c.args.editor.now) (atoms_of t)) (sym c.in-OpenItem.is) in
    let is = ap atoms_of c.in-OpenItem.is ∙ same in
    record {
      takes = subst (λ (xs : List Atom). Takes {T = Unit {0}} {E = Unit {0}} g.S.Sink c.args.sink.now c.take-in-OpenItem.new.self xs (Ok tt)) is
          (token_taken g.S.Sink {T = Unit {0}} {E = Unit {0}} c.args.sink.now c.take-in-OpenItem.new.self (atoms_of c.args.token) (Ok tt) c.in_ok-take-in-OpenItem.ensures.state c.in_ok-take-in-OpenItem.ensures.bytes);
      failed = search rules;
      kept = search rules;
    }

pub returns-in_ok-take-in-OpenItem-clause-state : goal.returns-in_ok-take-in-OpenItem-clause-state
returns-in_ok-take-in-OpenItem-clause-state g c =
    item_state c.args.edits.now c.args.editor.now c.args.index.now c.requires.index c.requires.everywhere c.if-passes_item.ensures (state c.pass_item.new.self) c.everywhere.result c.in-OpenItem.field-0 c.pass_item.ensures c.everywhere.ensures
    ∙ ap (λ (t : Token). fold next (meant c.args.edits.now c.args.editor.now) (atoms_of t)) (sym c.in-OpenItem.is)

pub returns-in_err-take-in-CloseItem-clause-took : goal.returns-in_err-take-in-CloseItem-clause-took
returns-in_err-take-in-CloseItem-clause-took g c =
    let same = end_atoms c.args.edits.now c.args.editor.now c.args.index.now c.requires.index c.if-puts_nothing.ensures ∙ ap (λ (t : Token). outputs next passed (meant c.args.edits.now c.args.editor.now) (atoms_of t)) (sym c.in-CloseItem.is) in
    let is = ap atoms_of c.in-CloseItem.is ∙ same in
    record {
      takes = subst (λ (xs : List Atom). Takes g.S.Sink c.args.sink.now c.take-in-CloseItem.new.self xs c.from_residual-in_err-take-in-CloseItem.result) is
          (all_failed g.S.Sink c.args.sink.now c.take-in-CloseItem.new.self (atoms_of c.args.token) c.from_residual-in_err-take-in-CloseItem.result c.from_residual-in_err-take-in-CloseItem.ensures.0 c.in_err-take-in-CloseItem.ensures.bytes);
      failed = search rules;
      kept = search rules;
    }

pub returns-in_ok-take-in-CloseItem-clause-took : goal.returns-in_ok-take-in-CloseItem-clause-took
returns-in_ok-take-in-CloseItem-clause-took g c =
    let same = end_atoms c.args.edits.now c.args.editor.now c.args.index.now c.requires.index c.if-puts_nothing.ensures ∙ ap (λ (t : Token). outputs next passed (meant c.args.edits.now c.args.editor.now) (atoms_of t)) (sym c.in-CloseItem.is) in
    let is = ap atoms_of c.in-CloseItem.is ∙ same in
    record {
      takes = subst (λ (xs : List Atom). Takes {T = Unit {0}} {E = Unit {0}} g.S.Sink c.args.sink.now c.take-in-CloseItem.new.self xs (Ok tt)) is
          (token_taken g.S.Sink {T = Unit {0}} {E = Unit {0}} c.args.sink.now c.take-in-CloseItem.new.self (atoms_of c.args.token) (Ok tt) c.in_ok-take-in-CloseItem.ensures.state c.in_ok-take-in-CloseItem.ensures.bytes);
      failed = search rules;
      kept = search rules;
    }

pub returns-in_ok-take-in-CloseItem-clause-state : goal.returns-in_ok-take-in-CloseItem-clause-state
returns-in_ok-take-in-CloseItem-clause-state g c =
    end_state c.args.edits.now c.args.editor.now c.args.index.now c.requires.index c.if-puts_nothing.ensures (state c.leave_item.new.self) c.leave_item.ensures
    ∙ ap (λ (t : Token). fold next (meant c.args.edits.now c.args.editor.now) (atoms_of t)) (sym c.in-CloseItem.is)
