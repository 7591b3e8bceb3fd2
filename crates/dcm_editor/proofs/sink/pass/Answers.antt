use Rattle.std.proofs.Common.{rules, ◌≡◌, ◌⊎◌, inl, inr, List, ◌∙◌, ap, append-nil, sym, subst}
use Rattle.dcm_base.specs.Steps.Atoms.{Atom, opens_item}
use Rattle.dcm_stream.specs.Sinks.{Takes}
use Rattle.dcm_stream.specs.Tokens.{atoms_of}
use Rattle.dcm_stream.specs.declared.token.Token.{Token}
use Rattle.dcm_stream.specs.declared.token.Token.TheVariants.{CloseItem, End}
use Rattle.dcm_stream.proofs.Runs.Skipped.{some_open, none_open}
use Rattle.dcm_editor.specs.EditSink.{passed}
use Rattle.dcm_editor.specs.Editing.{meant, passed_of, head_of, IsEnd}
use Rattle.dcm_editor.proofs.EditSinks.Passing.{nothing_passed, takes_nothing, as_they_are}
use Rattle.dcm_editor.proofs.EditSinks.Taken.{token_taken}
use Rattle.dcm_editor.proofs.sink.pass.Goals as goal

is_end : (t : Token) → (t ≡ CloseItem) ⊎ (t ≡ End) → IsEnd (atoms_of t)
is_end t (inl e) = inl (ap atoms_of e)
is_end t (inr e) = inr (ap atoms_of e)

pub pass_element-requires-clause-kept : goal.pass_element-requires-clause-kept
pass_element-requires-clause-kept g c = none_open _ c.if-is_open.ensures

pub pass_item-requires-clause-kept : goal.pass_item-requires-clause-kept
pass_item-requires-clause-kept g c = none_open _ c.if-is_open.ensures

pub pass_end-requires-clause-kept : goal.pass_end-requires-clause-kept
pass_end-requires-clause-kept g c = none_open _ c.if-is_open.ensures

pub pass_end-requires-clause-end : goal.pass_end-requires-clause-end
pass_end-requires-clause-end g c = is_end c.args.token c.in-CloseItem.is

pub returns-then-is_open : goal.returns-then-is_open
returns-then-is_open g c = record { takes = takes_nothing g.S.Sink c.args.sink.now _ (nothing_passed (meant c.args.edits.now c.args.editor.now) c.args.token (some_open _ c.if-is_open.ensures)); failed = search rules; kept = search rules }

pub returns-in-Bytes : goal.returns-in-Bytes
returns-in-Bytes g c =
    let none = none_open _ c.if-is_open.ensures in
    record {
      takes = subst (λ (xs : List Atom). Takes g.S.Sink c.args.sink.now c.take.new.self xs c.take.result) (sym (as_they_are (meant c.args.edits.now c.args.editor.now) c.args.token none c.in-Bytes.is))
          (token_taken g.S.Sink c.args.sink.now c.take.new.self (atoms_of c.args.token) c.take.result c.take.ensures.state c.take.ensures.bytes);
      failed = search rules;
      kept = search rules;
    }

pub returns-in-Open : goal.returns-in-Open
returns-in-Open g c =
    let of = passed_of c.args.edits.now c.args.editor.now in
    let h = passed (meant c.args.edits.now c.args.editor.now) (head_of c.in-Open.head c.in-Open.syntax) in
    record { takes = subst (λ (xs : List Atom). Takes g.S.Sink c.args.sink.now c.pass_element.new.sink xs c.pass_element.result) (sym (ap (λ (t : Token). of (atoms_of t)) c.in-Open.is ∙ append-nil h)) c.pass_element.ensures.takes; failed = c.pass_element.ensures.failed; kept = c.pass_element.ensures.kept }

pub returns-in-OpenItem : goal.returns-in-OpenItem
returns-in-OpenItem g c =
    let of = passed_of c.args.edits.now c.args.editor.now in
    let h = passed (meant c.args.edits.now c.args.editor.now) (opens_item c.in-OpenItem.length) in
    record { takes = subst (λ (xs : List Atom). Takes g.S.Sink c.args.sink.now c.pass_item.new.sink xs c.pass_item.result) (sym (ap (λ (t : Token). of (atoms_of t)) c.in-OpenItem.is ∙ append-nil h)) c.pass_item.ensures.takes; failed = c.pass_item.ensures.failed; kept = c.pass_item.ensures.kept }

pub returns-in-CloseItem : goal.returns-in-CloseItem
returns-in-CloseItem g c = record { takes = c.pass_end.ensures.takes; failed = c.pass_end.ensures.failed; kept = c.pass_end.ensures.kept }
