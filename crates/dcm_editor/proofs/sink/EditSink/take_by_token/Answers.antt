use Rattle.std.proofs.Common.{◌≡◌, ◌∙◌, sym, subst, [], ◌∷◌, ℕ, List, length, map, Ok, Err}
use Rattle.std.proofs.lemmas.Bool.{eqb-true}
use Rattle.std.proofs.lemmas.List.{nil_from_length}
use Rattle.dcm_base.specs.Steps.Atoms.{Atom, opens, value_byte, closes_leaf}
use Rattle.dcm_stream.proofs.Runs.Taking.{took_token, took_nothing}
use Rattle.dcm_editor.specs.contracts.sink.EditSinkSink.TheImpl.{ghosts}
use Rattle.dcm_editor.proofs.EditSinks.ByToken.{TookAs, value_failed, all_taken}
use Rattle.dcm_editor.proofs.sink.EditSink.take_by_token.Goals as goal
use Rattle.dcm_editor.proofs.sink.EditSink.take_by_token.Goals.{then-not-is_empty+in_ok-take, else-not-is_empty}

pub returns-in_err-take : goal.returns-in_err-take
returns-in_err-take g c =
    let sink = ghosts g.row.S g.row.A g.S.Sink g.S.Sink-dict g.A.Allocator g.A.Allocator-dict g.A.Destruct-dict in
    let head : Atom = opens c.args.head.tag c.args.head.vr c.args.head.length c.args.syntax in
    let value = map value_byte c.args.value.now in
    let mid = c.take_edited.new.self in
    let new = c.take.new.self in
    value_failed sink c.args.self.now mid new head value closes_leaf c.from_residual-in_err-take.result
    c.in_ok-take_edited.ensures
    c.from_residual-in_err-take.ensures.0
    (took_token sink mid new value (Err c.in_err-take.field-0.0) c.in_err-take.ensures.state c.in_err-take.ensures.bytes c.in_err-take.ensures.failed c.in_err-take.ensures.kept)

pub returns : goal.returns
returns g c =
    let sink = ghosts g.row.S g.row.A g.S.Sink g.S.Sink-dict g.A.Allocator g.A.Allocator-dict g.A.Destruct-dict in
    let head : Atom = opens c.args.head.tag c.args.head.vr c.args.head.length c.args.syntax in
    let value = map value_byte c.args.value.now in
    let mid = c.take_edited.new.self in
    let near = c.if-not-is_empty.self in
    let held : TookAs sink mid near value (Ok tt) = elim c.if-not-is_empty.branch [
      | then-not-is_empty+in_ok-take w ↦
          subst (λ s. TookAs sink mid s value (Ok tt)) (sym w.self-is)
          (took_token sink mid w.take.new.self value (Ok tt) w.in_ok-take.ensures.state w.in_ok-take.ensures.bytes w.in_ok-take.ensures.failed w.in_ok-take.ensures.kept)
      | else-not-is_empty w ↦
          let empty : c.args.value.now ≡ [] = nil_from_length c.args.value.now (eqb-true (length c.args.value.now) 0 (sym c.is_empty.ensures ∙ w.if-not-is_empty.false)) in
          subst (λ (v : List ℕ). TookAs sink mid near (map value_byte v) (Ok tt)) (sym empty)
          (subst (λ s. TookAs sink mid s [] (Ok tt)) (sym w.self-is) (took_nothing sink mid tt))
    ] in
    all_taken sink c.args.self.now mid near c.take-2.new.self head value closes_leaf c.take-2.result
    c.in_ok-take_edited.ensures held
    (took_token sink near c.take-2.new.self (closes_leaf ∷ []) c.take-2.result c.take-2.ensures.state c.take-2.ensures.bytes c.take-2.ensures.failed c.take-2.ensures.kept)
