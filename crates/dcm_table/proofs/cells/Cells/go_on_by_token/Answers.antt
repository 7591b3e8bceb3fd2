use Rattle.std.proofs.Common.{◌∙◌, sym, ap, fold, map, [], ◌∷◌}
use Rattle.std.proofs.lemmas.List.Sums.{fold-append}
use Rattle.dcm_base.specs.Steps.Atoms.{opens, value_byte, closes_leaf}
use Rattle.dcm_table.specs.TableSink as spec
use Rattle.dcm_table.specs.TableSink.{State}
use Rattle.dcm_table.proofs.cells.Cells.go_on_by_token.Goals as goal

pub returns : goal.returns
returns c =
    let head = opens c.args.head.tag c.args.head.vr c.args.head.length c.args.syntax in
    let value = map value_byte c.args.value.now in
    c.go_on-3.ensures
    ∙ ap (λ (s : State). spec.next s closes_leaf) (c.go_on-2.ensures ∙ ap (λ (s : State). fold spec.next s value) c.go_on.ensures)
    ∙ sym (fold-append spec.next (spec.next c.args.self.now head) value (closes_leaf ∷ []))
