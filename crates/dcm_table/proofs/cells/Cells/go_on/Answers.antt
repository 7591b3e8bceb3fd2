use Rattle.std.proofs.Common.{◌∙◌, sym, ap, fold}
use Rattle.dcm_stream.specs.Tokens.{atoms_of}
use Rattle.dcm_stream.specs.declared.token.Token.{Token}
use Rattle.dcm_table.specs.TableSink as spec
use Rattle.dcm_table.specs.TableSink.{State}
use Rattle.dcm_table.proofs.EachSlot.{bytes_taken}
use Rattle.dcm_table.proofs.cells.Cells.go_on.Goals as goal

pub returns-in-Bytes : goal.returns-in-Bytes
returns-in-Bytes c =
    let s : State = c.args.self.now in
    c.add.ensures ∙ sym (bytes_taken s c.in-Bytes.bytes.now) ∙ ap (λ (t : Token). fold spec.next s (atoms_of t)) (sym c.in-Bytes.is)
