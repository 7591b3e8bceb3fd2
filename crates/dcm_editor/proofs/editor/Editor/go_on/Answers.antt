use Rattle.std.proofs.Common.{◌∙◌, sym, ap, fold}
use Rattle.dcm_editor.specs.EditSink.{next}
use Rattle.dcm_editor.specs.Editing.{meant}
use Rattle.dcm_stream.specs.Tokens.{atoms_of}
use Rattle.dcm_stream.specs.declared.token.Token.{Token}
use Rattle.dcm_editor.proofs.Masks.Answering.{bytes_stay}
use Rattle.dcm_editor.proofs.editor.Editor.go_on.Goals as goal

pub returns-in-Open : goal.returns-in-Open
returns-in-Open g c =
    let after = λ (t : Token). fold next (meant c.args.edits.now c.args.self.now) (atoms_of t) in
    c.open.ensures c.in-Open.head.vr c.in-Open.head.length c.in-Open.field-1 ∙ ap after (sym c.in-Open.is)

pub returns-in-Bytes : goal.returns-in-Bytes
returns-in-Bytes g c =
    let after = λ (t : Token). fold next (meant c.args.edits.now c.args.self.now) (atoms_of t) in
    bytes_stay (meant c.args.edits.now c.args.self.now) c.in-Bytes.field-0.now ∙ ap after (sym c.in-Bytes.is)

pub returns-in-OpenItem : goal.returns-in-OpenItem
returns-in-OpenItem g c =
    let after = λ (t : Token). fold next (meant c.args.edits.now c.args.self.now) (atoms_of t) in
    c.open_item.ensures c.in-OpenItem.field-0 ∙ ap after (sym c.in-OpenItem.is)
