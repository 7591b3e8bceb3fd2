use Rattle.std.proofs.Common.{◌∙◌, sym, ap, fold}
use Rattle.dcm_stream.specs.Tokens.{atoms_of}
use Rattle.dcm_stream.specs.declared.token.Token.{Token}
use Rattle.dcm_deid.specs.DeidentifySink as spec
use Rattle.dcm_deid.specs.Deidentifying as deidentifying
use Rattle.dcm_deid.proofs.Passing.{at_place, bytes_next}
use Rattle.dcm_deid.proofs.deidentifier.Deidentifier.go_on.Goals as goal

pub returns-in-Bytes : goal.returns-in-Bytes
returns-in-Bytes c = λ key.
    let s = deidentifying.state c.args.options.now key c.args.self.now in
    ap (at_place c.args.options.now key) c.add.ensures
    ∙ sym (bytes_next s c.in-Bytes.bytes.now)
    ∙ ap (λ (t : Token). fold spec.next s (atoms_of t)) (sym c.in-Bytes.is)
