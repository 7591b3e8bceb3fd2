use Rattle.std.proofs.Common.{◌∙◌, ap, sym, fold}
use Rattle.dcm_stream.specs.Tokens.{atoms_of}
use Rattle.dcm_stream.specs.declared.token.Token.{Token}
use Rattle.dcm_sinks.specs.SettingValue.{force_step}
use Rattle.dcm_sinks.proofs.DecodedDumps.Forces.{adds}
use Rattle.dcm_sinks.proofs.dump.in_force.InForce.take.Goals as goal

pub returns-in-Bytes : goal.returns-in-Bytes
returns-in-Bytes c =
    let f = c.args.self.now in
    c.add.ensures ∙ adds f c.in-Bytes.bytes.now ∙ ap (λ (t : Token). fold force_step f (atoms_of t)) (sym c.in-Bytes.is)
