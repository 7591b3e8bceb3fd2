use Rattle.std.proofs.Common.{◌≡◌, ◌∙◌, sym, subst, fold}
use Rattle.dcm_stream.specs.Tokens.{atoms_of}
use Rattle.dcm_instance.specs.UidSink as spec
use Rattle.dcm_instance.proofs.Steps.{bytes_step}
use Rattle.dcm_instance.proofs.sink.UidSink.step.Goals as goal

pub returns-in-Bytes : goal.returns-in-Bytes
returns-in-Bytes c =
    subst (λ t. c.add.new.self ≡ fold spec.step c.args.self.now (atoms_of t)) (sym c.in-Bytes.is)
    (c.add.ensures ∙ sym (bytes_step c.in-Bytes.bytes.now c.args.self.now))
