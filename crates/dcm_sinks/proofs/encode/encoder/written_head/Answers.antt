use Rattle.std.proofs.Common.{◌≡◌, ◌∙◌, ap, subst, false}
use Rattle.dcm_base.specs.declared.vr.Vr.{Vr}
use Rattle.dcm_base.specs.Conversion.Recode.{head}
use Rattle.dcm_base.specs.Tables.Representation.{is_long}
use Rattle.dcm_sinks.proofs.Conversions.EvenLengths.{head_evened, fits_short}
use Rattle.dcm_sinks.proofs.encode.encoder.written_head.Goals as goal

pub returns-clause-fits : goal.returns-clause-fits
returns-clause-fits c =
    λ explicit short. fits_short c.args.target c.args.vr c.args.size c.even-length.result c.even-length.ensures.exact explicit (subst (λ (v : Vr). is_long v ≡ false) c.written_vr-vr.ensures short)

pub returns-clause-bytes : goal.returns-clause-bytes
returns-clause-bytes c =
    ap (λ (v : Vr). head c.args.target c.args.tag v c.even-length.result) c.written_vr-vr.ensures
    ∙ head_evened c.args.target c.args.tag c.args.vr c.args.size c.even-length.result c.even-length.ensures.bytes c.even-length.ensures.exact
