use Rattle.std.proofs.Common.{[], ◌∷◌, None}
use Rattle.dcm_base.specs.Steps.Atoms.{ends}
use Rattle.dcm_deid.specs.DeidentifySink as spec
use Rattle.dcm_deid.specs.Deidentifying as deidentifying
use Rattle.dcm_deid.proofs.Taking.{token, on, failed}
use Rattle.dcm_deid.proofs.sink.put_open_end.Goals as goal

pub returns-in_err-put_gap : goal.returns-in_err-put_gap
returns-in_err-put_gap g c =
    failed g.S.Sink c.args.sink.now c.put_gap.new.sink (spec.said_before c.args.options.now (deidentifying.place c.args.place.now) None) (ends ∷ []) c.from_residual.result c.from_residual.ensures.0 c.in_err-put_gap.ensures

pub returns : goal.returns
returns g c =
    on g.S.Sink c.args.sink.now c.put_gap.new.sink c.take.new.self (spec.said_before c.args.options.now (deidentifying.place c.args.place.now) None) (ends ∷ []) c.in_ok-put_gap.ensures
    (token g.S.Sink c.put_gap.new.sink c.take.new.self (ends ∷ []) c.take.result c.take.ensures.state c.take.ensures.bytes c.take.ensures.failed c.take.ensures.kept)
