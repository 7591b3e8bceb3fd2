use Rattle.std.proofs.Common.{Some}
use Rattle.dcm_deid.specs.DeidentifySink as spec
use Rattle.dcm_deid.specs.Deidentifying as deidentifying
use Rattle.dcm_deid.proofs.Taking.{on, failed}
use Rattle.dcm_deid.proofs.sink.pass_as.Goals as goal

pub returns-in_err-put_gap : goal.returns-in_err-put_gap
returns-in_err-put_gap g c =
    let h = c.args.head in
    failed g.S.Sink c.args.sink.now c.put_gap.new.sink (spec.said_before c.args.options.now (deidentifying.place c.args.place.now) (Some h.tag))
    (spec.head_by c.args.fate c.args.form h.tag h.vr h.length c.args.syntax) c.from_residual.result c.from_residual.ensures.0 c.in_err-put_gap.ensures

pub returns : goal.returns
returns g c =
    let h = c.args.head in
    on g.S.Sink c.args.sink.now c.put_gap.new.sink c.put_head.new.sink (spec.said_before c.args.options.now (deidentifying.place c.args.place.now) (Some h.tag))
    (spec.head_by c.args.fate c.args.form h.tag h.vr h.length c.args.syntax) c.in_ok-put_gap.ensures c.put_head.ensures
