use Rattle.std.proofs.Common.{Some}
use Rattle.dcm_stream.specs.Tokens.{leaf_atoms}
use Rattle.dcm_deid.specs.DeidentifySink as spec
use Rattle.dcm_deid.specs.Deidentifying as deidentifying
use Rattle.dcm_deid.proofs.Taking.{on, failed}
use Rattle.dcm_deid.proofs.whole.put_in_place.Goals as goal

pub returns-in_err-put_gap-clause-took : goal.returns-in_err-put_gap-clause-took
returns-in_err-put_gap-clause-took g c =
    let a = c.args in
    let said = spec.said_before a.options.now (deidentifying.place a.place.now) (Some a.head.tag) in
    failed g.S.Sink a.sink.now c.put_gap.new.sink said (leaf_atoms a.head.tag a.head.vr a.new.now) c.from_residual.result c.from_residual.ensures.0 c.in_err-put_gap.ensures

pub returns-clause-took : goal.returns-clause-took
returns-clause-took g c =
    let a = c.args in
    let said = spec.said_before a.options.now (deidentifying.place a.place.now) (Some a.head.tag) in
    on g.S.Sink a.sink.now c.put_gap.new.sink c.put_leaf.new.sink said (leaf_atoms a.head.tag a.head.vr a.new.now) c.in_ok-put_gap.ensures c.put_leaf.ensures
