use Rattle.std.proofs.Common.{sym, subst}
use Rattle.dcm_deid.specs.declared.fate.Fate.{Fate}
use Rattle.dcm_deid.specs.Deidentifying.{whole_by}
use Rattle.dcm_deid.proofs.Noted.{whole_taken}
use Rattle.dcm_stream.specs.Sinks as sinks
use Rattle.dcm_deid.proofs.whole.put_whole.Goals as goal

pub returns-in-Keep-clause-took : goal.returns-in-Keep-clause-took
returns-in-Keep-clause-took g c =
    let a = c.args in
    let new = c.take_whole_telling.new.self in
    let told = c.take_whole_telling.ensures in
    subst (λ (f : Fate). sinks.Took g.S.Sink a.sink.now new (whole_by f a.head a.syntax a.value.now) c.take_whole_telling.result) (sym c.in-Keep.is)
    (whole_taken g.S.Sink a.sink.now new a.head a.syntax a.value.now c.take_whole_telling.result told.state told.bytes told.failed told.kept)
