use Rattle.std.proofs.Common.{ap}
use Rattle.dcm_named.proofs.sink.NamedSink.show_whole.Goals as goal

pub returns : goal.returns
returns g c =
    let e = c.pass_whole.ensures in
    record { takes = e.goes; failed = e.failed; kept = ap (λ k. (c.args.self.now.lines.ghost_name, k)) e.kept }
