use Rattle.dcm_stream.specs.Tokens.{whole_atoms}
use Rattle.dcm_stream.proofs.Runs.Taking.{took_token}
use Rattle.dcm_named.specs.contracts.sink.NamedSinkSink.TheImpl.{ghosts}
use Rattle.dcm_named.proofs.sink.NamedSink.take_by_token.Goals as goal

pub returns : goal.returns
returns g c =
    let e = c.take_by_tokens.ensures in
    took_token (ghosts g.row.S g.S.LineSink g.S.LineSink-dict) c.args.self.now c.take_by_tokens.new.self (whole_atoms c.args.head c.args.syntax c.args.value.now) c.take_by_tokens.result e.state e.bytes e.failed e.kept
