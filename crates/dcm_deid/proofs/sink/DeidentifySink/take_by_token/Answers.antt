use Rattle.dcm_stream.specs.Tokens.{whole_atoms}
use Rattle.dcm_deid.specs.contracts.sink.DeidentifySinkSink.TheImpl.{ghosts}
use Rattle.dcm_deid.proofs.Taking.{token}
use Rattle.dcm_deid.proofs.sink.DeidentifySink.take_by_token.Goals as goal

pub returns : goal.returns
returns g c =
    token (ghosts g.row.S g.S.Sink g.S.Sink-dict) c.args.self.now c.take_by_tokens.new.self (whole_atoms c.args.head c.args.syntax c.args.value.now) c.take_by_tokens.result
    c.take_by_tokens.ensures.state c.take_by_tokens.ensures.bytes c.take_by_tokens.ensures.failed c.take_by_tokens.ensures.kept
