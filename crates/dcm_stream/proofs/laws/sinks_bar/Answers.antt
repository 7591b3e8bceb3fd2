use Rattle.dcm_stream.proofs.Runs.Inputs.{bars_none, bars_fragments}
use Rattle.dcm_stream.proofs.laws.sinks_bar.Goals as goal

pub returns-clause-none : goal.returns-clause-none
returns-clause-none g c = bars_none g.S.Sink.bar g.S.Sink.step g.S.Sink.writes

pub returns-clause-fragments : goal.returns-clause-fragments
returns-clause-fragments g c = bars_fragments g.S.Sink.bar g.S.Sink.step g.S.Sink.writes
