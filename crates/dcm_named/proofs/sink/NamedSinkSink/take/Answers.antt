use Rattle.dcm_stream.specs.Tokens.{atoms_of}
use Rattle.dcm_named.specs.NamedSink.{named_step, named_writes}
use Rattle.dcm_named.specs.Naming as naming
use Rattle.dcm_named.proofs.Filtering.{state_of, bytes_of}
use Rattle.dcm_named.proofs.sink.NamedSinkSink.take.Goals as goal

pub returns-clause-state : goal.returns-clause-state
returns-clause-state g c =
    let s = g.S.LineSink in
    let e = c.args.self.now in
    state_of (named_step s.step s.over) (named_writes s.writes) (naming.place e.filter, s.state e.lines.now) (naming.place c.pass_on.new.filter, s.state c.pass_on.new.lines) (s.contents e.lines.now) (s.contents c.pass_on.new.lines) (atoms_of c.args.token) c.pass_on.result c.pass_on.ensures.goes

pub returns-clause-bytes : goal.returns-clause-bytes
returns-clause-bytes g c =
    let s = g.S.LineSink in
    let e = c.args.self.now in
    bytes_of (named_step s.step s.over) (named_writes s.writes) (naming.place e.filter, s.state e.lines.now) (naming.place c.pass_on.new.filter, s.state c.pass_on.new.lines) (s.contents e.lines.now) (s.contents c.pass_on.new.lines) (atoms_of c.args.token) c.pass_on.result c.pass_on.ensures.goes
