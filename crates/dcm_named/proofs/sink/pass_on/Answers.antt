use Rattle.std.proofs.Common.{sym}
use Rattle.std.specs.Prelude.{fold}
use Rattle.dcm_devices.specs.declared.device.WriteFailed.{WriteFailed}
use Rattle.dcm_stream.specs.Tokens.{atoms_of}
use Rattle.dcm_named.specs.Filter.{next}
use Rattle.dcm_named.specs.Naming as naming
use Rattle.dcm_named.proofs.Filtering.{token_over, token_none, over_goes}
use Rattle.dcm_named.proofs.sink.pass_on.Goals as goal

pub returns : goal.returns
returns g c =
    let s = g.S.LineSink in
    let p = naming.place c.args.filter.now in
    let old = s.state c.args.lines.now in
    let atoms = atoms_of c.args.token in
    let shut = sym c.if-shows.ensures in
    record {
      goes = over_goes s.step s.over s.writes WriteFailed p (naming.place c.go_on.new.self) old (s.state c.pass_over.new.self) (s.contents c.args.lines.now) (s.contents c.pass_over.new.self) atoms (fold next p atoms) (tt {0})
          (token_over s.step s.over s.writes p old c.args.token shut) (token_none s.step s.over s.writes p old c.args.token shut)
          c.go_on.ensures c.pass_over.ensures.state c.pass_over.ensures.contents;
      failed = c.pass_over.ensures.failed;
      kept = c.pass_over.ensures.kept;
    }
