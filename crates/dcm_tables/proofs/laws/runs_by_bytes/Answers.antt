use Rattle.dcm_tables.proofs.OverStd as over_std
use Rattle.dcm_tables.proofs.laws.runs_by_bytes.Goals as goal

pub returns : goal.returns
returns g c = record {
  given = over_std.given_passed g.row.T.Denot g.T.Read.remaining;
  runs = over_std.runs_by_bytes g.row.T.Denot g.row.U.Denot g.T.Read.remaining;
}
