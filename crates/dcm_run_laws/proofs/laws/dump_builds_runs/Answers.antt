use Rattle.dcm_run_laws.proofs.ReadBack.DumpBuilds.{dump_builds}
use Rattle.dcm_run_laws.proofs.laws.dump_builds_runs.Goals as goal

pub returns : goal.returns
returns c = dump_builds
