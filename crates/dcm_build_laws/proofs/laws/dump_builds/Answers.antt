use Rattle.dcm_build_laws.proofs.Rebuilds.DumpBuilds.{dump_builds}
use Rattle.dcm_build_laws.proofs.Rebuilds.FilesBuild.{file_builds}
use Rattle.dcm_build_laws.proofs.laws.dump_builds.Goals as goal

pub returns-clause-file : goal.returns-clause-file
returns-clause-file c = file_builds

pub returns-clause-trees : goal.returns-clause-trees
returns-clause-trees c = dump_builds
