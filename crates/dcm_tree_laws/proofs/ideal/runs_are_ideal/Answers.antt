use Rattle.dcm_cli.proofs.Passes.Readers.{members, writer}
use Rattle.dcm_tree_laws.proofs.IdealRun.Over.{run_is_ideal}
use Rattle.dcm_tree_laws.proofs.ideal.runs_are_ideal.Goals as goal

pub returns : goal.returns
returns g c = record {
  run = λ h run before visits headed left after name_of is_spoken outputs tells follows ran named speaks apart shows.
      run_is_ideal (members g.I.Device g.I.DeviceIn) (writer g.O.Device g.O.DeviceOut) (writer g.W.Device g.W.DeviceOut) (writer g.E.Device g.E.DeviceOut) h run before visits headed left after name_of is_spoken outputs tells follows ran named speaks apart shows;
}
