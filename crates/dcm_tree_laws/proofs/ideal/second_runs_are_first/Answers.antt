use Rattle.dcm_cli.proofs.Passes.Readers.{members, writer}
use Rattle.dcm_tree_laws.proofs.IdealRun.RanBy.{second_run_is_first}
use Rattle.dcm_tree_laws.proofs.ideal.second_runs_are_first.Goals as goal

pub returns : goal.returns
returns g c = record {
  run = λ h first second before mid after visits headed left reheaded releft name_of is_spoken outputs tells is asked leaves one other.
      second_run_is_first (members g.I.Device g.I.DeviceIn) (writer g.O.Device g.O.DeviceOut) (writer g.W.Device g.W.DeviceOut) (writer g.E.Device g.E.DeviceOut) h first second before mid after visits headed left reheaded releft name_of is_spoken outputs tells is asked leaves one other;
}
