use Rattle.dcm_cli.proofs.Passes.Readers.{members, writer}
use Rattle.dcm_tree_laws.proofs.IdealRun.RanBy.{no_name_shows}
use Rattle.dcm_tree_laws.proofs.ideal.no_name_shows.Goals as goal

pub returns : goal.returns
returns g c = record {
  run = λ h first second before start after end visits others headed left reheaded releft name_of other_of is_spoken outputs tells output continues asked asked_too comes one other.
      no_name_shows (members g.I.Device g.I.DeviceIn) (writer g.O.Device g.O.DeviceOut) (writer g.W.Device g.W.DeviceOut) (writer g.E.Device g.E.DeviceOut) h first second before start after end visits others headed left reheaded releft name_of other_of is_spoken outputs tells output continues asked asked_too comes one other;
}
