use Rattle.dcm_cli.proofs.Passes.Readers.{members, writer}
use Rattle.dcm_tree_laws.proofs.LinesBy.{lines_are_visited}
use Rattle.dcm_tree_laws.proofs.laws.lines_are_visited.Goals as goal

pub returns : goal.returns
returns g c = record {
  list = λ h run list begun input headed from before status left to after read v stop has.
      lines_are_visited (members g.I.Device g.I.DeviceIn) (writer g.O.Device g.O.DeviceOut) (writer g.W.Device g.W.DeviceOut) (writer g.E.Device g.E.DeviceOut) h run list begun input headed from before status left to after read v stop has;
}
