use Rattle.dcm_cli.proofs.Passes.Readers.{members, writer}
use Rattle.dcm_tree_laws.proofs.IdealRun.RanBy.{shares_leave_one}
use Rattle.dcm_tree_laws.proofs.ideal.shares_leave_one.Goals as goal

pub returns : goal.returns
returns g c = record {
  run = λ h keeps task folder count numbers visits start after alone name_of is_spoken outputs tells some all asked beside shares one.
      shares_leave_one (members g.I.Device g.I.DeviceIn) (writer g.O.Device g.O.DeviceOut) (writer g.W.Device g.W.DeviceOut) (writer g.E.Device g.E.DeviceOut) h keeps task folder count numbers visits start after alone name_of is_spoken outputs tells some all asked beside shares one;
}
