use Rattle.dcm_cli.proofs.Passes.Readers.{members, writer}
use Rattle.dcm_tree_laws.proofs.ApartBy as apart
use Rattle.dcm_tree_laws.proofs.laws.outputs_lie_apart.Goals as goal

pub returns-clause-run : goal.returns-clause-run
returns-clause-run g c = λ h run path start manifest from status left to after met does.
    apart.outputs_lie_apart (members g.I.Device g.I.DeviceIn) (writer g.O.Device g.O.DeviceOut) (writer g.W.Device g.W.DeviceOut) (writer g.E.Device g.E.DeviceOut) h run path start manifest from status left to after met does

pub returns-clause-new : goal.returns-clause-new
returns-clause-new g c = λ h gives itself run path start manifest from status left to after new does.
    apart.outputs_begin_empty (members g.I.Device g.I.DeviceIn) (writer g.O.Device g.O.DeviceOut) (writer g.W.Device g.W.DeviceOut) (writer g.E.Device g.E.DeviceOut) h gives itself run path start manifest from status left to after new does
