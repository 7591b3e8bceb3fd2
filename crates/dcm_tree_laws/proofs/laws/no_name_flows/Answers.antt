use Rattle.dcm_cli.proofs.Passes.Readers.{members, writer}
use Rattle.dcm_tree_laws.proofs.FlowsBy as runs
use Rattle.dcm_tree_laws.proofs.TakenBy as taken
use Rattle.dcm_tree_laws.proofs.laws.no_name_flows.Goals as goal

pub returns-clause-name : goal.returns-clause-name
returns-clause-name g c = λ h m v w from to before after done from_other to_other start end other tells by text of_output none lacks follows leads pair does does_too gone too same.
    runs.same_becomes (members g.I.Device g.I.DeviceIn) (writer g.O.Device g.O.DeviceOut) (writer g.E.Device g.E.DeviceOut) h m v w from to before after done from_other to_other start end other tells by text of_output none lacks follows leads pair does does_too gone too same

pub returns-clause-run : goal.returns-clause-run
returns-clause-run g c = λ h first second before start after end visits others status again tells task output one other pairs same.
    runs.leave_the_same (members g.I.Device g.I.DeviceIn) (writer g.O.Device g.O.DeviceOut) (writer g.W.Device g.W.DeviceOut) (writer g.E.Device g.E.DeviceOut) h first second before start after end visits others status again tells task output one other pairs same

pub returns-clause-taken : goal.returns-clause-taken
returns-clause-taken g c = λ h first second before start after end visits others status again tells task output one other pairs same.
    taken.nothing_taken_flows (members g.I.Device g.I.DeviceIn) (writer g.O.Device g.O.DeviceOut) (writer g.W.Device g.W.DeviceOut) (writer g.E.Device g.E.DeviceOut) h first second before start after end visits others status again tells task output one other pairs same
