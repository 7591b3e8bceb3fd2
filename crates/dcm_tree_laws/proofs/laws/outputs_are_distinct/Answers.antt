use Rattle.dcm_cli.proofs.Passes.Readers.{members, writer}
use Rattle.dcm_tree_laws.proofs.DistinctBy as distinct
use Rattle.dcm_tree_laws.proofs.laws.outputs_are_distinct.Goals as goal

pub returns-clause-folder : goal.returns-clause-folder
returns-clause-folder g c = λ h run path begun opened headed from before status left to after none part v stop.
    distinct.outputs_are_distinct (members g.I.Device g.I.DeviceIn) (writer g.O.Device g.O.DeviceOut) (writer g.W.Device g.W.DeviceOut) (writer g.E.Device g.E.DeviceOut) h run path begun opened headed from before status left to after none part v stop

pub returns-clause-list : goal.returns-clause-list
returns-clause-list g c = λ h run list begun input headed from before status left to after read none part v stop.
    distinct.distinct_in_list (members g.I.Device g.I.DeviceIn) (writer g.O.Device g.O.DeviceOut) (writer g.W.Device g.W.DeviceOut) (writer g.E.Device g.E.DeviceOut) h run list begun input headed from before status left to after read none part v stop
