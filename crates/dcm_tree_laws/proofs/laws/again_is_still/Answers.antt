use Rattle.dcm_cli.proofs.Passes.Readers.{members, writer}
use Rattle.dcm_tree_laws.proofs.Left as names
use Rattle.dcm_tree_laws.proofs.MadeBy as made
use Rattle.dcm_tree_laws.proofs.StillBy as runs
use Rattle.dcm_tree_laws.proofs.TwiceBy as twice
use Rattle.dcm_tree_laws.proofs.laws.again_is_still.Goals as goal

pub returns-clause-name : goal.returns-clause-name
returns-clause-name g c = λ h m n mode from before r to after goes keeps no_index there does.
    names.there_is_left (members g.I.Device g.I.DeviceIn) (writer g.O.Device g.O.DeviceOut) (writer g.E.Device g.E.DeviceOut) h m n mode from before r to after goes keeps no_index there does

pub returns-clause-folder : goal.returns-clause-folder
returns-clause-folder g c = λ h run path begun opened headed from before status left to after goes keeps quiet part none v stop.
    runs.again_is_still (members g.I.Device g.I.DeviceIn) (writer g.O.Device g.O.DeviceOut) (writer g.W.Device g.W.DeviceOut) (writer g.E.Device g.E.DeviceOut) h run path begun opened headed from before status left to after goes keeps quiet part none v stop

pub returns-clause-list : goal.returns-clause-list
returns-clause-list g c = λ h run list begun input headed from before status left to after read goes keeps quiet part none v stop.
    runs.still_by_list (members g.I.Device g.I.DeviceIn) (writer g.O.Device g.O.DeviceOut) (writer g.W.Device g.W.DeviceOut) (writer g.E.Device g.E.DeviceOut) h run list begun input headed from before status left to after read goes keeps quiet part none v stop

pub returns-clause-made : goal.returns-clause-made
returns-clause-made g c = λ h run path begun opened headed from before status left to after keeps none part v stop.
    made.made_is_there (members g.I.Device g.I.DeviceIn) (writer g.O.Device g.O.DeviceOut) (writer g.W.Device g.W.DeviceOut) (writer g.E.Device g.E.DeviceOut) h run path begun opened headed from before status left to after keeps none part v stop

pub returns-clause-made_by_list : goal.returns-clause-made_by_list
returns-clause-made_by_list g c = λ h run list begun input headed from before status left to after read keeps none part v stop.
    made.made_by_list (members g.I.Device g.I.DeviceIn) (writer g.O.Device g.O.DeviceOut) (writer g.W.Device g.W.DeviceOut) (writer g.E.Device g.E.DeviceOut) h run list begun input headed from before status left to after read keeps none part v stop

pub returns-clause-twice : goal.returns-clause-twice
returns-clause-twice g c = λ h first second path begun again opened reopened headed reheaded from refrom before mid after status restatus left releft to reto outputs shares v x wrote y names.
    twice.second_is_still (members g.I.Device g.I.DeviceIn) (writer g.O.Device g.O.DeviceOut) (writer g.W.Device g.W.DeviceOut) (writer g.E.Device g.E.DeviceOut) h first second path begun again opened reopened headed reheaded from refrom before mid after status restatus left releft to reto outputs shares v x wrote y names
