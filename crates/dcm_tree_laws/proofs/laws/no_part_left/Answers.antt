use Rattle.dcm_cli.proofs.Passes.Readers.{members, writer}
use Rattle.dcm_tree_laws.proofs.PartOfRuns as runs
use Rattle.dcm_tree_laws.proofs.PartsBy as parts
use Rattle.dcm_tree_laws.proofs.laws.no_part_left.Goals as goal

pub returns-clause-run : goal.returns-clause-run
returns-clause-run g c = λ h run source start manifest from status left to after apart does.
    runs.after_run (members g.I.Device g.I.DeviceIn) (writer g.O.Device g.O.DeviceOut) (writer g.W.Device g.W.DeviceOut) (writer g.E.Device g.E.DeviceOut) h run source start manifest from status left to after apart does

pub returns-clause-folder : goal.returns-clause-folder
returns-clause-folder g c = λ h run path begun opened headed from before status left to after none part v.
    parts.no_part_left (members g.I.Device g.I.DeviceIn) (writer g.O.Device g.O.DeviceOut) (writer g.W.Device g.W.DeviceOut) (writer g.E.Device g.E.DeviceOut) h run path begun opened headed from before status left to after none part v

pub returns-clause-list : goal.returns-clause-list
returns-clause-list g c = λ h run list begun input headed from before status left to after read none part v.
    parts.no_part_left_by_list (members g.I.Device g.I.DeviceIn) (writer g.O.Device g.O.DeviceOut) (writer g.W.Device g.W.DeviceOut) (writer g.E.Device g.E.DeviceOut) h run list begun input headed from before status left to after read none part v
