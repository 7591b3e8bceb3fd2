use Rattle.dcm_cli.proofs.Passes.Readers.{members, writer}
use Rattle.dcm_tree_laws.proofs.AllVisited as visited
use Rattle.dcm_tree_laws.proofs.VisitedRuns as runs
use Rattle.dcm_tree_laws.proofs.laws.files_are_visited.Goals as goal

pub returns-clause-folder : goal.returns-clause-folder
returns-clause-folder g c = λ h gives run start path begun opened headed from before status left to after all ready v stop has.
    visited.files_are_visited (members g.I.Device g.I.DeviceIn) (writer g.O.Device g.O.DeviceOut) (writer g.W.Device g.W.DeviceOut) (writer g.E.Device g.E.DeviceOut) h gives run start path begun opened headed from before status left to after all ready v stop has

pub returns-clause-told : goal.returns-clause-told
returns-clause-told g c = λ h gives run start path begun opened headed from before status left to after all ready v stop has.
    visited.files_are_told (members g.I.Device g.I.DeviceIn) (writer g.O.Device g.O.DeviceOut) (writer g.W.Device g.W.DeviceOut) (writer g.E.Device g.E.DeviceOut) h gives run start path begun opened headed from before status left to after all ready v stop has

pub returns-clause-run : goal.returns-clause-run
returns-clause-run g c = λ h gives run path start manifest from status left to after itself does.
    runs.files_of_run_are_visited (members g.I.Device g.I.DeviceIn) (writer g.O.Device g.O.DeviceOut) (writer g.W.Device g.W.DeviceOut) (writer g.E.Device g.E.DeviceOut) h gives run path start manifest from status left to after itself does

pub returns-clause-run_told : goal.returns-clause-run_told
returns-clause-run_told g c = λ h gives run path start manifest from status left to after itself does.
    runs.files_of_run_are_told (members g.I.Device g.I.DeviceIn) (writer g.O.Device g.O.DeviceOut) (writer g.W.Device g.W.DeviceOut) (writer g.E.Device g.E.DeviceOut) h gives run path start manifest from status left to after itself does
