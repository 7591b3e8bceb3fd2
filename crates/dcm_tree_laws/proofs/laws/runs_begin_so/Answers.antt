use Rattle.dcm_cli.proofs.Passes.Readers.{members, writer}
use Rattle.dcm_tree_laws.proofs.CourseBy as course
use Rattle.dcm_tree_laws.proofs.laws.runs_begin_so.Goals as goal

pub returns-clause-run : goal.returns-clause-run
returns-clause-run g c = λ h run source start manifest from status left to after does.
    course.runs_begin_so (members g.I.Device g.I.DeviceIn) (writer g.O.Device g.O.DeviceOut) (writer g.W.Device g.W.DeviceOut) (writer g.E.Device g.E.DeviceOut) h run source start manifest from status left to after does

pub returns-clause-held : goal.returns-clause-held
returns-clause-held g c = λ h run source start manifest from status left to after does.
    course.runs_of_held_begin_so (members g.I.Device g.I.DeviceIn) (writer g.O.Device g.O.DeviceOut) (writer g.W.Device g.W.DeviceOut) (writer g.E.Device g.E.DeviceOut) h run source start manifest from status left to after does

pub returns-clause-sure : goal.returns-clause-sure
returns-clause-sure g c = λ h run source start manifest from status left to after does.
    course.sure_runs_begin_so (members g.I.Device g.I.DeviceIn) (writer g.O.Device g.O.DeviceOut) (writer g.W.Device g.W.DeviceOut) (writer g.E.Device g.E.DeviceOut) h run source start manifest from status left to after does

pub returns-clause-working : goal.returns-clause-working
returns-clause-working g c = λ h run source start manifest from status left to after does.
    course.working_runs_begin_so (members g.I.Device g.I.DeviceIn) (writer g.O.Device g.O.DeviceOut) (writer g.W.Device g.W.DeviceOut) (writer g.E.Device g.E.DeviceOut) h run source start manifest from status left to after does
