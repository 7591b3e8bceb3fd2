use Rattle.dcm_cli.proofs.Passes.Readers.{members, writer}
use Rattle.dcm_tree_laws.proofs.HalvesBy as halves
use Rattle.dcm_tree_laws.proofs.Programs as programs
use Rattle.dcm_tree_laws.proofs.laws.never_half.Goals as goal

pub returns-clause-run : goal.returns-clause-run
returns-clause-run g c = λ h run source start manifest from status left to after does.
    halves.never_half (members g.I.Device g.I.DeviceIn) (writer g.O.Device g.O.DeviceOut) (writer g.W.Device g.W.DeviceOut) (writer g.E.Device g.E.DeviceOut) h run source start manifest from status left to after does

pub returns-clause-bytes : goal.returns-clause-bytes
returns-clause-bytes g c = λ h run source start manifest from status left to after all does.
    halves.never_half_of_bytes (members g.I.Device g.I.DeviceIn) (writer g.O.Device g.O.DeviceOut) (writer g.W.Device g.W.DeviceOut) (writer g.E.Device g.E.DeviceOut) h run source start manifest from status left to after all does

pub returns-clause-words : goal.returns-clause-words
returns-clause-words g c = λ h words t start from status to after meant obeys.
    programs.never_half (members g.I.Device g.I.DeviceIn) (writer g.O.Device g.O.DeviceOut) (writer g.E.Device g.E.DeviceOut) h words t start from status to after meant obeys
