use Rattle.dcm_cli.proofs.Passes.Readers.{members, writer}
use Rattle.dcm_tree_laws.proofs.BehindAs as behind_as
use Rattle.dcm_tree_laws.proofs.BehindBy as behind
use Rattle.dcm_tree_laws.proofs.ElseBy as others
use Rattle.dcm_tree_laws.proofs.RowsToldBy as rows
use Rattle.dcm_tree_laws.proofs.ToldAsBy as rows_as
use Rattle.dcm_tree_laws.proofs.TogetherBy as together
use Rattle.dcm_tree_laws.proofs.ToldBy as told
use Rattle.dcm_tree_laws.proofs.laws.parts_are_one.Goals as goal

pub returns-clause-files : goal.returns-clause-files
returns-clause-files g c = λ h task folder first x mode bytes count numbers after alone tells named some each runs run.
    together.parts_are_one (members g.I.Device g.I.DeviceIn) (writer g.O.Device g.O.DeviceOut) (writer g.W.Device g.W.DeviceOut) (writer g.E.Device g.E.DeviceOut) h task folder first x mode bytes count numbers after alone tells named some each runs run

pub returns-clause-nothing_else : goal.returns-clause-nothing_else
returns-clause-nothing_else g c = λ h task folder first place count numbers after no_part runs.
    others.nothing_else (members g.I.Device g.I.DeviceIn) (writer g.O.Device g.O.DeviceOut) (writer g.W.Device g.W.DeviceOut) (writer g.E.Device g.E.DeviceOut) h task folder first place count numbers after no_part runs

pub returns-clause-instances : goal.returns-clause-instances
returns-clause-instances g c = λ h task folder first x mode bytes out uids count numbers after alone tells named some each runs run.
    together.instances_are_one (members g.I.Device g.I.DeviceIn) (writer g.O.Device g.O.DeviceOut) (writer g.W.Device g.W.DeviceOut) (writer g.E.Device g.E.DeviceOut) h task folder first x mode bytes out uids count numbers after alone tells named some each runs run

pub returns-clause-nothing_else_as : goal.returns-clause-nothing_else_as
returns-clause-nothing_else_as g c = λ h task folder first place count numbers after tells plain no_part runs.
    others.nothing_else_as (members g.I.Device g.I.DeviceIn) (writer g.O.Device g.O.DeviceOut) (writer g.W.Device g.W.DeviceOut) (writer g.E.Device g.E.DeviceOut) h task folder first place count numbers after tells plain no_part runs

pub returns-clause-fate : goal.returns-clause-fate
returns-clause-fate g c = λ h m number n mode bytes from before done to after tells keeps part_is none named free does.
    told.fate_is_told (members g.I.Device g.I.DeviceIn) (writer g.O.Device g.O.DeviceOut) (writer g.E.Device g.E.DeviceOut) h m number n mode bytes from before done to after tells keeps part_is none named free does

pub returns-clause-rows : goal.returns-clause-rows
returns-clause-rows g c = λ h task folder first visits became count numbers after tells each all once runs goes.
    rows.rows_are_told (members g.I.Device g.I.DeviceIn) (writer g.O.Device g.O.DeviceOut) (writer g.W.Device g.W.DeviceOut) (writer g.E.Device g.E.DeviceOut) h task folder first visits became count numbers after tells each all once runs goes

pub returns-clause-rows_as : goal.returns-clause-rows_as
returns-clause-rows_as g c = λ h task folder first visits became count numbers after tells each all once runs.
    rows_as.rows_are_told_as (members g.I.Device g.I.DeviceIn) (writer g.O.Device g.O.DeviceOut) (writer g.W.Device g.W.DeviceOut) (writer g.E.Device g.E.DeviceOut) h task folder first visits became count numbers after tells each all once runs

pub returns-clause-rows_behind : goal.returns-clause-rows_behind
returns-clause-rows_behind g c = λ h task folder first visits same became count numbers after tells each all runs goes.
    behind.rows_are_told_behind (members g.I.Device g.I.DeviceIn) (writer g.O.Device g.O.DeviceOut) (writer g.W.Device g.W.DeviceOut) (writer g.E.Device g.E.DeviceOut) h task folder first visits same became count numbers after tells each all runs goes

pub returns-clause-rows_behind_as : goal.returns-clause-rows_behind_as
returns-clause-rows_behind_as g c = λ h task folder first visits same became count numbers after tells each all runs.
    behind_as.rows_are_told_behind_as (members g.I.Device g.I.DeviceIn) (writer g.O.Device g.O.DeviceOut) (writer g.W.Device g.W.DeviceOut) (writer g.E.Device g.E.DeviceOut) h task folder first visits same became count numbers after tells each all runs
