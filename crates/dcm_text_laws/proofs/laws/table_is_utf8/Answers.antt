use Rattle.dcm_cli.proofs.Passes.Readers.{members, writer}
use Rattle.dcm_text_laws.proofs.LeftUtf8.{header_is_utf8, row_grows, table_grows}
use Rattle.dcm_text_laws.proofs.Standing.{table_end, table_so_far}
use Rattle.dcm_text_laws.proofs.Tables.{table_utf8}
use Rattle.dcm_text_laws.proofs.laws.table_is_utf8.Goals as goal

pub returns-clause-all : goal.returns-clause-all
returns-clause-all g c = table_utf8

pub returns-clause-so_far : goal.returns-clause-so_far
returns-clause-so_far g c = table_so_far

pub returns-clause-end : goal.returns-clause-end
returns-clause-end g c = table_end

pub returns-clause-header : goal.returns-clause-header
returns-clause-header g c = header_is_utf8

pub returns-clause-left_of_row : goal.returns-clause-left_of_row
returns-clause-left_of_row g c = λ columns form name errors from to before status after gives valid named does.
    row_grows (members g.S.Input.Device g.S.Input.DeviceIn) (writer g.W.Device g.W.DeviceOut) columns form name errors from to before status after gives valid named does

pub returns-clause-left_of_all : goal.returns-clause-left_of_all
returns-clause-left_of_all g c = λ words t errors from to before status after gives meant valid writes.
    table_grows g.S.System.may_do (members g.S.Input.Device g.S.Input.DeviceIn) (writer g.W.Device g.W.DeviceOut) words t errors from to before status after gives meant valid writes
